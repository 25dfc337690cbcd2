use Rattle.std.proofs.Common.{◌≡◌, ◌≤◌, ◌+◌, ◌-◌, ◌*◌, ℕ, min, List, Some, Ok, length, take, drop, false}
use Rattle.std.specs.List.{All}
use Rattle.iq_block_store.specs.Looks.{HasLooked}
use Rattle.iq_block_map.specs.Objects.{leaf_count, joined, listed}
use Rattle.iq_objects.proofs.blocks.read_leaves.Given as goal

abbrev pub invariant-loop-k : goal.invariant-loop-k
invariant-loop-k g l = record {
  looked : HasLooked g.D.Device l.fn.disk l.disk;
  so_far : (all : List (List ℕ)) → g.D.Device.blocks l.fn.disk ≡ Some all
      → joined (Ok l.into.items) (listed false all (l.pages - 252 * l.k) (drop l.k (take (leaf_count l.pages) l.leaves)))
      ≡ listed false all l.pages (take (leaf_count l.pages) l.leaves);
  size : length l.into.items ≡ min l.pages (252 * l.k);
  above : All (λ a. 4 ≤ a) l.into.items;
  room : l.pages ≤ length l.into.items + l.into.room;
}

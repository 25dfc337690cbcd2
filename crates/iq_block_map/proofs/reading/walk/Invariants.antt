use Rattle.std.proofs.Common.{◌≡◌, ◌-◌, ◌*◌, ℕ, List, Some, Ok, take, drop}
use Rattle.iq_block_store.specs.Looks.{HasLooked}
use Rattle.iq_block_map.specs.Objects.{leaf_count, joined, listed, walked}
use Rattle.iq_block_map.proofs.reading.walk.Given as goal

abbrev pub invariant-loop-k : goal.invariant-loop-k
invariant-loop-k g l = record {
  looked : HasLooked g.D.Device l.fn.disk l.disk;
  so_far : (all : List (List ℕ)) → g.D.Device.blocks l.fn.disk ≡ Some all
      → joined (Ok l.blocks.items) (listed l.maps all (l.object.pages - 252 * l.k) (drop l.k (take (leaf_count l.object.pages) l.leaves)))
      ≡ walked l.maps all l.object;
}

use Rattle.std.proofs.Common.{◌≡◌, take, map}
use Rattle.std.specs.List.{All}
use Rattle.iq_hg_leaves.specs.declared.spots.Spot.{Spot}
use Rattle.iq_hg_leaves.specs.Entries.{entries_from}
use Rattle.iq_hg_leaves.specs.Spots.{entry_of}
use Rattle.iq_hg_leaves.proofs.sorting.spots_of.Given as goal

abbrev pub invariant-loop-i : goal.invariant-loop-i
invariant-loop-i l = record {
  all : map entry_of l.spots.items ≡ entries_from l.first (take l.i l.cells.values);
  same : All (λ (spot : Spot). spot.cells.now.kind ≡ l.cells.kind) l.spots.items;
}

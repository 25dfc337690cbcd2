use Rattle.std.proofs.Common.{◌≡◌, take, map}
use Rattle.iq_hg_leaves.specs.Spots.{entry_of}
use Rattle.iq_hg_leaves.proofs.sorting.listed.Given as goal

abbrev pub invariant-loop-spot : goal.invariant-loop-spot
invariant-loop-spot l = l.list ≡ record { kind = l.cells.kind; entries = map entry_of (take l.spot-index l.spots) }

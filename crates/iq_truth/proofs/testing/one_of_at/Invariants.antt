use Rattle.std.proofs.Common.{◌≡◌, take}
use Rattle.iq_cells.specs.Packed.{value_at}
use Rattle.iq_truth.specs.Comparisons.{one_of}
use Rattle.iq_truth.proofs.testing.one_of_at.Given as goal

abbrev pub invariant-loop-value : goal.invariant-loop-value
invariant-loop-value l = l.truth ≡ one_of (value_at l.i l.cells.values) (take l.value-index l.values)

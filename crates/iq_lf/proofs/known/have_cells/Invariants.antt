use Rattle.std.proofs.Common.{◌<◌, ℕ}
use Rattle.iq_base.specs.Cells.{IsCell, cell}
use Rattle.iq_cells.specs.Packed.{value_at}
use Rattle.iq_lf.proofs.known.have_cells.Given as goal

abbrev pub invariant-loop-i : goal.invariant-loop-i
invariant-loop-i l = (k : ℕ) → k < l.i → IsCell l.cells.kind (value_at k l.cells.values) (cell l.cells.kind (value_at k l.cells.values))

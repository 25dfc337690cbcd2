use Rattle.std.proofs.Common.{below_more}
use Rattle.iq_fp.proofs.Readings.{own_cell}
use Rattle.iq_lf.proofs.known.have_cells.Goals as goal

pub loop-i-preserved : goal.loop-i-preserved
loop-i-preserved c = below_more _ _ c.loop-i.invariant (own_cell _ _ _ c.cell-cell.ensures.cell)

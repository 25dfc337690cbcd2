use Rattle.iq_cells.proofs.GrowLaws.{long_none, rows_none}
use Rattle.iq_cells.proofs.rows.Rows.empty.Goals as goal

pub invariant_of-result : goal.invariant_of-result
invariant_of-result c = rw c.in_ok-no_values.ensures (long_none c.args.columns.now)

pub returns : goal.returns
returns c = rw c.in_ok-no_values.ensures (rows_none c.args.columns.now)

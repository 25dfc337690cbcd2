use Rattle.std.proofs.Common.{◌≡◌, ◌++◌, drop}
use Rattle.iq_statements.specs.Rows.{kept_rows}
use Rattle.iq_plain_tables.specs.Plain.{rows_in}
use Rattle.iq_plain_tables.proofs.rows.true_slots.Given as goal

abbrev pub invariant-loop-slot : goal.invariant-loop-slot
invariant-loop-slot l = l.rows ++ kept_rows l.columns l.cond (rows_in (drop l.slot-index l.slots)) ≡ kept_rows l.columns l.cond (rows_in l.slots)

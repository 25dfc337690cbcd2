use Rattle.std.proofs.Common.{◌≡◌, ◌+◌, ◌≤◌, length, drop}
use Rattle.iq_statements.specs.Rows.{kept_rows}
use Rattle.iq_plain_tables.specs.Plain.{rows_in}
use Rattle.iq_plain_tables.proofs.rows.count_slots.Given as goal

abbrev pub invariant-loop-slot : goal.invariant-loop-slot
invariant-loop-slot l =
    (l.count + length (kept_rows l.columns l.cond (rows_in (drop l.slot-index l.slots))) ≡ length (kept_rows l.columns l.cond (rows_in l.slots)))
    × (l.count ≤ l.slot-index)

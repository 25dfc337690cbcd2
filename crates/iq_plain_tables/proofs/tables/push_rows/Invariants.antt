use Rattle.std.proofs.Common.{◌≡◌, ◌++◌, map, take}
use Rattle.iq_statements.specs.Tables.{live_slot}
use Rattle.iq_plain_tables.proofs.tables.push_rows.Given as goal

abbrev pub invariant-loop-row : goal.invariant-loop-row
invariant-loop-row l = l.slots ≡ l.fn.slots ++ map live_slot (take l.row-index l.rows)

use Rattle.std.proofs.Common.{◌≡◌, ◌++◌, take}
use Rattle.iq_plain_tables.proofs.databases.push_tables.Given as goal

abbrev pub invariant-loop-table : goal.invariant-loop-table
invariant-loop-table l = l.put ≡ l.fn.put ++ take l.table-index l.tables

use Rattle.std.proofs.Common.{◌≡◌, ◌++◌, drop}
use Rattle.iq_statements.specs.Tables.{placed}
use Rattle.iq_plain_tables.proofs.databases.placed.Given as goal

abbrev pub invariant-loop-i : goal.invariant-loop-i
invariant-loop-i l = l.put ++ placed l.table (drop l.i l.tables) ≡ placed l.table l.fn.tables

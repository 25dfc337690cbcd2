use Rattle.std.proofs.Common.{◌≡◌, ◌++◌, drop}
use Rattle.iq_statements.specs.Tables.{replaced}
use Rattle.iq_plain_tables.proofs.databases.replaced.Given as goal

abbrev pub invariant-loop-i : goal.invariant-loop-i
invariant-loop-i l = l.put ++ replaced l.table (drop l.i l.tables) ≡ replaced l.table l.fn.tables

use Rattle.std.proofs.Common.{◌≡◌, ◌++◌, drop}
use Rattle.iq_statements.specs.Tables.{without_table}
use Rattle.iq_plain_tables.proofs.databases.without_table.Given as goal

abbrev pub invariant-loop-table : goal.invariant-loop-table
invariant-loop-table l = l.kept ++ without_table l.name (drop l.table-index l.tables) ≡ without_table l.name l.tables

use Rattle.std.proofs.Common.{◌≡◌}
use Rattle.iq_cells.specs.Growing.{kinds_of}
use Rattle.iq_column_tests.proofs.lists.rows.Given as goal

abbrev pub invariant-numbers : goal.invariant-numbers
invariant-numbers l = kinds_of l.columns.items ≡ l.rows.kinds

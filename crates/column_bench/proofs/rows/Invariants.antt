use Rattle.std.proofs.Common.{◌≡◌}
use Rattle.iq_cells.specs.Growing.{kinds_of}
use Rattle.column_bench.proofs.rows.Given as goal

abbrev pub invariant-numbers : goal.invariant-numbers
invariant-numbers l = kinds_of l.columns ≡ l.rows.kinds

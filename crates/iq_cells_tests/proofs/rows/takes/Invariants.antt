use Rattle.std.proofs.Common.{◌≡◌}
use Rattle.iq_cells.specs.Growing.{kinds_of}
use Rattle.iq_cells_tests.proofs.rows.takes.Given as goal

abbrev pub invariant-loop-row : goal.invariant-loop-row
invariant-loop-row g l = kinds_of l.columns ≡ l.rows.kinds

use Rattle.std.proofs.Common.{◌≡◌, ◌+◌, take, drop}
use Rattle.iq_cells.specs.Growing.{kinds_of}
use Rattle.iq_statements.specs.Named.{first_bad_row}
use Rattle.iq_write.proofs.rows.cells_of.Given as goal

-- the rows so far are good, and are there
abbrev pub invariant-loop-i : goal.invariant-loop-i
invariant-loop-i l =
    (l.cells ≡ record { kinds = kinds_of l.columns; rows = take l.i l.rows })
    × (first_bad_row (l.i + 1) l.columns (drop l.i l.rows) ≡ first_bad_row 1 l.columns l.rows)

use Rattle.std.proofs.Common.{◌≡◌, ◌+◌, drop}
use Rattle.iq_statements.specs.Named.{first_bad_row}
use Rattle.iq_write.proofs.rows.first_bad_row.Given as goal

-- the rows so far are good
abbrev pub invariant-loop-i : goal.invariant-loop-i
invariant-loop-i l = first_bad_row (l.i + 1) l.columns (drop l.i l.rows) ≡ first_bad_row 1 l.columns l.rows

use Rattle.std.proofs.Common.{◌≡◌, take}
use Rattle.iq_database.proofs.copies.copied_columns.Given as goal

-- the columns so far
abbrev pub invariant-loop-column : goal.invariant-loop-column
invariant-loop-column l = l.copy ≡ take l.column-index l.columns

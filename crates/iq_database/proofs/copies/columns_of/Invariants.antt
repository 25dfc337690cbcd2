use Rattle.std.proofs.Common.{◌≡◌, take}
use Rattle.iq_table.specs.Limits.{as_columns}
use Rattle.iq_database.proofs.copies.columns_of.Given as goal

-- the columns so far
abbrev pub invariant-loop-part : goal.invariant-loop-part
invariant-loop-part l = l.columns ≡ as_columns (take l.part-index l.table.columns)

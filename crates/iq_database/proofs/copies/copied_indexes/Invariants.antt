use Rattle.std.proofs.Common.{◌≡◌, take}
use Rattle.iq_database.proofs.copies.copied_indexes.Given as goal

-- the indexes so far
abbrev pub invariant-loop-index : goal.invariant-loop-index
invariant-loop-index l = l.copy ≡ take l.index-index l.indexes

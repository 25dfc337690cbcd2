use Rattle.std.proofs.Common.{◌≡◌, ◌++◌, length}
use Rattle.iq_literals.proofs.tuples.Tuples.unpacked.Given as goal

-- the rows so far, and those that are left
abbrev pub invariant-rows : goal.invariant-rows
invariant-rows l = l.rows ++ l.rest ≡ l.self

abbrev pub decreases-rows : goal.decreases-rows
decreases-rows l = length l.rest

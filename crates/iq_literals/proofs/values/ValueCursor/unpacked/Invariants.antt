use Rattle.std.proofs.Common.{◌≡◌, ◌++◌, length}
use Rattle.iq_literals.proofs.values.ValueCursor.unpacked.Given as goal

-- the values so far, and those that are left
abbrev pub invariant-values : goal.invariant-values
invariant-values l = l.values ++ l.self ≡ l.fn.self

abbrev pub decreases-values : goal.decreases-values
decreases-values l = length l.self

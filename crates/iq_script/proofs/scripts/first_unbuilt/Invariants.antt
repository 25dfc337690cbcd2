use Rattle.std.proofs.Common.{ℕ, length}
use Rattle.std.specs.List.{AllByRecursion}
use Rattle.iq_model.specs.Scripts.{IsRunnableLine}
use Rattle.iq_script.specs.Scripts.{IsFirstUnbuilt}
use Rattle.iq_script.proofs.scripts.first_unbuilt.Given as goal

abbrev pub invariant-lines : goal.invariant-lines
invariant-lines l = (AllByRecursion IsRunnableLine l.lines → AllByRecursion IsRunnableLine l.initial.lines) × ((n : ℕ) → IsFirstUnbuilt l.lines n → IsFirstUnbuilt l.initial.lines n)

abbrev pub decreases-lines : goal.decreases-lines
decreases-lines l = length l.lines

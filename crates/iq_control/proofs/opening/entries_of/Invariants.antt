use Rattle.std.proofs.Common.{◌≡◌, ◌+◌, drop}
use Rattle.iq_control.specs.Opened.{entries_due}
use Rattle.iq_control.proofs.opening.entries_of.Given as goal

abbrev pub invariant-loop-spec : goal.invariant-loop-spec
invariant-loop-spec l = l.due + entries_due (drop l.spec-index l.specs) ≡ entries_due l.specs

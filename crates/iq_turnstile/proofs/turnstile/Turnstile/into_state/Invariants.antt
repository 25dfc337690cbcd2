use Rattle.iq_turnstile.specs.Passes.{HasJoined}
use Rattle.iq_turnstile.proofs.turnstile.Turnstile.into_state.Given as goal

abbrev pub invariant-loop-other : goal.invariant-loop-other
invariant-loop-other g l = HasJoined l.self l.fn.passes.items l.passes.items l.seat

abbrev pub decreases-loop-other : goal.decreases-loop-other
decreases-loop-other g l = goal.left-loop-other g l

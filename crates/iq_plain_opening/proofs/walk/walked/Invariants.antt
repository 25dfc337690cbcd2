use Rattle.std.proofs.Common.{◌≡◌, drop, length}
use Rattle.iq_opening.specs.Walk.{walked}
use Rattle.iq_opening.specs.Opening.{none_reached}
use Rattle.iq_plain_opening.proofs.walk.walked.Given as goal

abbrev pub invariant-loop-step : goal.invariant-loop-step
invariant-loop-step l =
    walked l.blocks l.reached.items (drop l.step-index l.steps) ≡ walked l.blocks (none_reached (length l.blocks)) l.steps

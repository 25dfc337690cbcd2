use Rattle.std.proofs.Common.{◌≡◌, take, map, filter}
use Rattle.iq_replay.specs.Start.{is_step}
use Rattle.iq_plain_state.proofs.starting.steps_of.Given as goal

abbrev pub invariant-loop-line : goal.invariant-loop-line
invariant-loop-line l = map (λ line. line.now) l.found.items ≡ filter is_step (take l.line-index l.lines)

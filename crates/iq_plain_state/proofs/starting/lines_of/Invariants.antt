use Rattle.std.proofs.Common.{◌≡◌, take, map, filter}
use Rattle.iq_replay.specs.Start.{is_of}
use Rattle.iq_plain_state.proofs.starting.lines_of.Given as goal

abbrev pub invariant-loop-line : goal.invariant-loop-line
invariant-loop-line l = map (λ line. line.now) l.found.items ≡ filter (is_of l.place) (take l.line-index l.lines)

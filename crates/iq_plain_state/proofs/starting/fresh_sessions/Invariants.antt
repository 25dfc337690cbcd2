use Rattle.std.proofs.Common.{◌≡◌, ◌++◌, drop}
use Rattle.iq_replay.specs.Start.{sessions_from}
use Rattle.iq_plain_state.proofs.starting.fresh_sessions.Given as goal

abbrev pub invariant-loop-place : goal.invariant-loop-place
invariant-loop-place l = l.sessions.items ++ sessions_from l.place l.lines (drop l.place l.specs) ≡ sessions_from 0 l.lines l.specs

use Rattle.std.proofs.Common.{◌≡◌, drop}
use Rattle.iq_replay.specs.Lines.{first_running}
use Rattle.iq_plain_runs.proofs.ending.first_running.Given as goal

abbrev pub invariant-loop-place : goal.invariant-loop-place
invariant-loop-place l = first_running l.place (drop l.place l.session-items) ≡ first_running 0 l.state.sessions

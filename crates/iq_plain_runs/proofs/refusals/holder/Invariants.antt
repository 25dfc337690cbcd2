use Rattle.std.proofs.Common.{◌≡◌, drop}
use Rattle.iq_replay.specs.Refusals.{holder_from}
use Rattle.iq_plain_runs.proofs.refusals.holder.Given as goal

abbrev pub invariant-loop-place : goal.invariant-loop-place
invariant-loop-place l = holder_from l.place (drop l.place l.session-items) l.asks l.name ≡ holder_from 0 l.state.sessions l.asks l.name

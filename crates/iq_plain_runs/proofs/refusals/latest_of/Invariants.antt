use Rattle.std.proofs.Common.{◌≡◌, drop}
use Rattle.iq_replay.specs.Commits.{latest_of}
use Rattle.iq_plain_runs.proofs.refusals.latest_of.Given as goal

abbrev pub invariant-loop-written : goal.invariant-loop-written
invariant-loop-written l = latest_of l.name (drop l.written-index l.written-items) ≡ latest_of l.name l.state.wrote

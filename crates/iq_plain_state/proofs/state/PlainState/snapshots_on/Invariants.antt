use Rattle.std.proofs.Common.{◌≡◌, ◌++◌, drop}
use Rattle.std.specs.List.{filter_map}
use Rattle.iq_replay.specs.Nodes.{snapshot_on, snapshots_on}
use Rattle.iq_plain_state.proofs.state.PlainState.snapshots_on.Given as goal

abbrev pub invariant-loop-session : goal.invariant-loop-session
invariant-loop-session l = l.found.items ++ filter_map (snapshot_on l.n) (drop l.session-index l.session-items) ≡ snapshots_on l.self l.n

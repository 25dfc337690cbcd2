use Rattle.std.proofs.Common.{◌≡◌, ◌++◌, drop}
use Rattle.iq_replay.specs.Said.{versions_from}
use Rattle.iq_plain_state.proofs.state.PlainState.node_versions.Given as goal

abbrev pub invariant-loop-place : goal.invariant-loop-place
invariant-loop-place l = l.told ++ versions_from l.self l.place (drop l.place l.node-items) ≡ versions_from l.self 0 l.self.nodes

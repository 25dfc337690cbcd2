use Rattle.std.proofs.Common.{◌≡◌, ◌++◌, drop}
use Rattle.iq_replay.specs.Nodes.{bounds_from}
use Rattle.iq_plain_state.proofs.state.PlainState.bounds.Given as goal

abbrev pub invariant-loop-place : goal.invariant-loop-place
invariant-loop-place l = l.found.items ++ bounds_from l.self l.place (drop l.place l.nodes) ≡ bounds_from l.self 0 l.nodes

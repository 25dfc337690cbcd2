use Rattle.std.proofs.Common.{◌≡◌, take, map}
use Rattle.iq_replay.specs.Start.{node_start}
use Rattle.iq_control.proofs.opening.fresh_nodes.Given as goal

abbrev pub invariant-loop-spec : goal.invariant-loop-spec
invariant-loop-spec l = l.nodes.items ≡ map node_start (take l.spec-index l.specs)

use Rattle.std.proofs.Common.{◌≡◌, replicate}
use Rattle.iq_world.specs.Opening.{fresh_node}
use Rattle.iq_world.proofs.openings.fresh_nodes.Given as goal

abbrev pub invariant-loop-node : goal.invariant-loop-node
invariant-loop-node l = l.all.items ≡ replicate l._node fresh_node

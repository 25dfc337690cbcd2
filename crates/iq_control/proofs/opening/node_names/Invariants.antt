use Rattle.std.proofs.Common.{◌≡◌, map, take}
use Rattle.iq_base.specs.declared.nodes.NodeSpec.{NodeSpec}
use Rattle.iq_control.proofs.opening.node_names.Given as goal

-- the names of those so far
abbrev pub invariant-loop-node : goal.invariant-loop-node
invariant-loop-node l = l.names.items ≡ map (λ (n : NodeSpec). n.name) (take l.node-index l.nodes)

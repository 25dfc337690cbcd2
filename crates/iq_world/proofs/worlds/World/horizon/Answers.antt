use Rattle.std.proofs.Common.{ap, ◌∙◌, drop, List, arith}
use Rattle.std.specs.List.{fold}
use Rattle.std.proofs.lemmas.List.{take_all}
use Rattle.iq_world.specs.declared.worlds.WorldNode.{WorldNode}
use Rattle.iq_world.specs.Floors.{floor_of}
use Rattle.iq_world.proofs.Lows.{lower_taken, horizon_is}
use Rattle.iq_world.proofs.worlds.World.horizon.Goals as goal

pub returns : goal.returns
returns c =
    let w = c.args.self.now in
    let ns = drop 1 w.nodes in
    c.loop-node.invariant ∙ ap (λ (xs : List WorldNode). fold lower_taken (floor_of w 0) xs) (take_all c.loop-node.node-index _ (omega arith))
    ∙ ap (λ (xs : List WorldNode). fold lower_taken (floor_of w 0) xs) (c.secondaries-node-items.ensures ∙ ap (λ (xs : List WorldNode). drop 1 xs) c.as_slice.ensures) ∙ horizon_is (floor_of w 0) ns

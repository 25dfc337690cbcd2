use Rattle.iq_opening.proofs.Parts.{leaves_end}
use Rattle.iq_plain_opening.proofs.More.{leaves_on, steps_done}
use Rattle.iq_plain_opening.proofs.steps.push_leaves.Goals as goal

pub loop-leaf-preserved : goal.loop-leaf-preserved
loop-leaf-preserved c =
    leaves_on c.args.blocks.now c.args.top c.loop-leaf.left _ _ c.loop-leaf.leaf-index c.args.leaves.now c.loop-leaf.out _ _ c.loop-leaf-test.true c.min.ensures
    c.saturating_sub-left.ensures c.in_ok-push_leaf.ensures c.loop-leaf.invariant

pub returns : goal.returns
returns c =
    steps_done c.loop-leaf.out _ _ (leaves_end c.args.blocks.now c.args.top c.loop-leaf.left c.loop-leaf.leaf-index c.args.leaves.now c.loop-leaf-test.false)
    c.loop-leaf.invariant

use Rattle.iq_opening.proofs.Wholes.{tables_end}
use Rattle.iq_plain_opening.proofs.More.{tables_on, steps_done}
use Rattle.iq_plain_opening.proofs.steps.tables_steps.Goals as goal

pub loop-head-preserved : goal.loop-head-preserved
loop-head-preserved c =
    tables_on c.args.blocks.now c.args.body c.loop-head.head-index c.loop-head.before _ c.args.heads.now c.loop-head.out _ _ c.loop-head-test.true
    c.in_ok-before.ensures.name c.in_ok-before.ensures.steps c.loop-head.invariant

pub returns : goal.returns
returns c =
    steps_done c.loop-head.out _ _ (tables_end c.args.blocks.now c.args.body c.loop-head.head-index c.loop-head.before c.args.heads.now c.loop-head-test.false)
    c.loop-head.invariant

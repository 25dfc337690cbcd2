use Rattle.iq_opening.proofs.Parts.{columns_end}
use Rattle.iq_plain_opening.proofs.More.{columns_on, steps_done}
use Rattle.iq_plain_opening.proofs.steps.push_columns.Goals as goal

pub loop-k-preserved : goal.loop-k-preserved
loop-k-preserved c =
    columns_on c.args.blocks.now c.args.numbers.now c.loop-k.k c.args.columns.now c.index-columns-k.result c.loop-k.out _ _ c.loop-k-test.true
    c.index-columns-k.is c.in_ok-push_column.ensures c.loop-k.invariant

pub returns : goal.returns
returns c = steps_done c.loop-k.out _ _ (columns_end c.args.blocks.now c.args.numbers.now _ c.loop-k.k c.args.columns.now c.loop-k-test.false) c.loop-k.invariant

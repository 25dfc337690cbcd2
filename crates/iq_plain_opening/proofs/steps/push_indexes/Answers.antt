use Rattle.std.proofs.Common.{◌+◌, ◌*◌}
use Rattle.iq_opening.proofs.Parts.{indexes_end}
use Rattle.iq_plain_opening.proofs.More.{indexes_on, steps_done}
use Rattle.iq_plain_opening.proofs.steps.push_indexes.Goals as goal

pub loop-k-preserved : goal.loop-k-preserved
loop-k-preserved c =
    indexes_on c.args.blocks.now c.args.numbers.now (57 + 55 * c.args.columns) c.loop-k.k c.args.indexes.now c.index-indexes-k.result c.loop-k.out _ _
    c.loop-k-test.true c.index-indexes-k.is c.in_ok-push_index.ensures c.loop-k.invariant

pub returns : goal.returns
returns c = steps_done c.loop-k.out _ _ (indexes_end c.args.blocks.now c.args.numbers.now _ c.loop-k.k c.args.indexes.now c.loop-k-test.false) c.loop-k.invariant

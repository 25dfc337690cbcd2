use Rattle.std.proofs.Common.{ap, ◌∙◌, length}
use Rattle.iq_catalog.proofs.Loops.{indexes_on, indexes_end, length-indexes_of}
use Rattle.iq_plain_opening.proofs.texts.indexes_of.Goals as goal

pub loop-preserved : goal.loop-preserved
loop-preserved c =
    indexes_on c.loop.indexes _ _ _ c.args.count c.loop.counter c.loop.rest.now _ c.in_ok-push.ensures.ok c.index_of.ensures c.behind-rest.ensures
    c.loop-test.true c.loop.invariant

pub returns-clause-ok : goal.returns-clause-ok
returns-clause-ok c = indexes_end c.loop.indexes _ c.args.count c.loop.counter c.loop.rest.now c.loop-test.false c.loop.invariant

pub returns-clause-count : goal.returns-clause-count
returns-clause-count c =
    ap length (indexes_end c.loop.indexes _ c.args.count c.loop.counter c.loop.rest.now c.loop-test.false c.loop.invariant)
    ∙ length-indexes_of c.args.count c.args.bytes.now

use Rattle.std.proofs.Common.{ap, ◌∙◌, length}
use Rattle.iq_catalog.proofs.Loops.{columns_on, columns_end, length-columns_of}
use Rattle.iq_plain_opening.proofs.texts.columns_of.Goals as goal

pub loop-preserved : goal.loop-preserved
loop-preserved c =
    columns_on c.loop.columns _ _ _ c.args.count c.loop.counter c.loop.rest.now _ c.in_ok-push.ensures.ok c.column_of.ensures c.behind-rest.ensures
    c.loop-test.true c.loop.invariant

pub returns-clause-ok : goal.returns-clause-ok
returns-clause-ok c = columns_end c.loop.columns _ c.args.count c.loop.counter c.loop.rest.now c.loop-test.false c.loop.invariant

pub returns-clause-count : goal.returns-clause-count
returns-clause-count c =
    ap length (columns_end c.loop.columns _ c.args.count c.loop.counter c.loop.rest.now c.loop-test.false c.loop.invariant)
    ∙ length-columns_of c.args.count c.args.bytes.now

use Rattle.std.proofs.Common.{ap, ◌∙◌, length, arith}
use Rattle.iq_catalog.proofs.Loops.{indexes_on, indexes_end, length-indexes_of}
use Rattle.iq_catalog.proofs.reading.indexes_of.Goals as goal

pub loop-preserved : goal.loop-preserved
loop-preserved c = record {
  made = indexes_on c.loop.indexes _ _ _ c.args.count c.loop.counter c.loop.rest.now _ c.in_ok-push.ensures.ok c.index_of.ensures
      c.split_at.ensures.back c.loop-test.true c.loop.invariant.made;
  left = omega (arith, c.split_at.ensures.back_len, c.loop.invariant.left, c.loop-test.true);
}

pub returns-clause-ok : goal.returns-clause-ok
returns-clause-ok c = indexes_end c.loop.indexes _ c.args.count c.loop.counter c.loop.rest.now c.loop-test.false c.loop.invariant.made

pub returns-clause-count : goal.returns-clause-count
returns-clause-count c =
    ap length (indexes_end c.loop.indexes _ c.args.count c.loop.counter c.loop.rest.now c.loop-test.false c.loop.invariant.made)
    ∙ length-indexes_of c.args.count c.args.bytes.now

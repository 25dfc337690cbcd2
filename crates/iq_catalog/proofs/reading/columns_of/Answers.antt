use Rattle.std.proofs.Common.{ap, ◌∙◌, length, arith}
use Rattle.iq_catalog.proofs.Loops.{columns_on, columns_end, length-columns_of}
use Rattle.iq_catalog.proofs.reading.columns_of.Goals as goal

pub loop-preserved : goal.loop-preserved
loop-preserved c = record {
  made = columns_on c.loop.columns _ _ _ c.args.count c.loop.counter c.loop.rest.now _ c.in_ok-push.ensures.ok c.column_of.ensures
      c.split_at.ensures.back c.loop-test.true c.loop.invariant.made;
  left = omega (arith, c.split_at.ensures.back_len, c.loop.invariant.left, c.loop-test.true);
}

pub returns-clause-ok : goal.returns-clause-ok
returns-clause-ok c = columns_end c.loop.columns _ c.args.count c.loop.counter c.loop.rest.now c.loop-test.false c.loop.invariant.made

pub returns-clause-count : goal.returns-clause-count
returns-clause-count c =
    ap length (columns_end c.loop.columns _ c.args.count c.loop.counter c.loop.rest.now c.loop-test.false c.loop.invariant.made)
    ∙ length-columns_of c.args.count c.args.bytes.now

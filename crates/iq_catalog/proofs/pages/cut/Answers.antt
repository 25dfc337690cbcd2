use Rattle.std.proofs.Common.{◌∙◌, arith}
use Rattle.iq_catalog.proofs.Loops.{cut_on, made_on}
use Rattle.iq_catalog.proofs.pages.cut.Goals as goal

pub loop-preserved : goal.loop-preserved
loop-preserved c = record {
  whole = cut_on c.loop.pages.items c.push.new.self.items _ c.loop.rest.now _ c.args.bytes.now c.in_ok-push.ensures.items
      (c.copy_from_slice.ensures.after ∙ c.split_at.ensures.front) c.split_at.ensures.back c.loop.invariant.whole;
  made = made_on c.loop.pages.items c.push.new.self.items _ c.loop.counter c.in_ok-push.ensures.items c.loop.invariant.made;
  left = omega (arith, c.split_at.ensures.back_len, c.loop.invariant.left, c.loop-test.true);
}

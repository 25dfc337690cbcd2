use Rattle.std.proofs.Common.{ap, arith, length, length-append, ◌∷◌, []}
use Rattle.iq_plain_opening.proofs.More.{numbers_on, numbers_done}
use Rattle.iq_plain_opening.proofs.bytes.numbers_at.Goals as goal

pub loop-k-preserved : goal.loop-k-preserved
loop-k-preserved c = record {
  made = numbers_on c.args.bytes.now c.loop-k.numbers.items _ _ _ c.args.i c.loop-k.k c.args.count c.number_at.ensures c.in_ok-push.ensures.items
      c.loop-k-test.true c.loop-k.invariant.made;
  count = omega (arith, ap length c.in_ok-push.ensures.items, length-append c.loop-k.numbers.items (c.number_at.result ∷ []), c.loop-k.invariant.count);
}

use Rattle.std.proofs.Common.{◌∙◌, arith}
use Rattle.iq_lf.proofs.TableLaws.{clears_next}
use Rattle.iq_lf.proofs.table.Table.clear.Goals as goal

pub loop-k-preserved : goal.loop-k-preserved
loop-k-preserved c = record {
  order = omega (arith, c.loop-k.invariant.order);
  pages = clears_next c.args.from c.loop-k.k _ _ _ c.loop-k.invariant.order c.loop-k.invariant.pages c.put.ensures.here;
  long = c.put.ensures.long ∙ c.loop-k.invariant.long;
  kept = λ told h. c.put.ensures.kept told (c.loop-k.invariant.kept told h);
}

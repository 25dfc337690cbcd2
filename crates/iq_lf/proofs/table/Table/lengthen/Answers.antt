use Rattle.iq_lf.proofs.TableLaws.{lengthens_next}
use Rattle.iq_lf.proofs.table.Table.lengthen.Goals as goal

pub loop-preserved : goal.loop-preserved
loop-preserved c = rw (c.in_ok-push.ensures.items, c.in_ok-push-2.ensures.items) (lengthens_next _ _ _ _ _ c.loop.invariant)

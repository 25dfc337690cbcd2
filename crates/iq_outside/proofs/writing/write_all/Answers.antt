use Rattle.std.proofs.Common.{arith, ◌∙◌}
use Rattle.iq_outside.proofs.StreamLemmas.{Grows-take}
use Rattle.iq_outside.proofs.writing.write_all.Goals as goal

pub writing-preserved : goal.writing-preserved
writing-preserved g c = record {
  within = omega (arith, c.in-Ok.ensures.within);
  grown = Grows-take _ _ _ _ _ _ c.writing.invariant.grown (rw c.split_at.ensures.back at c.in-Ok.ensures.grown);
  calm = c.in-Ok.ensures.calm ∙ c.writing.invariant.calm;
}

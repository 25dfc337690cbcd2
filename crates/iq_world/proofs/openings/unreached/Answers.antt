use Rattle.std.proofs.Common.{sym, ◌∙◌, ap, List, ℕ, ◌++◌, [], ◌∷◌, arith}
use Rattle.iq_world.proofs.Opened.{next_reached, next_free}
use Rattle.iq_world.proofs.openings.unreached.Goals as goal

pub loop-block-preserved-then-holds : goal.loop-block-preserved-then-holds
loop-block-preserved-then-holds c = record {
  so_far =
      c.loop-block.invariant.so_far
      ∙ sym (next_reached c.loop-block.block c.args.reached.now c.loop-block.auto.block (sym c.holds.ensures ∙ c.if-holds.true));
  within = omega arith;
}

pub loop-block-preserved : goal.loop-block-preserved
loop-block-preserved c = record {
  so_far =
      c.in_ok-push.ensures.items ∙ ap (λ (xs : List ℕ). xs ++ c.loop-block.block ∷ []) c.loop-block.invariant.so_far
      ∙ sym (next_free c.loop-block.block c.args.reached.now c.loop-block.auto.block (sym c.holds.ensures ∙ c.if-holds.false));
  within = omega arith;
}

use Rattle.std.proofs.Common.{ℕ, arith, sym, ap, ◌∙◌, ◌++◌, List}
use Rattle.iq_opening.proofs.Unset.{below_more, below_last, unset_set, free_on}
use Rattle.iq_opening.proofs.free.free_list.Goals as goal
use Rattle.iq_opening.proofs.free.free_list.Goals.{then-not-get, else-not-get}

pub loop-block-preserved : goal.loop-block-preserved
loop-block-preserved c = elim c.if-not-get.branch [
  | then-not-get w ↦ rw w.free-is record {
    count = w.give.ensures.count ∙ c.loop-block.invariant.count;
    below = below_last c.loop-block.block c.loop-block.free.blocks w.give.new.self.blocks c.loop-block.invariant.below w.give.ensures.given;
    so_far = free_on c.args.reached.now c.loop-block.block c.loop-block.free.blocks w.give.new.self.blocks _ (omega (arith, c.loop-block-test.true, c.len-block-end.ensures)) (sym c.get.ensures ∙ w.if-not-get.true) c.loop-block.invariant.below w.give.ensures.given c.loop-block.invariant.so_far;
  }
  | else-not-get w ↦ rw w.free-is record {
    count = c.loop-block.invariant.count;
    below = below_more c.loop-block.block c.loop-block.free.blocks c.loop-block.invariant.below;
    so_far = ap (λ (bs : List ℕ). c.loop-block.free.blocks ++ bs) (sym (unset_set c.args.reached.now c.loop-block.block (omega (arith, c.loop-block-test.true, c.len-block-end.ensures)) (sym c.get.ensures ∙ w.if-not-get.false))) ∙ c.loop-block.invariant.so_far;
  }
]

use Rattle.std.proofs.Common.{◌∙◌, sym, ap, arith, ℕ, ◌+◌, ◌-◌, List, length, take}
use Rattle.iq_free_list.specs.FreeList.{put_all}
use Rattle.iq_free_list.proofs.MoveLemmas.{drop_next, put_next}
use Rattle.iq_free_list.proofs.free_list.FreeList.take_many.Goals as goal

pub loop-moved-preserved : goal.loop-moved-preserved
loop-moved-preserved c =
    let first = c.in-Some.ensures.least in
    let more = c.loop-moved-test.true in
    record {
      moved = omega (arith, c.loop-moved.invariant.moved, ap length first, more);
      left = sym (drop_next c.args.n c.loop-moved.moved c.in-Some.block _ _ more first) ∙ c.loop-moved.invariant.left;
      gained =
          ap (λ (ys : List ℕ). put_all (take (c.args.n - (c.loop-moved.moved + 1)) c.take.new.self.blocks) ys) c.give.ensures.given
          ∙ sym (put_next c.args.n c.loop-moved.moved c.in-Some.block _ _ _ more first)
          ∙ c.loop-moved.invariant.gained;
      count = c.take.ensures.count ∙ c.loop-moved.invariant.count;
      count_into = c.give.ensures.count ∙ c.loop-moved.invariant.count_into;
    }

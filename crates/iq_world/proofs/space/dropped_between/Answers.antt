use Rattle.std.proofs.Common.{◌≡◌, ◌+◌, ◌-◌, ◌++◌, suc, ℕ, List, ap, sym, ◌∙◌, arith}
use Rattle.iq_world.specs.Space.{dropped, dropped_after}
use Rattle.iq_world.proofs.Drops.{dropped_after-more}
use Rattle.iq_world.proofs.space.dropped_between.Goals as goal

pub loop-commit-preserved : goal.loop-commit-preserved
loop-commit-preserved c =
    let kept = c.args.kept.now in
    let from = c.args.from in
    let k = c.loop-commit.commit - from in
    let more : suc k ≡ c.loop-commit.commit + 1 - from = omega arith in
    let at : c.loop-commit.commit + 1 ≡ from + k + 1 = omega arith in
    record {
      so_far =
          c.in_ok-extend_from_slice.ensures.items ∙ ap (λ (xs : List ℕ). xs ++ c.as_slice.result.now) c.loop-commit.invariant.so_far
          ∙ ap (λ (ys : List ℕ). dropped_after kept from k ++ ys) (c.as_slice.ensures.value ∙ c.in_ok-more.ensures ∙ ap (dropped kept) at)
          ∙ sym (dropped_after-more kept from k) ∙ ap (dropped_after kept from) more;
      within = omega arith;
    }

pub returns : goal.returns
returns c =
    let whole : c.loop-commit.commit - c.args.from ≡ c.args.to - c.args.from = omega arith in
    c.loop-commit.invariant.so_far ∙ ap (dropped_after c.args.kept.now c.args.from) whole

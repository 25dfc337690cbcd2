use Rattle.std.proofs.Common.{◌≡◌, ◌+◌, ◌-◌, ◌/◌, false, ℕ, subst, refl, arith}
use Rattle.std.proofs.lemmas.Result.{err_from_is_err_and}
use Rattle.iq_pages.specs.PageCalls.{view}
use Rattle.iq_pieces.proofs.Counting.{kept_on}
use Rattle.iq_hg.specs.Search.{BeginsUnder}
use Rattle.iq_hg.proofs.SearchLaws.{halved}
use Rattle.iq_hg.proofs.StartLaws.{begins_as, cause_on_way}
use Rattle.iq_hg.proofs.hg.Hg.pages_under.Goals as goal

pub returns-in_err-begins_under-clause-cause : goal.returns-in_err-begins_under-clause-cause
returns-in_err-begins_under-clause-cause g c =
    let p = err_from_is_err_and c.from_residual.result c.from_residual.ensures.1 in
    rw (p.1, p.2) (cause_on_way c.args.self.now (view g.S.PageSource c.args.source.now) (view g.S.PageSource c.halves.source) (view g.S.PageSource c.begins_under.new.source) c.in_err-begins_under.field-0.0 c.halves.invariant.kept c.halves.invariant.later c.in_err-begins_under.ensures.cause)

pub halves-preserved-then-branch : goal.halves-preserved-then-branch
halves-preserved-then-branch g c =
    let left = c.halves.to - c.halves.from in
    record {
      order = omega arith;
      within = c.halves.invariant.within;
      halves = halved _ left _ (view g.S.PageSource c.args.source.now) (view g.S.PageSource c.halves.source) (view g.S.PageSource c.begins_under.new.source) (omega arith) (omega arith) c.halves.invariant.halves c.begins_under.ensures.reads;
      kept = kept_on (view g.S.PageSource c.args.source.now) (view g.S.PageSource c.halves.source) (view g.S.PageSource c.begins_under.new.source) c.halves.invariant.kept c.begins_under.ensures.reads.kept;
      later = omega (arith, c.halves.invariant.later, c.begins_under.ensures.reads.later);
      before = λ h. begins_as c.args.self.now (view g.S.PageSource c.args.source.now) (view g.S.PageSource c.halves.source) c.args.low.now (c.halves.from + left / 2) _ _ _ c.halves.invariant.kept (omega arith) c.if-branch.true c.in_ok-begins_under.ensures.ok;
      after = c.halves.invariant.after;
    }

pub halves-preserved : goal.halves-preserved
halves-preserved g c =
    let left = c.halves.to - c.halves.from in
    record {
      order = omega arith;
      within = omega (arith, c.halves.invariant.within);
      halves = halved _ left _ (view g.S.PageSource c.args.source.now) (view g.S.PageSource c.halves.source) (view g.S.PageSource c.begins_under.new.source) (omega arith) (omega arith) c.halves.invariant.halves c.begins_under.ensures.reads;
      kept = kept_on (view g.S.PageSource c.args.source.now) (view g.S.PageSource c.halves.source) (view g.S.PageSource c.begins_under.new.source) c.halves.invariant.kept c.begins_under.ensures.reads.kept;
      later = omega (arith, c.halves.invariant.later, c.begins_under.ensures.reads.later);
      before = c.halves.invariant.before;
      after = λ h. begins_as c.args.self.now (view g.S.PageSource c.args.source.now) (view g.S.PageSource c.halves.source) c.args.low.now (c.halves.from + left / 2) _ _ _ c.halves.invariant.kept refl c.if-branch.false c.in_ok-begins_under.ensures.ok;
    }

pub returns-clause-edge : goal.returns-clause-edge
returns-clause-edge g c = (
  c.halves.invariant.before,
  λ h.
      let same : c.halves.to ≡ c.halves.from = omega (arith, c.halves.invariant.order, c.halves-test.false) in
      subst (λ (n : ℕ). BeginsUnder c.args.self.now (g.S.PageSource.told c.args.source.now) c.args.low.now n false) same (c.halves.invariant.after (omega arith)),
)

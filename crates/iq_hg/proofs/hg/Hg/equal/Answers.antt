use Rattle.std.proofs.Common.{◌+◌, ◌/◌, subst}
use Rattle.iq_base.specs.declared.values.Value.{Value}
use Rattle.iq_ast.specs.declared.conditions.Bound.TheVariants.{Incl}
use Rattle.iq_pages.specs.PageCalls.{view}
use Rattle.iq_pieces.specs.Counts.{OnlyReads}
use Rattle.iq_hg.specs.Bounds.{range_count}
use Rattle.std.proofs.lemmas.Result.{IfOk-weaker}
use Rattle.iq_hg.proofs.EqualLaws.{equal_rows}
use Rattle.iq_hg.proofs.hg.Hg.equal.Goals as goal

pub returns-clause-rows : goal.returns-clause-rows
returns-clause-rows g c = IfOk-weaker c.range.result _ _ (λ bits. equal_rows c.args.self.now _ _ _ c.args.value.now bits c.again.ensures c.again-2.ensures) c.range.ensures.rows

pub returns-clause-few : goal.returns-clause-few
returns-clause-few g c = λ values st k h.
    subst (λ (w : Value). OnlyReads (k + 3 + range_count (Incl w) (Incl c.args.value.now) values / 2) (view g.S.PageSource c.args.source.now) (view g.S.PageSource c.range.new.source)) c.again.ensures
    (subst (λ (w : Value). OnlyReads (k + 3 + range_count (Incl c.again.result) (Incl w) values / 2) (view g.S.PageSource c.args.source.now) (view g.S.PageSource c.range.new.source)) c.again-2.ensures (c.range.ensures.few values st k h))

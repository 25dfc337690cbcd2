use Rattle.std.proofs.Common.{◌≡◌, ◌<◌, ◌+◌, ◌∷◌, ◌++◌, [], true, List, length, sym, ap, ◌∙◌, subst, arith}
use Rattle.std.specs.List.{slice_get}
use Rattle.std.proofs.lemmas.List.{get_or_read, length-append, length-map}
use Rattle.std.proofs.lemmas.Result.{err_from_is_err_and}
use Rattle.iq_base.specs.declared.values.Kind.TheVariants.{Int}
use Rattle.iq_base.specs.declared.descriptors.ColumnPart.{ColumnPart}
use Rattle.iq_pages.specs.PageCalls.{view}
use Rattle.iq_cells.specs.Packed.{value_at}
use Rattle.iq_fp.specs.declared.fp.Fp.{Fp}
use Rattle.iq_fp.specs.declared.plan.Plan.{Plan}
use Rattle.iq_fp.specs.Calls as fps
use Rattle.iq_fp.specs.Forms.{code_width}
use Rattle.iq_table.specs.Places.{codes_of, values_of, new_part, part_at, fp_of}
use Rattle.iq_table.specs.Calls.{IsPartGrown}
use Rattle.iq_table.specs.Plans.{IsColumnPlan}
use Rattle.iq_table.proofs.Growth.{grown_next, part_grown, plan_made, plans_next, reads_next, reads_first, column_cause, planned_cause}
use Rattle.iq_table.proofs.columns.plan_columns.Goals as goal

pub returns-in_err-plan-clause-reads : goal.returns-in_err-plan-clause-reads
returns-in_err-plan-clause-reads g c =
    let parts = c.args.parts.now in
    let k = c.loop-c.c in
    let within : k < length parts = omega (arith, c.loop-c-test.true) in
    let part_is : c.index-parts-c.result ≡ part_at k parts = get_or_read parts k c.index-parts-c.result within c.index-parts-c.is (new_part (record { name = []; kind = Int; null = true })) in
    let fp_is : c.fp_of-fp.result ≡ fp_of c.args.place c.args.slots k (part_at k parts) = c.fp_of-fp.ensures ∙ ap (fp_of c.args.place c.args.slots k) part_is in
    reads_first c.args.slots (k + 1) parts _ _ (reads_next c.args.place c.args.slots k parts c.fp_of-fp.result _ _ _ within fp_is c.loop-c.invariant.reads c.plan_column.ensures.reads)

pub returns-in_err-plan-clause-cause : goal.returns-in_err-plan-clause-cause
returns-in_err-plan-clause-cause g c =
    let parts = c.args.parts.now in
    let k = c.loop-c.c in
    let a = view g.S.PageSource c.args.source.now in
    let b = view g.S.PageSource c.loop-c.source in
    let d = view g.S.PageSource c.plan_column.new.source in
    let within : k < length parts = omega (arith, c.loop-c-test.true) in
    let part_is : c.index-parts-c.result ≡ part_at k parts = get_or_read parts k c.index-parts-c.result within c.index-parts-c.is (new_part (record { name = []; kind = Int; null = true })) in
    let fp_is : c.fp_of-fp.result ≡ fp_of c.args.place c.args.slots k (part_at k parts) = c.fp_of-fp.ensures ∙ ap (fp_of c.args.place c.args.slots k) part_is in
    let p = err_from_is_err_and c.from_residual-in_err-plan.result c.from_residual-in_err-plan.ensures.1 in
    let cause : fps.HasAppendCause (fp_of c.args.place c.args.slots k (part_at k parts)) b d c.in_err-plan.field-0.0 =
    subst (λ (fp : Fp). fps.HasAppendCause fp b d c.in_err-plan.field-0.0) fp_is (planned_cause c.fp_of-fp.result b d c.in_err-plan.field-0.0 c.in_err-plan.ensures.cause) in
    rw (p.1, p.2) (column_cause c.args.place c.args.slots k parts a b d c.in_err-plan.field-0.0 within (c.loop-c.invariant.reads.kept.told (codes_of c.args.place k)) (c.loop-c.invariant.reads.kept.told (values_of c.args.place k)) c.loop-c.invariant.reads.later cause)

pub loop-c-preserved : goal.loop-c-preserved
loop-c-preserved g c =
    let parts = c.args.parts.now in
    let rows = c.args.rows.now.rows in
    let place = c.args.place in
    let slots = c.args.slots in
    let k = c.loop-c.c in
    let a = view g.S.PageSource c.args.source.now in
    let b = view g.S.PageSource c.loop-c.source in
    let made = c.loop-c.grown.items in
    let within : k < length parts = omega (arith, c.loop-c-test.true) in
    let none = new_part (record { name = []; kind = Int; null = true }) in
    let part_is : c.index-parts-c.result ≡ part_at k parts = get_or_read parts k c.index-parts-c.result within c.index-parts-c.is none in
    let again : c.index-parts-c-in-loop-c.result ≡ part_at k parts = get_or_read parts k c.index-parts-c-in-loop-c.result within c.index-parts-c-in-loop-c.is none in
    let fp_is : c.fp_of-fp.result ≡ fp_of place slots k (part_at k parts) = c.fp_of-fp.ensures ∙ ap (fp_of place slots k) part_is in
    let plan = c.in_ok-plan.plan in
    let part : ColumnPart = record (part_at k parts) { form = code_width plan.grown.distinct; distinct = plan.grown.distinct } in
    let put : c.with_distinct.result ≡ part = c.with_distinct.ensures ∙ ap (λ (p : ColumnPart). record p { form = code_width plan.grown.distinct; distinct = plan.grown.distinct }) again in
    let items : c.push.new.self.items ≡ made ++ part ∷ [] = c.in_ok-push.ensures.items ∙ ap (λ (p : ColumnPart). made ++ p ∷ []) put in
    let all : c.push-in-loop-c.new.self.items ≡ c.loop-c.plans.items ++ plan ∷ [] = c.in_ok-push-2.ensures.items in
    let cells = c.column.result.now.values in
    let cells_are = c.column.ensures.values in
    let many : length cells ≡ length rows = ap length cells_are ∙ length-map rows (value_at k) in
    let longer : fps.IsLonger (fp_of place slots k (part_at k parts)) plan.grown (length cells) = subst (λ (f : Fp). fps.IsLonger f plan.grown (length cells)) fp_is c.in_ok-plan.ensures.longer in
    let is : IsColumnPlan place slots k (part_at k parts) part rows a plan =
    plan_made place slots k parts rows cells c.fp_of-fp.result a b plan fp_is cells_are many c.loop-c.invariant.reads.kept c.in_ok-plan.ensures.column c.in_ok-plan.ensures.longer c.in_ok-plan.ensures.made_for c.in_ok-plan.ensures.reached in
    record {
      many = ap (λ (ps : List Plan). length ps) all ∙ length-append c.loop-c.plans.items (plan ∷ []) ∙ (omega (arith, c.loop-c.invariant.many));
      long = ap length items ∙ length-append made (part ∷ []) ∙ (omega (arith, c.loop-c.invariant.long));
      each = λ j h. subst (λ (ps : List ColumnPart). IsPartGrown (length rows) (part_at j parts) (part_at j ps)) (sym items)
          (grown_next (length rows) k parts made part c.loop-c.invariant.long c.loop-c.invariant.each (part_grown (length rows) (part_at k parts) plan.grown.distinct longer.distinct (omega (arith, longer.most, many))) j h);
      plans = λ j p here. subst (λ (ps : List ColumnPart). IsColumnPlan place slots j (part_at j parts) (part_at j ps) rows a p) (sym items)
          (plans_next place slots k parts made part rows a c.loop-c.plans.items plan c.loop-c.invariant.long c.loop-c.invariant.many c.loop-c.invariant.plans is j p (ap (λ (ps : List Plan). slice_get ps j) (sym all) ∙ here));
      reads = reads_next place slots k parts c.fp_of-fp.result _ _ _ within fp_is c.loop-c.invariant.reads c.plan_column.ensures.reads;
    }

pub returns-in_err-push-clause-reads : goal.returns-in_err-push-clause-reads
returns-in_err-push-clause-reads g c =
    let parts = c.args.parts.now in
    let k = c.loop-c.c in
    let within : k < length parts = omega (arith, c.loop-c-test.true) in
    let part_is : c.index-parts-c.result ≡ part_at k parts = get_or_read parts k c.index-parts-c.result within c.index-parts-c.is (new_part (record { name = []; kind = Int; null = true })) in
    let fp_is : c.fp_of-fp.result ≡ fp_of c.args.place c.args.slots k (part_at k parts) = c.fp_of-fp.ensures ∙ ap (fp_of c.args.place c.args.slots k) part_is in
    reads_first c.args.slots (k + 1) parts _ _ (reads_next c.args.place c.args.slots k parts c.fp_of-fp.result _ _ _ within fp_is c.loop-c.invariant.reads c.plan_column.ensures.reads)

pub returns-in_err-push-2-clause-reads : goal.returns-in_err-push-2-clause-reads
returns-in_err-push-2-clause-reads g c =
    let parts = c.args.parts.now in
    let k = c.loop-c.c in
    let within : k < length parts = omega (arith, c.loop-c-test.true) in
    let part_is : c.index-parts-c.result ≡ part_at k parts = get_or_read parts k c.index-parts-c.result within c.index-parts-c.is (new_part (record { name = []; kind = Int; null = true })) in
    let fp_is : c.fp_of-fp.result ≡ fp_of c.args.place c.args.slots k (part_at k parts) = c.fp_of-fp.ensures ∙ ap (fp_of c.args.place c.args.slots k) part_is in
    reads_first c.args.slots (k + 1) parts _ _ (reads_next c.args.place c.args.slots k parts c.fp_of-fp.result _ _ _ within fp_is c.loop-c.invariant.reads c.plan_column.ensures.reads)

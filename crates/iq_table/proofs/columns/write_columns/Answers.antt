use Rattle.std.proofs.Common.{◌≡◌, ◌<◌, ℕ, ◌+◌, ◌∷◌, ◌++◌, [], List, length, take, refl, sym, ap, ◌∙◌, subst, append_assoc, arith}
use Rattle.std.specs.Vec.Iter.{into_iter_items}
use Rattle.std.proofs.lemmas.List.{length-append}
use Rattle.std.proofs.lemmas.Option.{slice_get_within}
use Rattle.std.proofs.lemmas.Result.{err_from_is_err_and}
use Rattle.iq_base.specs.declared.values.Value.{Value}
use Rattle.iq_base.specs.declared.descriptors.ColumnPart.{ColumnPart}
use Rattle.iq_pages.specs.PageCalls.{view}
use Rattle.iq_pages.specs.Pages.{CountsMore}
use Rattle.iq_pieces.specs.Counts.{CountsUpTo}
use Rattle.iq_pieces.proofs.Counting.{counts_up}
use Rattle.iq_cells.specs.Tables.{column_of}
use Rattle.iq_fp.specs.declared.fp.Fp.{Fp}
use Rattle.iq_fp.specs.declared.plan.Plan.{Plan}
use Rattle.iq_fp.specs.Calls as fps
use Rattle.iq_fp.specs.Plans.{IsPlanFor}
use Rattle.iq_fp.proofs.Bounds.{up_to_more}
use Rattle.iq_table.specs.Places.{part_at, fp_of}
use Rattle.iq_table.specs.Calls.{columns_most}
use Rattle.iq_table.specs.Plans.{IsColumnPlan}
use Rattle.iq_table.proofs.Growth.{keeps_wider, keeps_next, next_codes, next_values, plan_next, plan_now, stand_next, written_next, most_next, most_first, column_cause, sink_cause, told_sink, most_written_within}
use Rattle.iq_table.proofs.KindLists.{kind_at}
use Rattle.iq_table.proofs.columns.write_columns.Goals as goal

pub loop-plan-preserved : goal.loop-plan-preserved
loop-plan-preserved g c =
    let at = c.loop-plan in
    let parts = c.args.parts.now in
    let rows = c.args.rows.now.rows in
    let place = c.args.place in
    let slots = c.args.slots in
    let made = c.args.planned.grown.items in
    let k = length at.yielded in
    let x = c.in-Some.plan in
    let rest = into_iter_items c.next.new.self in
    let a = view g.S.PageSource c.args.sink.now in
    let b = view g.S.PageSource at.sink in
    let d = view g.S.PageSource c.carry_out.new.sink in
    let steps : into_iter_items at.plan-iterator ≡ x ∷ rest = c.in-Some.ensures.steps.0 in
    let shape : at.yielded ++ x ∷ rest ≡ c.args.planned.plans.items = ap (λ (ps : List Plan). at.yielded ++ ps) (sym steps) ∙ at.invariant.shape in
    let here = plan_next c.args.planned.plans.items at.yielded rest x shape in
    let within : k < length parts = omega (arith, slice_get_within c.args.planned.plans.items k x here, c.requires.plans.long) in
    let is : IsColumnPlan place slots k (part_at k parts) (part_at k made) rows b x = plan_now place slots k (part_at k parts) (part_at k made) rows a b x at.invariant.others (c.requires.plans.each k x here) in
    let cells_are : c.column.result.now.values ≡ column_of k rows = c.column.ensures.values ∙ ap (λ (j : ℕ). column_of j rows) at.invariant.count in
    let count : length (at.yielded ++ x ∷ []) ≡ k + 1 = length-append at.yielded (x ∷ []) in
    let others : fps.KeepsOtherObjects (fp_of place slots k (part_at k parts)) b d = subst (λ (f : Fp). fps.KeepsOtherObjects f b d) is.column c.carry_out.ensures.others in
    let more : fps.StandsForMore (fp_of place slots k (part_at k parts)) x.grown (column_of k rows) b.told d.told = subst (λ (f : Fp). fps.StandsForMore f x.grown (column_of k rows) b.told d.told) is.column (subst (λ (vs : List Value). fps.StandsForMore x.column x.grown vs b.told d.told) cells_are c.in_ok-carry_out.ensures.ok) in
    let wrote : CountsMore (fps.pages_written (fp_of place slots k (part_at k parts)) x.grown) b.writes d.writes = subst (λ (f : Fp). CountsMore (fps.pages_written f x.grown) b.writes d.writes) is.column c.in_ok-carry_out.ensures.written in
    let fits = c.cells_fit_pages.ensures k within in
    let most : CountsUpTo (fps.most_written (fp_of 0 slots 0 (part_at k parts)) (length rows)) b.writes d.writes = up_to_more _ _ _ _ (most_written_within place slots k (part_at k parts) (part_at k made) rows b x fits.0 fits.1 is) c.carry_out.ensures.unwritten in
    let slots_is : x.grown.slots ≡ slots + length rows = is.longer.slots ∙ ap (λ (f : Fp). f.slots + length rows) is.column in
    rw count (record {
      count = omega (arith, at.invariant.count);
      shape = append_assoc at.yielded (x ∷ []) rest ∙ shape;
      left = (
          let was = at.invariant.left in
          let gone = c.in-Some.ensures.steps.1 in
          let short = ap (λ (ps : List Plan). length ps) steps in
          omega arith);
      held = stand_next place slots (slots + length rows) k parts made rows x a b d refl is at.invariant.others others at.invariant.held more;
      others = keeps_next place slots k (part_at k parts) a b d at.invariant.others others;
      reads = c.carry_out.ensures.reads ∙ at.invariant.reads;
      most = counts_up (columns_most slots (length rows) (take k parts)) (fps.most_written (fp_of 0 slots 0 (part_at k parts)) (length rows)) (columns_most slots (length rows) (take (k + 1) parts)) _ _ _ (omega (arith, most_next slots (length rows) k parts within)) at.invariant.most most;
      written = written_next place slots (slots + length rows) k parts made x.grown a.writes b.writes d.writes within c.requires.grown.long (ap (λ (p : ColumnPart). p.distinct) is.grown) slots_is at.invariant.written wrote;
      later = omega (arith, at.invariant.later, c.carry_out.ensures.later);
    })

pub carry_out-requires : goal.carry_out-requires
carry_out-requires g c =
    let at = c.loop-plan in
    let parts = c.args.parts.now in
    let rows = c.args.rows.now.rows in
    let place = c.args.place in
    let slots = c.args.slots in
    let made = c.args.planned.grown.items in
    let k = length at.yielded in
    let x = c.in-Some.plan in
    let a = view g.S.PageSource c.args.sink.now in
    let b = view g.S.PageSource at.sink in
    let rest = into_iter_items c.next.new.self in
    let steps : into_iter_items at.plan-iterator ≡ x ∷ rest = c.in-Some.ensures.steps.0 in
    let shape : at.yielded ++ x ∷ rest ≡ c.args.planned.plans.items = ap (λ (ps : List Plan). at.yielded ++ ps) (sym steps) ∙ at.invariant.shape in
    let here = plan_next c.args.planned.plans.items at.yielded rest x shape in
    let within : k < length parts = omega (arith, slice_get_within c.args.planned.plans.items k x here, c.requires.plans.long) in
    let is : IsColumnPlan place slots k (part_at k parts) (part_at k made) rows b x = plan_now place slots k (part_at k parts) (part_at k made) rows a b x at.invariant.others (c.requires.plans.each k x here) in
    let cells_are : c.column.result.now.values ≡ column_of k rows = c.column.ensures.values ∙ ap (λ (j : ℕ). column_of j rows) at.invariant.count in
    let kind_is : c.column.result.now.kind ≡ (part_at k parts).kind = c.column.ensures.kind ∙ kind_at c.args.rows.now.kinds parts at.c k at.invariant.count within c.requires.kinds in
    record {
      kind = kind_is ∙ sym (ap (λ (f : Fp). f.kind) is.column);
      made_for = subst (λ (vs : List Value). IsPlanFor b.told vs x) (sym cells_are) is.made_for;
      reached = is.reached;
    }

pub returns-in_err-carry_out-clause-others : goal.returns-in_err-carry_out-clause-others
returns-in_err-carry_out-clause-others g c =
    let at = c.loop-plan in
    let parts = c.args.parts.now in
    let rows = c.args.rows.now.rows in
    let place = c.args.place in
    let slots = c.args.slots in
    let made = c.args.planned.grown.items in
    let k = length at.yielded in
    let x = c.in-Some.plan in
    let a = view g.S.PageSource c.args.sink.now in
    let b = view g.S.PageSource at.sink in
    let rest = into_iter_items c.next.new.self in
    let steps : into_iter_items at.plan-iterator ≡ x ∷ rest = c.in-Some.ensures.steps.0 in
    let shape : at.yielded ++ x ∷ rest ≡ c.args.planned.plans.items = ap (λ (ps : List Plan). at.yielded ++ ps) (sym steps) ∙ at.invariant.shape in
    let here = plan_next c.args.planned.plans.items at.yielded rest x shape in
    let within : k < length parts = omega (arith, slice_get_within c.args.planned.plans.items k x here, c.requires.plans.long) in
    let is : IsColumnPlan place slots k (part_at k parts) (part_at k made) rows b x = plan_now place slots k (part_at k parts) (part_at k made) rows a b x at.invariant.others (c.requires.plans.each k x here) in
    let d = view g.S.PageSource c.carry_out.new.sink in
    let others : fps.KeepsOtherObjects (fp_of place slots k (part_at k parts)) b d = subst (λ (f : Fp). fps.KeepsOtherObjects f b d) is.column c.carry_out.ensures.others in
    keeps_wider place (k + 1) (length parts) a d (omega arith) (keeps_next place slots k (part_at k parts) a b d at.invariant.others others)

pub returns-in_err-carry_out-clause-unwritten : goal.returns-in_err-carry_out-clause-unwritten
returns-in_err-carry_out-clause-unwritten g c =
    let at = c.loop-plan in
    let parts = c.args.parts.now in
    let rows = c.args.rows.now.rows in
    let place = c.args.place in
    let slots = c.args.slots in
    let made = c.args.planned.grown.items in
    let k = length at.yielded in
    let x = c.in-Some.plan in
    let a = view g.S.PageSource c.args.sink.now in
    let b = view g.S.PageSource at.sink in
    let rest = into_iter_items c.next.new.self in
    let steps : into_iter_items at.plan-iterator ≡ x ∷ rest = c.in-Some.ensures.steps.0 in
    let shape : at.yielded ++ x ∷ rest ≡ c.args.planned.plans.items = ap (λ (ps : List Plan). at.yielded ++ ps) (sym steps) ∙ at.invariant.shape in
    let here = plan_next c.args.planned.plans.items at.yielded rest x shape in
    let within : k < length parts = omega (arith, slice_get_within c.args.planned.plans.items k x here, c.requires.plans.long) in
    let is : IsColumnPlan place slots k (part_at k parts) (part_at k made) rows b x = plan_now place slots k (part_at k parts) (part_at k made) rows a b x at.invariant.others (c.requires.plans.each k x here) in
    let d = view g.S.PageSource c.carry_out.new.sink in
    let fits = c.cells_fit_pages.ensures k within in
    let most : CountsUpTo (fps.most_written (fp_of 0 slots 0 (part_at k parts)) (length rows)) b.writes d.writes = up_to_more _ _ _ _ (most_written_within place slots k (part_at k parts) (part_at k made) rows b x fits.0 fits.1 is) c.carry_out.ensures.unwritten in
    counts_up (columns_most slots (length rows) (take k parts)) (fps.most_written (fp_of 0 slots 0 (part_at k parts)) (length rows)) (columns_most slots (length rows) parts) _ _ _
    (omega (arith, most_next slots (length rows) k parts within, most_first slots (length rows) (k + 1) parts)) at.invariant.most most

pub returns-in_err-carry_out-clause-told : goal.returns-in_err-carry_out-clause-told
returns-in_err-carry_out-clause-told g c = λ tells.
    let at = c.loop-plan in
    let parts = c.args.parts.now in
    let rows = c.args.rows.now.rows in
    let place = c.args.place in
    let slots = c.args.slots in
    let made = c.args.planned.grown.items in
    let k = length at.yielded in
    let x = c.in-Some.plan in
    let a = view g.S.PageSource c.args.sink.now in
    let b = view g.S.PageSource at.sink in
    let rest = into_iter_items c.next.new.self in
    let steps : into_iter_items at.plan-iterator ≡ x ∷ rest = c.in-Some.ensures.steps.0 in
    let shape : at.yielded ++ x ∷ rest ≡ c.args.planned.plans.items = ap (λ (ps : List Plan). at.yielded ++ ps) (sym steps) ∙ at.invariant.shape in
    let here = plan_next c.args.planned.plans.items at.yielded rest x shape in
    let within : k < length parts = omega (arith, slice_get_within c.args.planned.plans.items k x here, c.requires.plans.long) in
    let is : IsColumnPlan place slots k (part_at k parts) (part_at k made) rows b x = plan_now place slots k (part_at k parts) (part_at k made) rows a b x at.invariant.others (c.requires.plans.each k x here) in
    let d = view g.S.PageSource c.carry_out.new.sink in
    let fault = c.in_err-carry_out.field-0.0 in
    let p = err_from_is_err_and c.from_residual.result c.from_residual.ensures.1 in
    let cause : fps.HasSinkCause (fp_of place slots k (part_at k parts)) b d fault = subst (λ (f : Fp). fps.HasSinkCause f b d fault) is.column c.in_err-carry_out.ensures.cause in
    rw (p.1, p.2) (told_sink place slots k (length parts) (part_at k parts) a b d fault within at.invariant.others tells cause)

pub returns-in_err-carry_out-clause-cause : goal.returns-in_err-carry_out-clause-cause
returns-in_err-carry_out-clause-cause g c =
    let at = c.loop-plan in
    let parts = c.args.parts.now in
    let rows = c.args.rows.now.rows in
    let place = c.args.place in
    let slots = c.args.slots in
    let made = c.args.planned.grown.items in
    let k = length at.yielded in
    let x = c.in-Some.plan in
    let a = view g.S.PageSource c.args.sink.now in
    let b = view g.S.PageSource at.sink in
    let rest = into_iter_items c.next.new.self in
    let steps : into_iter_items at.plan-iterator ≡ x ∷ rest = c.in-Some.ensures.steps.0 in
    let shape : at.yielded ++ x ∷ rest ≡ c.args.planned.plans.items = ap (λ (ps : List Plan). at.yielded ++ ps) (sym steps) ∙ at.invariant.shape in
    let here = plan_next c.args.planned.plans.items at.yielded rest x shape in
    let within : k < length parts = omega (arith, slice_get_within c.args.planned.plans.items k x here, c.requires.plans.long) in
    let is : IsColumnPlan place slots k (part_at k parts) (part_at k made) rows b x = plan_now place slots k (part_at k parts) (part_at k made) rows a b x at.invariant.others (c.requires.plans.each k x here) in
    let d = view g.S.PageSource c.carry_out.new.sink in
    let fault = c.in_err-carry_out.field-0.0 in
    let p = err_from_is_err_and c.from_residual.result c.from_residual.ensures.1 in
    let cause : fps.HasAppendCause (fp_of place slots k (part_at k parts)) b d fault = subst (λ (f : Fp). fps.HasAppendCause f b d fault) is.column (sink_cause x.column b d fault c.in_err-carry_out.ensures.cause) in
    rw (p.1, p.2) (column_cause place slots k parts a b d fault within (next_codes place k a b at.invariant.others) (next_values place k a b at.invariant.others) at.invariant.later cause)

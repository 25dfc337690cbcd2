use Rattle.std.proofs.Common.{◌≡◌, List, ℕ, Option, None, Some, length, sym, ◌∙◌, ap, ap₂, subst, map, inl, inr, ⊎_elim}
use Rattle.std.proofs.lemmas.List.{length-map}
use Rattle.iq_pages.specs.PageCalls.{view}
use Rattle.iq_table.specs.Places.{as_column}
use Rattle.iq_predicate.specs.Calls.{HasTableCause}
use Rattle.std.specs.List.{filter_map}
use Rattle.std.proofs.lemmas.Result.{err_from_is_err_and}
use Rattle.iq_table.specs.Table.{values_at}
use Rattle.iq_statements.specs.Checks.{first_found}
use Rattle.iq_statements.specs.Named.{item_column, no_column}
use Rattle.iq_model.specs.Outs.{outs_of}
use Rattle.iq_base.specs.declared.descriptors.Descriptor.{Descriptor}
use Rattle.iq_ast.specs.declared.conditions.Test.{Test}
use Rattle.iq_ast.specs.declared.statements.Item.{Item}
use Rattle.iq_database.specs.Standing.{StandsAt}
use Rattle.iq_query.specs.Calls.{AreWithin, places_of, counts_rows, counted_rows, chosen, test_in, test_refusal}
use Rattle.iq_query.proofs.Simples.{list_refused, test_refused, answered}
use Rattle.iq_query.proofs.answering.answer_of.Goals as goal

pub returns-in_err-places-clause-cause : goal.returns-in_err-places-clause-cause
returns-in_err-places-clause-cause g c =
    let p = err_from_is_err_and c.from_residual-in_err-places.result c.from_residual-in_err-places.ensures.1 in
    rw (p.1, p.2)
    (⊎_elim (λ memory. inr (inr memory))
    (λ found. inl (λ t describes.
    let columns = c.as_slice.ensures ∙ c.in_ok-columns.ensures ∙ describes.columns_are in
    list_refused c.args.statement.now t c.as_slice.result.now c.in_err-places.field-0.0 c.requires.simple columns
    (ap (λ (ms : List Item). first_found (no_column c.as_slice.result.now) (filter_map item_column ms)) (sym c.as_slice-2.ensures) ∙ found)))
    c.in_err-places.ensures.cause)

pub returns-in_err-admit-clause-cause : goal.returns-in_err-admit-clause-cause
returns-in_err-admit-clause-cause g c =
    let p = err_from_is_err_and c.from_residual-in_err-admit.result c.from_residual-in_err-admit.ensures.1 in
    rw (p.1, p.2)
    (inl (λ t describes.
    let columns = c.as_slice.ensures ∙ c.in_ok-columns.ensures ∙ describes.columns_are in
    test_refused c.args.statement.now t c.as_slice.result.now (Some c.in_err-admit.field-0.0) c.requires.simple columns
    (ap (λ (ms : List Item). first_found (no_column c.as_slice.result.now) (filter_map item_column ms)) (sym c.as_slice-2.ensures) ∙ c.in_ok-places.ensures.granted)
    (ap₂ test_refusal (c.as_slice.ensures ∙ sym c.as_slice-3.ensures) (sym c.test_in-test.ensures) ∙ c.in_err-admit.ensures.cause)))

pub rows_of-requires-clause-within : goal.rows_of-requires-clause-within
rows_of-requires-clause-within g c =
    let long : length c.as_slice.result.now ≡ length c.in_ok-copied.field-0.columns =
    ap length (c.as_slice.ensures ∙ c.in_ok-columns.ensures) ∙ length-map c.args.table.now.columns as_column ∙ ap (λ (d : Descriptor). length d.columns) (sym c.in_ok-copied.ensures) in
    subst (λ (ps : List ℕ). AreWithin (length c.in_ok-copied.field-0.columns) ps) (sym c.as_slice-6.ensures.value)
    (subst (λ (n : ℕ). AreWithin n c.in_ok-places.places.items) long c.in_ok-places.ensures.within)

pub returns-in-Ok-clause-granted : goal.returns-in-Ok-clause-granted
returns-in-Ok-clause-granted g c = λ t describes.
    let columns = c.as_slice.ensures ∙ c.in_ok-columns.ensures ∙ describes.columns_are in
    test_refused c.args.statement.now t c.as_slice.result.now None c.requires.simple columns
    (ap (λ (ms : List Item). first_found (no_column c.as_slice.result.now) (filter_map item_column ms)) (sym c.as_slice-2.ensures) ∙ c.in_ok-places.ensures.granted)
    (ap₂ test_refusal (c.as_slice.ensures ∙ sym c.as_slice-3.ensures) (sym c.test_in-test.ensures) ∙ c.in_ok-admit.ensures.granted)

pub returns-in-Ok-clause-answer : goal.returns-in-Ok-clause-answer
returns-in-Ok-clause-answer g c = λ t stands.
    let columns = c.as_slice.ensures ∙ c.in_ok-columns.ensures ∙ stands.describes.columns_are in
    let granted = ap (λ (ms : List Item). first_found (no_column c.as_slice.result.now) (filter_map item_column ms)) (sym c.as_slice-2.ensures) ∙ c.in_ok-places.ensures.granted in
    let places = c.in_ok-places.ensures.places ∙ ap (places_of c.as_slice.result.now) c.as_slice-2.ensures in
    let copy = subst (λ (d : Descriptor). StandsAt (g.S.PageSource.told c.args.source.now) c.args.place d t) (sym c.in_ok-copied.ensures) stands in
    answered c.args.statement.now t c.as_slice.result.now c.in_ok-places.places.items c.in-Ok.rows c.requires.simple columns granted places
    (λ counts. c.in-Ok.ensures.counted (ap counts_rows c.as_slice-5.ensures ∙ counts) t copy ∙ ap (λ (test : Option Test). counted_rows (chosen test t)) c.test_in-test.ensures)
    (λ listed. c.in-Ok.ensures.listed (ap counts_rows c.as_slice-5.ensures ∙ listed) t copy
    ∙ ap (λ (test : Option Test). map outs_of (map (values_at c.as_slice-6.result.now) (chosen test t))) c.test_in-test.ensures
    ∙ ap (λ (ps : List ℕ). map outs_of (map (values_at ps) (chosen (test_in c.args.statement.now.cond) t))) c.as_slice-6.ensures.value)

pub returns-clause-cause : goal.returns-clause-cause
returns-clause-cause g c =
    inr (inl (record {
      fault = c.in-Err.fault;
      cause_is = c.refusal_of.ensures.is;
      why = subst (λ (d : Descriptor). HasTableCause c.args.place d (view g.S.PageSource c.args.source.now) (view g.S.PageSource c.rows_of.new.source) c.in-Err.fault) c.in_ok-copied.ensures c.in-Err.ensures.cause;
    }))

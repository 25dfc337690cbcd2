use Rattle.std.proofs.Common.{◌≡◌, ◌<◌, ◌≤◌, length, List, ℕ, sym, ◌∙◌, ap, subst, inl, refl, rules}
use Rattle.std.proofs.lemmas.List.{length-map}
use Rattle.std.specs.Prelude.{is_some, map}
use Rattle.iq_base.specs.declared.descriptors.Descriptor.{Descriptor}
use Rattle.iq_table.specs.declared.table.Table.{Table}
use Rattle.iq_table.specs.Places.{new_part}
use Rattle.iq_table.specs.Calls.{new_parts}
use Rattle.iq_database.specs.LookUps.{place_from, before_from}
use Rattle.iq_write.specs.Simple.{ArePlain}
use Rattle.iq_write.specs.Effects.{Creates}
use Rattle.iq_write.proofs.Tests.{create_known, none_known, create_full, create_free}
use Rattle.iq_write.proofs.Changes.{FitPages, create_tells, create_stands}
use Rattle.iq_write.proofs.Lists.{plain_insert}
use Rattle.iq_write.proofs.writing.create.Goals as goal

pub returns-then-is_some-clause-cause : goal.returns-then-is_some-clause-cause
returns-then-is_some-clause-cause c =
    let there = c.place_of.ensures.place ∙ ap (place_from 0 c.args.name.now) c.as_slice.ensures.value in
    inl (rw c.again.ensures (create_known c.args.name.now c.args.tables.now.items (ap is_some (sym there) ∙ sym c.is_some.ensures ∙ c.if-is_some.true)))

pub returns-then-as_slice-ge-MOST_TABLES-clause-cause : goal.returns-then-as_slice-ge-MOST_TABLES-clause-cause
returns-then-as_slice-ge-MOST_TABLES-clause-cause c =
    let there = c.place_of.ensures.place ∙ ap (place_from 0 c.args.name.now) c.as_slice.ensures.value in
    let none = none_known (place_from 0 c.args.name.now c.args.tables.now.items) (ap is_some (sym there) ∙ sym c.is_some.ensures ∙ c.if-is_some.false) in
    inl (create_full c.args.name.now c.args.tables.now.items none (subst (λ (xs : List Descriptor). 64 ≤ length xs) c.as_slice-2.ensures.value c.if-as_slice-ge-MOST_TABLES.true))

pub returns-in_err-insert-clause-unchanged : goal.returns-in_err-insert-clause-unchanged
returns-in_err-insert-clause-unchanged c = search (rules, c.in_err-insert.ensures.items)

pub returns-clause-ok : goal.returns-clause-ok
returns-clause-ok c =
    let name = c.args.name.now in
    let columns = c.args.columns.now in
    let ds = c.args.tables.now.items in
    let there = c.place_of.ensures.place ∙ ap (place_from 0 name) c.as_slice.ensures.value in
    let none = none_known (place_from 0 name ds) (ap is_some (sym there) ∙ sym c.is_some.ensures ∙ c.if-is_some.false) in
    let place = c.before-place.ensures.place ∙ ap (before_from 0 name) c.as_slice-3.ensures.value in
    let made : c.in_ok-table.table.parts ≡ new_parts name columns = ap (λ (t : Table). t.parts) c.in_ok-table.ensures.table ∙ ap (λ (n : List ℕ). new_parts n columns) c.again-2.ensures in
    let fit : FitPages (map new_part columns) = subst FitPages (c.as_slice-4.ensures ∙ ap (λ (d : Descriptor). d.columns) made) c.cells_fit_pages.ensures in
    subst (Creates name columns ds) (sym (c.in_ok-insert.ensures.items))
    (rw (place, made)
    (record {
      granted = create_free name ds none (subst (λ (xs : List Descriptor). length xs < 64) c.as_slice-2.ensures.value c.if-as_slice-ge-MOST_TABLES.false);
      tells = create_tells name columns ds;
      stands = create_stands name columns ds c.requires.few fit;
    }))

pub returns-clause-few : goal.returns-clause-few
returns-clause-few c =
    let name = c.args.name.now in
    let ds = c.args.tables.now.items in
    let there = c.place_of.ensures.place ∙ ap (place_from 0 name) c.as_slice.ensures.value in
    let none = none_known (place_from 0 name ds) (ap is_some (sym there) ∙ sym c.is_some.ensures ∙ c.if-is_some.false) in
    let place = c.before-place.ensures.place ∙ ap (before_from 0 name) c.as_slice-3.ensures.value in
    let made : c.in_ok-table.table.parts ≡ new_parts name c.args.columns.now = ap (λ (t : Table). t.parts) c.in_ok-table.ensures.table ∙ ap (λ (n : List ℕ). new_parts n c.args.columns.now) c.again-2.ensures in
    let within = subst (λ (xs : List Descriptor). c.before-place.result ≤ length xs) c.as_slice-3.ensures.value c.before-place.ensures.within in
    subst ArePlain (sym (c.in_ok-insert.ensures.items))
    (rw (place, made)
    (plain_insert ds name (new_parts name c.args.columns.now) refl (subst (λ (n : ℕ). n ≤ 32) (sym (length-map c.args.columns.now new_part)) c.requires.few) refl none (subst (λ (xs : List Descriptor). length xs < 64) c.as_slice-2.ensures.value c.if-as_slice-ge-MOST_TABLES.false) (rw place at within) c.requires.tables))

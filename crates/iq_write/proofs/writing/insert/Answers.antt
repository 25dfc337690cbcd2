use Rattle.std.proofs.Common.{◌≡◌, ◌<◌, [], length, List, sym, ◌∙◌, ap, subst, refl, rules}
use Rattle.iq_base.specs.declared.descriptors.Descriptor.{Descriptor}
use Rattle.iq_pages.specs.PageCalls.{view}
use Rattle.iq_cells.specs.Tables.{RowList}
use Rattle.iq_cells.specs.Growing.{kinds_of}
use Rattle.iq_table.specs.Places.{part_kinds}
use Rattle.iq_database.specs.LookUps.{place_from}
use Rattle.iq_write.proofs.Appends.{missing_cause, bad_cause, append_cause, room_left, read_of_all, insert_effect, set_plain}
use Rattle.iq_write.proofs.Changes.{kinds_as}
use Rattle.iq_write.proofs.writing.insert.Goals as goal

pub returns-in_default-clause-cause : goal.returns-in_default-clause-cause
returns-in_default-clause-cause g c =
    let there = ap (place_from 0 c.args.name.now) (sym c.as_slice.ensures.value) ∙ sym c.place_of.ensures.place ∙ c.in_default.is in
    rw c.again.ensures (missing_cause c.args.name.now c.args.rows.now c.args.tables.now.items (view g.S.PageSource c.args.sink.now) (view g.S.PageSource c.args.sink.now) there)

pub returns-in_err-cells-clause-cause : goal.returns-in_err-cells-clause-cause
returns-in_err-cells-clause-cause g c =
    let there = ap (place_from 0 c.args.name.now) (sym c.as_slice.ensures.value) ∙ sym c.place_of.ensures.place ∙ c.in-Some.is in
    let columns = c.as_slice-2.ensures ∙ c.in_ok-columns.ensures in
    let cause = bad_cause c.args.name.now c.args.rows.now c.args.tables.now.items c.in-Some.place c.index-before.result.now c.as_slice-2.result.now (view g.S.PageSource c.args.sink.now) (view g.S.PageSource c.args.sink.now) c.in_err-cells.field-0.0 there c.index-before.ensures columns c.in_err-cells.ensures.cause in
    search (rules, cause)

pub append_rows-requires-clause-kinds : goal.append_rows-requires-clause-kinds
append_rows-requires-clause-kinds g c =
    let columns = c.as_slice-2.ensures ∙ c.in_ok-columns.ensures in
    ap (λ (rows : RowList). rows.kinds) c.in_ok-cells.ensures.cells ∙ ap kinds_of columns ∙ kinds_as c.index-before.result.now.columns ∙ ap (λ (d : Descriptor). part_kinds d.columns) (sym c.in_ok-copied.ensures)

pub returns-in-Err-clause-cause : goal.returns-in-Err-clause-cause
returns-in-Err-clause-cause g c =
    let ds = c.args.tables.now.items in
    let there = ap (place_from 0 c.args.name.now) (sym c.as_slice.ensures.value) ∙ sym c.place_of.ensures.place ∙ c.in-Some.is in
    let less = subst (λ (xs : List Descriptor). c.in-Some.place < length xs) c.as_slice.ensures.value (rw c.in-Some.is at c.place_of.ensures.within) in
    let columns = c.as_slice-2.ensures ∙ c.in_ok-columns.ensures in
    let rows = ap (λ (list : RowList). list.rows) c.in_ok-cells.ensures.cells in
    let plain = read_of_all (λ (d : Descriptor). d.indexes ≡ []) ds c.in-Some.place c.index-before.result.now less c.index-before.ensures c.requires.tables.plain in
    rw c.refusal_of.ensures.is
    (append_cause c.args.name.now c.args.rows.now ds c.in-Some.place c.index-before.result.now c.as_slice-2.result.now (view g.S.PageSource c.args.sink.now) (view g.S.PageSource c.append_rows.new.sink) c.in-Err.fault
    there less c.index-before.ensures columns plain c.in_ok-cells.ensures.granted (rw (c.in_ok-copied.ensures, rows) at c.in-Err.ensures.cause))

pub returns-clause-ok : goal.returns-clause-ok
returns-clause-ok g c =
    let ds = c.args.tables.now.items in
    let there = ap (place_from 0 c.args.name.now) (sym c.as_slice.ensures.value) ∙ sym c.place_of.ensures.place ∙ c.in-Some.is in
    let less = subst (λ (xs : List Descriptor). c.in-Some.place < length xs) c.as_slice.ensures.value (rw c.in-Some.is at c.place_of.ensures.within) in
    let columns = c.as_slice-2.ensures ∙ c.in_ok-columns.ensures in
    let rows = ap (λ (list : RowList). list.rows) c.in_ok-cells.ensures.cells in
    let room = room_left _ _ c.append_rows.result _ _ _ c.append_rows.ensures.full c.in-Ok.is in
    insert_effect c.args.name.now c.args.rows.now c.in_ok-cells.cells.rows ds c.in-Some.place c.index-before.result.now c.as_slice-2.result.now (record { place = c.in-Some.place; parts = c.in_ok-copied.field-0 }) c.append_rows.new.self
    (g.S.PageSource.told c.args.sink.now) (g.S.PageSource.told c.append_rows.new.sink)
    there less c.index-before.ensures columns c.requires.tables refl c.in_ok-copied.ensures rows c.in_ok-cells.ensures.granted (rw (c.in_ok-copied.ensures, rows) at room) c.in-Ok.ensures.grown c.in-Ok.ensures.ok
    (λ object other. c.append_rows.ensures.others.told object other)

pub returns-clause-few : goal.returns-clause-few
returns-clause-few g c =
    let less = subst (λ (xs : List Descriptor). c.in-Some.place < length xs) c.as_slice.ensures.value (rw c.in-Some.is at c.place_of.ensures.within) in
    set_plain c.args.tables.now.items c.in-Some.place c.index-before.result.now (record { place = c.in-Some.place; parts = c.in_ok-copied.field-0 }) c.append_rows.new.self _ less c.index-before.ensures c.in_ok-copied.ensures c.in-Ok.ensures.grown c.requires.tables

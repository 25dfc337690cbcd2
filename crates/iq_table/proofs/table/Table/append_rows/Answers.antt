use Rattle.std.proofs.Common.{◌≡◌, ◌<◌, ◌+◌, ℕ, List, length, refl, ap, ◌∙◌}
use Rattle.std.proofs.lemmas.List.{length-map}
use Rattle.std.proofs.lemmas.Result.{err_from_is_err_and}
use Rattle.iq_base.specs.declared.values.Kind.{Kind}
use Rattle.iq_base.specs.declared.descriptors.ColumnPart.{ColumnPart}
use Rattle.iq_pages.specs.PageCalls.{view}
use Rattle.iq_cells.specs.Tables.{row_at}
use Rattle.iq_table.specs.declared.table.Table.{Table}
use Rattle.iq_table.specs.Calls.{HasGrown, AreGrown, ColumnsStandForMore, HasWriteCause}
use Rattle.iq_table.proofs.TableGrowth.{table_more, append_cause}
use Rattle.iq_table.proofs.table.Table.append_rows.Goals as goal

pub returns-in_err-columns-clause-cause : goal.returns-in_err-columns-clause-cause
returns-in_err-columns-clause-cause g c =
    let self = c.args.self.now in
    let p = err_from_is_err_and c.from_residual.result c.from_residual.ensures.1 in
    let cause : HasWriteCause self.place self.parts.slots self.parts.columns (view g.S.PageSource c.args.sink.now) (view g.S.PageSource c.write_rows.new.sink) c.in_err-columns.field-0.0 = rw c.as_slice.ensures at c.in_err-columns.ensures.cause in
    rw (p.1, p.2) (append_cause self (length c.args.rows.now.rows) (view g.S.PageSource c.args.sink.now) (view g.S.PageSource c.write_rows.new.sink) c.in_err-columns.field-0.0 cause)

pub returns-clause-ok : goal.returns-clause-ok
returns-clause-ok g c =
    let self = c.args.self.now in
    let rows = c.args.rows.now.rows in
    let columns = c.in_ok-columns.columns.items in
    let slots = self.parts.slots + length rows in
    let new : Table = record self { parts = record self.parts { slots = slots; columns = columns } } in
    let put : c.from_vec.result ≡ columns = c.from_vec.ensures in
    let count : self.parts.slots + c.len-2.result ≡ slots = ap (λ (n : ℕ). self.parts.slots + n) c.len-2.ensures in
    let are : AreGrown (length rows) self.parts.columns columns = rw c.as_slice.ensures at c.in_ok-columns.ensures.grown in
    let grown : HasGrown self new (length rows) = record { rest = refl; slots = refl; columns = are } in
    let wide : (r : ℕ) → r < length rows → length (row_at r rows) ≡ length self.parts.columns =
    λ r h. c.width-width.ensures.each r h ∙ c.width-width.ensures.kinds ∙ ap (λ (kinds : List Kind). length kinds) c.requires.kinds ∙ length-map self.parts.columns (λ (part : ColumnPart). part.kind) in
    let more : ColumnsStandForMore (length self.parts.columns) self.place self.parts.slots slots self.parts.columns columns rows (g.S.PageSource.told c.args.sink.now) (g.S.PageSource.told c.write_rows.new.sink) = rw c.as_slice.ensures at c.in_ok-columns.ensures.ok in
    let whole = table_more self new rows (g.S.PageSource.told c.args.sink.now) (g.S.PageSource.told c.write_rows.new.sink) grown wide more c.in_ok-columns.ensures.existence in
    rw (put, count) whole

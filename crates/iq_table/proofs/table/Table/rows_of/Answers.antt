use Rattle.std.proofs.Common.{◌≡◌, ◌<◌, ◌+◌, ◌∷◌, ◌++◌, [], ℕ, List, length, take, slice_index, sym, ap, ◌∙◌, subst, arith}
use Rattle.std.specs.Prelude.{count_by}
use Rattle.std.proofs.lemmas.List.{length-append}
use Rattle.std.proofs.lemmas.Result.{err_from_is_err_and}
use Rattle.iq_pages.specs.PageCalls.{view}
use Rattle.iq_pieces.proofs.Counting.{reads_on}
use Rattle.iq_cells.specs.Packed.{Column}
use Rattle.iq_cells.specs.Tables.{RowList, column_at, AreLong, rows_in}
use Rattle.iq_fp.specs.Calls as fps
use Rattle.iq_table.specs.Places.{fp_at}
use Rattle.iq_table.specs.Calls.{pages_of_columns}
use Rattle.iq_table.proofs.Readings.{IsRead, read_more, values_still, are_long, kinds_are, rows_are, pages_next, pages_first, rows_cause}
use Rattle.iq_table.proofs.table.Table.rows_of.Goals as goal

pub returns-in_err-cells_of-clause-reads : goal.returns-in_err-cells_of-clause-reads
returns-in_err-cells_of-clause-reads g c =
    let self = c.args.self.now in
    let columns = c.args.columns.now in
    let i = c.loop-c.c-index in
    let within : i < length columns = omega (arith, c.loop-c-test.true) in
    reads_on (pages_of_columns self (take i columns)) (fps.all_pages (fp_at self.place self.parts (slice_index columns i))) (pages_of_columns self columns)
    (view g.S.PageSource c.args.source.now) (view g.S.PageSource c.loop-c.source) (view g.S.PageSource c.cells_of.new.source)
    (omega (arith, pages_next self columns i within, pages_first self columns (i + 1))) c.loop-c.invariant.reads c.cells_of.ensures.reads

pub returns-in_err-cells_of-clause-cause : goal.returns-in_err-cells_of-clause-cause
returns-in_err-cells_of-clause-cause g c =
    let self = c.args.self.now in
    let columns = c.args.columns.now in
    let i = c.loop-c.c-index in
    let within : i < length columns = omega (arith, c.loop-c-test.true) in
    let p = err_from_is_err_and c.from_residual-in_err-cells_of.result c.from_residual-in_err-cells_of.ensures.1 in
    rw (p.1, p.2) (rows_cause self columns i (view g.S.PageSource c.args.source.now) (view g.S.PageSource c.loop-c.source) (view g.S.PageSource c.cells_of.new.source) c.in_err-cells_of.field-0.0 within c.loop-c.invariant.reads.kept c.loop-c.invariant.reads.later c.in_err-cells_of.ensures.cause)

pub returns-in_err-push-clause-reads : goal.returns-in_err-push-clause-reads
returns-in_err-push-clause-reads g c =
    let self = c.args.self.now in
    let columns = c.args.columns.now in
    let i = c.loop-c.c-index in
    let within : i < length columns = omega (arith, c.loop-c-test.true) in
    reads_on (pages_of_columns self (take i columns)) (fps.all_pages (fp_at self.place self.parts (slice_index columns i))) (pages_of_columns self columns)
    (view g.S.PageSource c.args.source.now) (view g.S.PageSource c.loop-c.source) (view g.S.PageSource c.cells_of.new.source)
    (omega (arith, pages_next self columns i within, pages_first self columns (i + 1))) c.loop-c.invariant.reads c.cells_of.ensures.reads

pub loop-c-preserved : goal.loop-c-preserved
loop-c-preserved g c =
    let self = c.args.self.now in
    let columns = c.args.columns.now in
    let set = c.args.rows.now in
    let i = c.loop-c.c-index in
    let told = g.S.PageSource.told c.args.source.now in
    let read = c.loop-c.read.items in
    let cells : Column = c.in_ok-cells_of.field-0 in
    let within : i < length columns = omega (arith, c.loop-c-test.true) in
    let items : c.push.new.self.items ≡ read ++ cells ∷ [] = c.in_ok-push.ensures.items in
    let here : IsRead self told set (slice_index columns i) cells = record {
      kind = c.in_ok-cells_of.ensures.kind;
      long = c.in_ok-cells_of.ensures.long;
      values = values_still self (slice_index columns i) told (g.S.PageSource.told c.loop-c.source) set cells.values c.loop-c.invariant.reads.kept.told c.in_ok-cells_of.ensures.values;
    } in
    record {
      long = ap length items ∙ length-append read (cells ∷ []) ∙ (omega (arith, c.loop-c.invariant.long));
      each = λ j h. subst (λ (cs : List Column). IsRead self told set (slice_index columns j) (column_at j cs)) (sym items) (read_more self told set columns read cells i c.loop-c.invariant.long c.loop-c.invariant.each here j h);
      reads = reads_on (pages_of_columns self (take i columns)) (fps.all_pages (fp_at self.place self.parts (slice_index columns i))) (pages_of_columns self (take (i + 1) columns))
          (view g.S.PageSource c.args.source.now) (view g.S.PageSource c.loop-c.source) (view g.S.PageSource c.cells_of.new.source)
          (omega (arith, pages_next self columns i within)) c.loop-c.invariant.reads c.cells_of.ensures.reads;
    }

pub of-requires : goal.of-requires
of-requires g c =
    let columns = c.args.columns.now in
    let read = c.loop-c.read.items in
    let all : c.loop-c.c-index ≡ length columns = omega (arith, c.loop-c-test.false, c.loop-c.auto.c-index-end) in
    let long : length read ≡ length columns = c.loop-c.invariant.long ∙ all in
    let are : AreLong read (count_by (λ on. on) c.args.rows.now) = are_long c.args.self.now (g.S.PageSource.told c.args.source.now) c.args.rows.now columns read long (λ j h. c.loop-c.invariant.each j (omega (arith, all))) in
    λ k h. are k h ∙ sym c.count-count.ensures

pub returns-clause-kinds : goal.returns-clause-kinds
returns-clause-kinds g c =
    let columns = c.args.columns.now in
    let read = c.loop-c.read.items in
    let all : c.loop-c.c-index ≡ length columns = omega (arith, c.loop-c-test.false, c.loop-c.auto.c-index-end) in
    let long : length read ≡ length columns = c.loop-c.invariant.long ∙ all in
    ap (λ (l : RowList). l.kinds) c.of.ensures
    ∙ kinds_are c.args.self.now (g.S.PageSource.told c.args.source.now) c.args.rows.now columns read c.count-count.result long (λ j h. c.loop-c.invariant.each j (omega (arith, all)))

pub returns-clause-rows : goal.returns-clause-rows
returns-clause-rows g c = λ rows alive stands.
    let columns = c.args.columns.now in
    let read = c.loop-c.read.items in
    let all : c.loop-c.c-index ≡ length columns = omega (arith, c.loop-c-test.false, c.loop-c.auto.c-index-end) in
    let long : length read ≡ length columns = c.loop-c.invariant.long ∙ all in
    let gives = rows_are c.args.self.now (g.S.PageSource.told c.args.source.now) c.args.rows.now columns read long c.requires.long c.requires.columns (λ j h. c.loop-c.invariant.each j (omega (arith, all))) rows alive stands in
    ap (λ (l : RowList). l.rows) c.of.ensures ∙ ap (λ (n : ℕ). (rows_in read n).rows) c.count-count.ensures ∙ gives

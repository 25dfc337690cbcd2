use Rattle.std.proofs.Common.{◌≡◌, ◌<◌, ◌*◌, ◌/◌, ◌∙◌, ℕ, inl, inr, sym, ap, arith}
use Rattle.std.proofs.lemmas.List.{length-map}
use Rattle.std.proofs.lemmas.Result.{on_ok_weaker, err_from_is_err_and}
use Rattle.std.proofs.lemmas.Grind.{rows}
use Rattle.iq_pages.specs.PageCalls.{view}
use Rattle.iq_base.specs.Cells.{width, cell}
use Rattle.iq_pieces.specs.Counts.{per_page}
use Rattle.iq_lf.proofs.WriteLaws.{written_stands, rows_cause, save_cause, room_for}
use Rattle.iq_lf.proofs.appending.write.Goals as goal

pub returns-clause-ok : goal.returns-clause-ok
returns-clause-ok g c = λ cells n.
    let old = c.args.old.now in
    let told = g.S.PageSource.told in
    let room = c.requires.room in
    let read = c.grown_table.ensures.reads.kept.told in
    on_ok_weaker c.append_behind.result
    (λ behind. written_stands old c.args.new.now (told c.args.sink.now) (told c.put_rows.new.sink) (told c.save.new.sink) (told c.append_behind.new.sink) cells c.args.numbering.now.fresh.values c.args.numbering.now.codes.items c.args.numbering.now.last
    c.in_ok-table.table.pages.items c.put_rows.new.table.pages.items c.put_rows.new.table.changed.items c.requires.grown room c.requires.few n
    (record {
      entries = c.in_ok-table.ensures.entries;
      bitmaps = rw (read old.third, c.deref.ensures.value) at c.in_ok-put_rows.ensures.ok;
      kept = λ values stands. c.in_ok-put_rows.ensures.kept stands.numbers (c.in_ok-table.ensures.kept values stands);
      long = c.in_ok-put_rows.ensures.long ∙ c.in_ok-table.ensures.long;
      saved = c.in_ok-save.ensures.ok;
      behind = rw c.requires.kind at behind;
      first_u = c.save.ensures.others.told old.first room.first ∙ c.put_rows.ensures.others.told old.first room.third ∙ read old.first;
      second_u = c.put_rows.ensures.others.told old.second room.second ∙ read old.second;
      second_w = c.append_behind.ensures.others.told old.second (λ e. room.first (sym e));
      third_w = c.append_behind.ensures.others.told old.third (λ e. room.third (sym e)) ∙ c.save.ensures.others.told old.third (λ e. room.second (sym e));
    }))
    c.append_behind.ensures.ok

pub returns-clause-others : goal.returns-clause-others
returns-clause-others g c =
    let old = c.args.old.now in
    let read = c.grown_table.ensures.reads.kept in
    record {
      told = λ o not. c.append_behind.ensures.others.told o (λ e. not (inl e)) ∙ c.save.ensures.others.told o (λ e. not (inr (inl e))) ∙ c.put_rows.ensures.others.told o (λ e. not (inr (inr e))) ∙ read.told o;
      counts = λ o not. c.append_behind.ensures.others.counts o (λ e. not (inl e)) ∙ c.save.ensures.others.counts o (λ e. not (inr (inl e))) ∙ c.put_rows.ensures.others.counts o (λ e. not (inr (inr e))) ∙ read.counts o;
    }

pub append_behind-requires-clause-room : goal.append_behind-requires-clause-room
append_behind-requires-clause-room g c =
    let kind = c.args.old.now.kind in
    let per : 1008 / c.width-width.result ≡ per_page (width kind) = ap (λ (n : ℕ). 1008 / n) c.width-width.ensures.value in
    let positive : 0 < 1008 / c.width-width.result = grind (arith, rows) in
    let many = length-map c.args.numbering.now.fresh.values (cell kind) in
    let room = room_for (per_page (width kind)) c.args.new.now.distinct (omega (arith, per, positive)) c.requires.few in
    rw (c.requires.kind) (omega (arith, room, many, c.requires.grown.distinct))

pub returns-in_err-put_rows-clause-cause : goal.returns-in_err-put_rows-clause-cause
returns-in_err-put_rows-clause-cause g c = λ cells n.
    let old = c.args.old.now in
    let p = err_from_is_err_and c.from_residual-in_err-put_rows.result c.from_residual-in_err-put_rows.ensures.1 in
    rw (p.1, p.2) (rows_cause old (33 * c.args.new.now.distinct) c.in_ok-table.table.pages.items (view g.S.PageSource c.args.sink.now) (view g.S.PageSource c.grown_table.new.source) (view g.S.PageSource c.put_rows.new.sink) c.in_err-put_rows.field-0.0
    (c.grown_table.ensures.reads.kept.told old.third) c.grown_table.ensures.reads.later (omega (arith, c.requires.grown.distinct)) c.in_ok-table.ensures.entries c.in_err-put_rows.ensures.cause)

pub returns-in_err-save-clause-cause : goal.returns-in_err-save-clause-cause
returns-in_err-save-clause-cause g c = λ cells n.
    let old = c.args.old.now in
    let p = err_from_is_err_and c.from_residual-in_err-save.result c.from_residual-in_err-save.ensures.1 in
    let long = c.in_ok-put_rows.ensures.long ∙ c.in_ok-table.ensures.long in
    rw (p.1, p.2) (save_cause old c.put_rows.new.table.pages.items c.put_rows.new.table.changed.items (view g.S.PageSource c.args.sink.now) (view g.S.PageSource c.put_rows.new.sink) (view g.S.PageSource c.save.new.sink) c.in_err-save.field-0.0
    (c.put_rows.ensures.others.told old.second c.requires.room.second ∙ c.grown_table.ensures.reads.kept.told old.second) (omega (arith, c.put_rows.ensures.later, c.grown_table.ensures.reads.later)) (omega (arith, long, c.requires.grown.distinct))
    (λ values stands. c.in_ok-put_rows.ensures.kept stands.numbers (c.in_ok-table.ensures.kept values stands)) c.in_err-save.ensures.cause)

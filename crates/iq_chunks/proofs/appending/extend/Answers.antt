use Rattle.std.proofs.Common.{◌≡◌, ◌/◌, refl, arith}
use Rattle.std.proofs.lemmas.Result.{err_from_is_err_and, on_ok_weaker}
use Rattle.iq_pages.specs.PageCalls.{view}
use Rattle.iq_chunks.proofs.ChunkReads.{read_cause}
use Rattle.iq_chunks.proofs.ChunkGrowth.{BeginsChunk, begins_full, begins_read, extends}
use Rattle.iq_chunks.proofs.appending.extend.Goals as goal
use Rattle.iq_chunks.proofs.appending.extend.Goals.{then-first-ne0+in_ok-read_page, else-first-ne0}

pub returns-in_err-read_page-clause-cause : goal.returns-in_err-read_page-clause-cause
returns-in_err-read_page-clause-cause g c =
    let p = err_from_is_err_and c.from_residual.result c.from_residual.ensures.1 in
    rw (p.1, p.2) (read_cause c.args.object c.args.from (c.args.from / 8064) (view g.S.PageSource c.args.sink.now) (view g.S.PageSource c.args.sink.now) (view g.S.PageSource c.read_page.new.source) c.in_err-read_page.field-0.0 (record { told = λ o. refl; counts = λ o. refl }) (omega arith) (omega (arith, c.if-first-ne0.true)) c.in_err-read_page.ensures.names c.in_err-read_page.ensures.cause)

pub returns-clause-ok : goal.returns-clause-ok
returns-clause-ok g c =
    let told = g.S.PageSource.told c.args.sink.now c.args.object in
    let begins : BeginsChunk c.args.from told c.if-first-ne0.page = elim c.if-first-ne0.branch [
      | then-first-ne0+in_ok-read_page w ↦ rw w.page-is (begins_read c.args.from told w.read_page.new.into w.if-first-ne0.true w.in_ok-read_page.ensures.ok)
      | else-first-ne0 w ↦ begins_full c.args.from told _ (omega (arith, w.if-first-ne0.false)) w.page-is
    ] in
    let same : g.S.PageSource.told c.if-first-ne0.sink c.args.object ≡ told = elim c.if-first-ne0.branch [
      | then-first-ne0+in_ok-read_page w ↦ rw w.sink-is (w.read_page.ensures.reads.kept.told c.args.object)
      | else-first-ne0 w ↦ rw w.sink-is refl
    ] in
    on_ok_weaker c.save_page.result
    (λ saves. extends c.args.from c.args.to told _ c.if-first-ne0.page c.set_in_page.new.page c.requires.some c.requires.within begins c.in_ok-set_in_page.ensures
    (rw same at saves))
    c.save_page.ensures.ok

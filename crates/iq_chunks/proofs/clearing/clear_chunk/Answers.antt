use Rattle.std.proofs.Common.{◌≡◌, length, refl, sym, ap, ◌∙◌, arith}
use Rattle.std.proofs.lemmas.Result.{err_from_is_err_and, on_ok_weaker}
use Rattle.iq_pages.specs.PageCalls.{view}
use Rattle.iq_pages.proofs.PageLaws.{counts_none}
use Rattle.iq_bitmap.proofs.Chunks.{length-chunk_of}
use Rattle.iq_chunks.specs.Chunks.{hit_in}
use Rattle.iq_chunks.proofs.ChunkReads.{read_cause}
use Rattle.iq_chunks.proofs.ChunkClears.{hit_none, hit_some, clears_page, clears_nothing, set_long}
use Rattle.iq_chunks.proofs.clearing.clear_chunk.Goals as goal

pub returns-then-has_none-clause-ok : goal.returns-then-has_none-clause-ok
returns-then-has_none-clause-ok g c = clears_nothing _ c.args.chunk _ c.args.found.now c.in_ok-gone.gone c.in_ok-gone.ensures (c.has_none.ensures.0 c.if-has_none.true)

pub returns-then-has_none-clause-written : goal.returns-then-has_none-clause-written
returns-then-has_none-clause-written g c =
    let none : hit_in c.args.found.now c.args.chunk ≡ 0 = hit_none c.args.found.now c.args.chunk _ (sym c.in_ok-gone.ensures ∙ c.has_none.ensures.0 c.if-has_none.true) in
    rw none (counts_none (g.S.PageSource.writes c.args.sink.now))

pub returns-in_err-read_page-clause-reads : goal.returns-in_err-read_page-clause-reads
returns-in_err-read_page-clause-reads g c =
    let one : hit_in c.args.found.now c.args.chunk ≡ 1 = hit_some c.args.found.now c.in_ok-gone.gone c.args.chunk c.in_ok-gone.ensures (λ e. let yes = c.has_none.ensures.1 e in let no = c.if-has_none.false in absurd (cc)) in
    rw one c.read_page.ensures.reads.reads

pub returns-in_err-read_page-clause-cause : goal.returns-in_err-read_page-clause-cause
returns-in_err-read_page-clause-cause g c =
    let p = err_from_is_err_and c.from_residual-in_err-read_page.result c.from_residual-in_err-read_page.ensures.1 in
    rw (p.1, p.2) (read_cause c.args.object (length c.args.found.now) c.args.chunk (view g.S.PageSource c.args.sink.now) (view g.S.PageSource c.args.sink.now) (view g.S.PageSource c.read_page.new.source) c.in_err-read_page.field-0.0 (record { told = λ o. refl; counts = λ o. refl }) (omega arith) (omega (arith, c.requires)) c.in_err-read_page.ensures.names c.in_err-read_page.ensures.cause)

pub clear_in_page-requires : goal.clear_in_page-requires
clear_in_page-requires g c = ap length c.in_ok-gone.ensures ∙ length-chunk_of c.args.chunk c.args.found.now

pub returns-in_err-clear_in_page-clause-reads : goal.returns-in_err-clear_in_page-clause-reads
returns-in_err-clear_in_page-clause-reads g c =
    let one : hit_in c.args.found.now c.args.chunk ≡ 1 = hit_some c.args.found.now c.in_ok-gone.gone c.args.chunk c.in_ok-gone.ensures (λ e. let yes = c.has_none.ensures.1 e in let no = c.if-has_none.false in absurd (cc)) in
    rw one c.read_page.ensures.reads.reads

pub returns-clause-ok : goal.returns-clause-ok
returns-clause-ok g c =
    on_ok_weaker c.set_page.result
    (λ done. clears_page _ _ c.args.chunk c.args.found.now c.in_ok-gone.gone c.read_page.new.into c.clear_in_page.new.page c.in_ok-gone.ensures c.in_ok-read_page.ensures.ok c.in_ok-clear_in_page.ensures
    (rw (c.read_page.ensures.reads.kept.told c.args.object) at done.told_here))
    c.set_page.ensures.0.done

pub returns-clause-reads : goal.returns-clause-reads
returns-clause-reads g c =
    let one : hit_in c.args.found.now c.args.chunk ≡ 1 = hit_some c.args.found.now c.in_ok-gone.gone c.args.chunk c.in_ok-gone.ensures (λ e. let yes = c.has_none.ensures.1 e in let no = c.if-has_none.false in absurd (cc)) in
    rw (one, c.set_page.ensures.0.reads) c.read_page.ensures.reads.reads

pub returns-clause-written : goal.returns-clause-written
returns-clause-written g c =
    let one : hit_in c.args.found.now c.args.chunk ≡ 1 = hit_some c.args.found.now c.in_ok-gone.gone c.args.chunk c.in_ok-gone.ensures (λ e. let yes = c.has_none.ensures.1 e in let no = c.if-has_none.false in absurd (cc)) in
    rw (one, ← c.read_page.ensures.reads.writes) c.set_page.ensures.0.writes

pub returns-clause-long : goal.returns-clause-long
returns-clause-long g c =
    on_ok_weaker c.set_page.result
    (λ done. set_long (g.S.PageSource.told c.args.sink.now c.args.object) _ c.args.chunk c.clear_in_page.new.page (rw (c.read_page.ensures.reads.kept.told c.args.object) at done.told_here))
    c.set_page.ensures.0.done

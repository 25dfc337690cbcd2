use Rattle.std.proofs.Common.{◌+◌, ◌*◌, ◌<◌, length, Option, ap, ◌∙◌, subst, arith}
use Rattle.std.proofs.lemmas.Nat.{mul-add-lt}
use Rattle.std.proofs.lemmas.Result.{err_from_is_err_and}
use Rattle.iq_pages.specs.PageCalls.{view}
use Rattle.iq_pages.specs.Pages.{Pages, IsPageOf}
use Rattle.iq_bitmap.specs.Bits.{page_bits}
use Rattle.iq_bitmap.proofs.Chunks.{length-with_chunk}
use Rattle.iq_pieces.proofs.Counting.{reads_on}
use Rattle.iq_chunks.specs.Chunks.{chunks_for}
use Rattle.iq_planes.proofs.PlaneReads.{loads_next, gives_plane, read_cause}
use Rattle.iq_planes.proofs.reading.read_plane.Goals as goal

pub returns-in_err-read_page-clause-cause : goal.returns-in_err-read_page-clause-cause
returns-in_err-read_page-clause-cause g c =
    let p = err_from_is_err_and c.from_residual-in_err-read_page.result c.from_residual-in_err-read_page.ensures.1 in
    let within : c.loop-chunk.chunk < chunks_for c.args.len = omega arith in
    rw (p.1, p.2) (read_cause c.args.object c.args.k c.args.len (c.loop-chunk.chunk * c.args.k + c.args.j) (view g.S.PageSource c.args.source.now) (view g.S.PageSource c.loop-chunk.source) (view g.S.PageSource c.read_page.new.source) c.in_err-read_page.field-0.0 c.loop-chunk.invariant.reads.kept c.loop-chunk.invariant.reads.later (mul-add-lt c.loop-chunk.chunk c.args.k c.args.j (chunks_for c.args.len) within c.requires.plane) c.in_err-read_page.ensures.names c.in_err-read_page.ensures.cause)

pub loop-chunk-preserved : goal.loop-chunk-preserved
loop-chunk-preserved g c =
    let told = c.loop-chunk.invariant.reads.kept.told c.args.object in
    let n = c.loop-chunk.chunk * c.args.k + c.args.j in
    let of : IsPageOf (g.S.PageSource.told c.args.source.now c.args.object) n c.read_page.new.into = subst (λ (o : Option Pages). IsPageOf o n c.read_page.new.into) told c.in_ok-read_page.ensures.ok in
    let next = loads_next _ c.args.k c.args.j c.loop-chunk.chunk c.loop-chunk.bits c.read_page.new.into of c.loop-chunk.invariant.loaded in
    record {
      long = ap length c.load_page.ensures ∙ length-with_chunk c.loop-chunk.chunk c.loop-chunk.bits (page_bits c.read_page.new.into) ∙ c.loop-chunk.invariant.long;
      loaded = rw c.load_page.ensures next;
      reads = reads_on c.loop-chunk.chunk 1 (c.loop-chunk.chunk + 1) _ _ _ (omega arith) c.loop-chunk.invariant.reads c.read_page.ensures.reads;
    }

pub returns-clause-bits : goal.returns-clause-bits
returns-clause-bits g c = gives_plane _ c.args.k c.args.len c.args.j (c.loop-chunk.chunk * 8064) c.loop-chunk.bits c.requires.plane c.loop-chunk.invariant.long (omega (arith, c.loop-chunk.auto.chunk-end, c.div_ceil-chunk-end.ensures)) c.loop-chunk.invariant.loaded

use Rattle.std.proofs.Common.{◌<◌, ◌+◌, ◌*◌, ◌∙◌, length, sym, ap, arith}
use Rattle.std.proofs.lemmas.Result.{err_from_is_err_and}
use Rattle.iq_pages.specs.PageCalls.{view}
use Rattle.iq_bitmap.specs.Bits.{page_bits}
use Rattle.iq_bitmap.proofs.Chunks.{length-with_chunk}
use Rattle.iq_chunks.specs.Chunks.{chunks_for}
use Rattle.iq_pieces.specs.Counts.{pages_for}
use Rattle.iq_pieces.proofs.Counting.{reads_on}
use Rattle.iq_lf.specs.Stands.{entries_in}
use Rattle.iq_lf.specs.Steps.{AreNeeded, IsMarkedChunk}
use Rattle.iq_lf.proofs.Readings.{cause_since}
use Rattle.iq_lf.proofs.FindLaws.{hit_entries, entries_still, chunk_still, marks_next, marks_all, reads_within}
use Rattle.iq_lf.proofs.lf.Lf.marked.Goals as goal

pub chunk_page-requires-clause-entries : goal.chunk_page-requires-clause-entries
chunk_page-requires-clause-entries g c =
    let lf = c.args.self.now in
    let told = g.S.PageSource.told c.args.source.now in
    let kept = c.loop-chunk.invariant.reads.kept.told in
    let needed : AreNeeded lf told c.in_ok-needed.needed.items c.in_ok-entries.entries.items = rw c.deref.ensures.value at c.in_ok-entries.ensures.pages in
    let base = hit_entries lf told c.args.hits.now c.in_ok-needed.needed.items c.in_ok-entries.entries.items c.in_ok-needed.ensures.all needed in
    rw c.deref-in-loop-chunk.ensures.value (entries_still lf told (g.S.PageSource.told c.loop-chunk.source) c.args.hits.now c.in_ok-entries.entries.items (sym (kept lf.first)) (sym (kept lf.second)) (sym (kept lf.third)) base)

pub returns-in_err-page-clause-reads : goal.returns-in_err-page-clause-reads
returns-in_err-page-clause-reads g c =
    let lf = c.args.self.now in
    let less : c.loop-chunk.chunk < chunks_for lf.slots = omega arith in
    reads_on (pages_for 4 (entries_in lf) + lf.distinct * c.loop-chunk.chunk) lf.distinct (pages_for 4 (entries_in lf) + lf.distinct * chunks_for lf.slots) _ _ _ (reads_within (pages_for 4 (entries_in lf)) lf.distinct c.loop-chunk.chunk (chunks_for lf.slots) less) c.loop-chunk.invariant.reads c.chunk_page.ensures.reads

pub returns-in_err-page-clause-cause : goal.returns-in_err-page-clause-cause
returns-in_err-page-clause-cause g c =
    let p = err_from_is_err_and c.from_residual-in_err-page.result c.from_residual-in_err-page.ensures.1 in
    rw (p.1, p.2) (cause_since c.args.self.now (view g.S.PageSource c.args.source.now) (view g.S.PageSource c.loop-chunk.source) (view g.S.PageSource c.chunk_page.new.source) c.in_err-page.field-0.0 c.loop-chunk.invariant.reads.kept c.loop-chunk.invariant.reads.later c.in_err-page.ensures.cause)

pub loop-chunk-preserved : goal.loop-chunk-preserved
loop-chunk-preserved g c =
    let lf = c.args.self.now in
    let told = g.S.PageSource.told c.args.source.now in
    let inv = c.loop-chunk.invariant in
    let chunk = c.loop-chunk.chunk in
    let kept = inv.reads.kept.told in
    let is : IsMarkedChunk lf told c.args.hits.now chunk c.in_ok-page.page = chunk_still lf told (g.S.PageSource.told c.loop-chunk.source) c.args.hits.now chunk c.in_ok-page.page (kept lf.first) (kept lf.second) (kept lf.third) c.in_ok-page.ensures.rows in
    record {
      long = ap length c.load_page.ensures ∙ length-with_chunk chunk c.loop-chunk.rows (page_bits c.in_ok-page.page) ∙ inv.long;
      rows = rw c.load_page.ensures (marks_next lf told c.args.hits.now chunk c.loop-chunk.rows c.in_ok-page.page c.requires.null is inv.rows);
      reads = reads_on (pages_for 4 (entries_in lf) + lf.distinct * chunk) lf.distinct (pages_for 4 (entries_in lf) + lf.distinct * (chunk + 1)) _ _ _ (reads_within (pages_for 4 (entries_in lf)) lf.distinct chunk (chunk + 1) (omega arith)) inv.reads c.chunk_page.ensures.reads;
    }

pub returns-clause-rows : goal.returns-clause-rows
returns-clause-rows g c = marks_all c.args.self.now (g.S.PageSource.told c.args.source.now) c.args.hits.now (c.loop-chunk.chunk * 8064) c.loop-chunk.rows c.requires.null c.loop-chunk.invariant.long (omega (arith, c.loop-chunk.auto.chunk-end, c.div_ceil-chunk-end.ensures)) c.loop-chunk.invariant.rows

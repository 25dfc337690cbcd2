use Rattle.std.proofs.Common.{◌≡◌, ◌≤◌, ◌+◌, ℕ, length, map, ◌∙◌, arith}
use Rattle.std.specs.List.{range_with_len, sum_by}
use Rattle.std.proofs.lemmas.Result.{err_from_is_err_and}
use Rattle.iq_pages.specs.PageCalls.{view}
use Rattle.iq_pages.proofs.PageLaws.{counts_on}
use Rattle.iq_pieces.proofs.Counting.{counts_up, counts_within, others_on}
use Rattle.iq_chunks.specs.Chunks.{chunks_for, hit_in, chunks_hit}
use Rattle.iq_chunks.proofs.ChunkClears.{clears_next, clears_all, hits_next, hits_within, bits_cause_since}
use Rattle.iq_chunks.proofs.clearing.clear_bits.Goals as goal

pub returns-in_err-clear_chunk-clause-reads : goal.returns-in_err-clear_chunk-clause-reads
returns-in_err-clear_chunk-clause-reads g c =
    let found = c.args.found.now in
    let k = c.loop-chunk.chunk in
    let so_far = sum_by (λ (pages : ℕ). pages) (map (hit_in found) (range_with_len 0 k)) in
    let next : sum_by (λ (pages : ℕ). pages) (map (hit_in found) (range_with_len 0 (k + 1))) ≡ so_far + hit_in found k = hits_next found k in
    let all = hits_within found (k + 1) (chunks_for (length found)) (omega (arith, c.loop-chunk-test.true, c.div_ceil-chunk-end.ensures, c.len.ensures)) in
    counts_up so_far (hit_in found k) (chunks_hit found) _ _ _ (omega (arith, next, all)) c.loop-chunk.invariant.reads c.clear_chunk.ensures.reads

pub returns-in_err-clear_chunk-clause-unwritten : goal.returns-in_err-clear_chunk-clause-unwritten
returns-in_err-clear_chunk-clause-unwritten g c =
    let found = c.args.found.now in
    let k = c.loop-chunk.chunk in
    let so_far = sum_by (λ (pages : ℕ). pages) (map (hit_in found) (range_with_len 0 k)) in
    let all : so_far ≤ chunks_hit found = hits_within found k (chunks_for (length found)) (omega (arith, c.loop-chunk-test.true, c.div_ceil-chunk-end.ensures, c.len.ensures)) in
    let p = err_from_is_err_and c.from_residual.result c.from_residual.ensures.1 in
    rw (p.1, c.in_err-clear_chunk.ensures.unwritten) (counts_within so_far (chunks_hit found) _ _ all c.loop-chunk.invariant.written)

pub returns-in_err-clear_chunk-clause-cause : goal.returns-in_err-clear_chunk-clause-cause
returns-in_err-clear_chunk-clause-cause g c =
    let p = err_from_is_err_and c.from_residual.result c.from_residual.ensures.1 in
    rw (p.1, p.2) (bits_cause_since c.args.object (length c.args.found.now) (view g.S.PageSource c.args.sink.now) (view g.S.PageSource c.loop-chunk.sink) (view g.S.PageSource c.clear_chunk.new.sink) c.in_err-clear_chunk.field-0.0 c.loop-chunk.invariant.long c.loop-chunk.invariant.later c.in_err-clear_chunk.ensures.cause)

pub loop-chunk-preserved : goal.loop-chunk-preserved
loop-chunk-preserved g c =
    let found = c.args.found.now in
    let k = c.loop-chunk.chunk in
    let so_far = sum_by (λ (pages : ℕ). pages) (map (hit_in found) (range_with_len 0 k)) in
    let next : sum_by (λ (pages : ℕ). pages) (map (hit_in found) (range_with_len 0 (k + 1))) ≡ so_far + hit_in found k = hits_next found k in
    record {
      cleared = clears_next k found _ _ _ (omega (arith, c.loop-chunk-test.true, c.div_ceil-chunk-end.ensures, c.len.ensures)) c.loop-chunk.invariant.cleared c.in_ok-clear_chunk.ensures.ok;
      long = c.in_ok-clear_chunk.ensures.long ∙ c.loop-chunk.invariant.long;
      others = others_on c.args.object (view g.S.PageSource c.args.sink.now) (view g.S.PageSource c.loop-chunk.sink) (view g.S.PageSource c.clear_chunk.new.sink) c.loop-chunk.invariant.others c.clear_chunk.ensures.others;
      reads = counts_up so_far (hit_in found k) _ _ _ _ (omega (arith, next)) c.loop-chunk.invariant.reads c.clear_chunk.ensures.reads;
      written = rw next (counts_on so_far (hit_in found k) _ _ _ c.loop-chunk.invariant.written c.in_ok-clear_chunk.ensures.written);
      later = omega (arith, c.loop-chunk.invariant.later, c.clear_chunk.ensures.later);
    }

pub returns-clause-ok : goal.returns-clause-ok
returns-clause-ok g c = clears_all c.loop-chunk.chunk c.args.found.now _ _ (omega (arith, c.loop-chunk-test.false, c.loop-chunk.auto.chunk-end, c.div_ceil-chunk-end.ensures, c.len.ensures)) c.loop-chunk.invariant.cleared

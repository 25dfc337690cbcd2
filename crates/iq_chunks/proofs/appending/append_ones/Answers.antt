use Rattle.std.proofs.Common.{◌≡◌, ◌<◌, ◌≤◌, ◌+◌, ◌-◌, ◌*◌, ◌/◌, ◌%◌, min, arith}
use Rattle.iq_pages.specs.PageCalls.{view}
use Rattle.iq_pages.proofs.PageLaws.{counts_on}
use Rattle.iq_pieces.proofs.Counting.{counts_up, others_on}
use Rattle.iq_chunks.proofs.ChunkGrowth.{appends_on}
use Rattle.iq_chunks.proofs.appending.append_ones.Goals as goal

pub loop-chunk-preserved : goal.loop-chunk-preserved
loop-chunk-preserved g c =
    let len = c.args.len in
    let end = c.args.len + c.args.more in
    let k = c.loop-chunk.chunk in
    let from : k * 8064 < end = omega (arith, c.loop-chunk-test.true, c.div_ceil-chunk-end.ensures) in
    let begins : len ≤ k * 8064 = omega (arith, c.loop-chunk.auto.chunk) in
    let to : c.min-in-loop-chunk.result ≡ min end ((k + 1) * 8064) = omega (arith, c.min-in-loop-chunk.ensures, c.end_of-in-loop-chunk.ensures) in
    let full : k * 8064 % 8064 ≡ 0 = omega arith in
    record {
      held = appends_on len (min end (k * 8064) - len) (c.min-in-loop-chunk.result - k * 8064) (min end ((k + 1) * 8064) - len) (k * 8064) _ _ _ (omega arith) (omega arith)
          c.loop-chunk.invariant.held c.in_ok-extend-2.ensures.ok;
      dark = λ e. c.loop-chunk.invariant.dark (c.in_ok-extend-2.ensures.dark e);
      reached = omega (arith, c.in_ok-extend-2.ensures.count);
      others = others_on c.args.object (view g.S.PageSource c.args.sink.now) (view g.S.PageSource c.loop-chunk.sink) (view g.S.PageSource c.extend-in-loop-chunk.new.sink) c.loop-chunk.invariant.others c.extend-in-loop-chunk.ensures.others;
      reads = counts_up 1 (min 1 (k * 8064 % 8064)) 1 _ _ _ (omega arith) c.loop-chunk.invariant.reads c.extend-in-loop-chunk.ensures.reads;
      written = (let e : k - len / 8064 + 1 ≡ k + 1 - len / 8064 = omega (arith, c.loop-chunk.auto.chunk) in rw e at (counts_on (k - len / 8064) 1 _ _ _ c.loop-chunk.invariant.written c.in_ok-extend-2.ensures.written));
      later = omega (arith, c.loop-chunk.invariant.later, c.extend-in-loop-chunk.ensures.later);
    }

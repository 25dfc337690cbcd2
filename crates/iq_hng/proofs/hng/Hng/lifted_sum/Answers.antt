use Rattle.std.proofs.Common.{◌≡◌, ◌+◌, ◌*◌, ℕ, suc, ap, sym, ◌∙◌, arith}
use Rattle.iq_pages.specs.PageCalls.{view}
use Rattle.iq_pieces.proofs.Counting.{reads_none, reads_on}
use Rattle.iq_chunks.specs.Chunks.{chunks_for}
use Rattle.iq_hng.specs.Keys.{bits_of}
use Rattle.iq_hng.specs.Slices.{Stands}
use Rattle.iq_hng.specs.Sums.{count_on}
use Rattle.iq_hng.proofs.Rows.{rows_more}
use Rattle.iq_hng.proofs.Sums.{no_low, low_more, still_short}
use Rattle.iq_hng.proofs.hng.Hng.lifted_sum.Goals as goal

pub loop-bit-init : goal.loop-bit-init
loop-bit-init g c = record {
  sum = λ values h. sym (no_low (bits_of c.args.self.now.width) c.args.found.now values);
  short = omega arith;
  reads = reads_none _ (view g.S.PageSource c.args.source.now);
}

pub returns-in_err-count-clause-reads : goal.returns-in_err-count-clause-reads
returns-in_err-count-clause-reads g c =
    let chunks = chunks_for c.args.self.now.slots in
    reads_on (c.loop-bit.bit * chunks) chunks (bits_of c.args.self.now.width * chunks) _ _ _ (rows_more c.loop-bit.bit (bits_of c.args.self.now.width) chunks (omega (arith, c.loop-bit-test.true, c.bits-bit-end.ensures))) c.loop-bit.invariant.reads c.count_in.ensures.reads

pub loop-bit-preserved : goal.loop-bit-preserved
loop-bit-preserved g c =
    let chunks = chunks_for c.args.self.now.slots in
    let bits = bits_of c.args.self.now.width in
    let j = c.loop-bit.bit in
    let up : j + 1 ≡ suc j = omega arith in
    record {
      sum = λ values h.
          let mid : Stands c.args.self.now (g.S.PageSource.told c.loop-bit.source) values = record { slots = h.slots; numbers = h.numbers; held = rw (c.loop-bit.invariant.reads.kept.told c.args.self.now.object) h.held } in
          let count : c.in_ok-count.count ≡ count_on bits (suc j) c.args.found.now values = c.in_ok-count.ensures.count values mid ∙ ap (λ (k : ℕ). count_on bits k c.args.found.now values) up in
          rw (c.times_power-sum.ensures.value, c.loop-bit.invariant.sum values h, count) (sym (low_more bits j c.args.found.now values));
      short = still_short c.loop-bit.sum c.times_power-sum.result j c.loop-bit.invariant.short c.times_power-sum.ensures.short;
      reads = reads_on (j * chunks) chunks ((j + 1) * chunks) _ _ _ (rows_more j (j + 1) chunks (omega arith)) c.loop-bit.invariant.reads c.count_in.ensures.reads;
    }

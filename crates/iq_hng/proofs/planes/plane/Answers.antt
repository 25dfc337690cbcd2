use Rattle.std.proofs.Common.{◌≡◌, ℕ, List, Bool, None, false, length, slice_index_or, refl, ap, ◌∙◌, arith}
use Rattle.iq_bitmap.specs.Bits.{page_bits}
use Rattle.iq_bitmap.proofs.Chunks.{length-with_chunk}
use Rattle.iq_hng.specs.Keys.{plane_bit}
use Rattle.iq_hng.proofs.Rows.{rows_are}
use Rattle.iq_hng.proofs.PlaneBits.{chunk_more}
use Rattle.iq_hng.proofs.planes.plane.Goals as goal

pub loop-chunk-preserved : goal.loop-chunk-preserved
loop-chunk-preserved c =
    let loaded : length c.load_page.new.self ≡ length c.loop-chunk.ones = ap length c.load_page.ensures ∙ length-with_chunk c.loop-chunk.chunk c.loop-chunk.ones (page_bits c.page_of-page.result) in
    record {
      count = refl;
      long = loaded ∙ c.loop-chunk.invariant.long;
      rows = λ i less within. ap (λ (bits : List Bool). slice_index_or bits i false) c.load_page.ensures
          ∙ chunk_more (λ (i : ℕ). plane_bit c.args.j (slice_index_or c.args.keys.now i None)) c.loop-chunk.chunk c.loop-chunk.ones c.page_of-page.result c.page_of-page.ensures c.loop-chunk.invariant.rows i less (omega (arith, within, loaded));
    }

pub returns : goal.returns
returns c = record {
  plane = rows_are (plane_bit c.args.j) c.args.keys.now None c.loop-chunk.ones c.loop-chunk.invariant.long
      (λ i h. c.loop-chunk.invariant.rows i (omega (arith, h, c.loop-chunk.auto.chunk-end, c.div_ceil-chunk-end.ensures)) (omega (arith, h, c.loop-chunk.invariant.long)));
}

use Rattle.std.proofs.Common.{◌≡◌, ◌%◌, arith}
use Rattle.iq_bitmap.specs.Bits.{page_bits}
use Rattle.iq_bitmap.proofs.Chunks.{length-page_bits}
use Rattle.iq_planes.proofs.PutRows.{puts_chunk}
use Rattle.iq_planes.proofs.one_page.put_in_page.Goals as goal

pub returns-then-first-eq0 : goal.returns-then-first-eq0
returns-then-first-eq0 c =
    let from : c.args.from ≡ 0 = omega (arith, c.if-from-eq0.true) in
    let to : c.args.to ≡ 8064 = omega (arith, c.if-to-eq-CHUNK_ROWS.true) in
    let whole : c.args.first % 8064 ≡ 0 = omega (arith, c.if-first-eq0.true) in
    rw (from, to) (puts_chunk c.args.first c.args.more.now (page_bits c.args.page.now) (page_bits c.store_page.new.into) whole (length-page_bits c.args.page.now) c.store_page.ensures)

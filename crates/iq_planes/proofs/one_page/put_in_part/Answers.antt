use Rattle.std.proofs.Common.{◌≡◌, length, ap, ◌∙◌, arith}
use Rattle.iq_bitmap.proofs.Chunks.{length-page_bits}
use Rattle.iq_chunks.proofs.PageRows.{chunk_whole}
use Rattle.iq_planes.specs.Planes.{PutsRows}
use Rattle.iq_planes.proofs.one_page.put_in_part.Goals as goal

pub put_rows-requires-clause-within : goal.put_rows-requires-clause-within
put_rows-requires-clause-within c =
    let page : length c.in_ok-bits.bits ≡ 8064 = ap length c.in_ok-bits.ensures ∙ length-page_bits c.args.page.now in
    omega (arith, page, c.requires.within)

pub store_page-requires : goal.store_page-requires
store_page-requires c =
    let page : length c.in_ok-bits.bits ≡ 8064 = ap length c.in_ok-bits.ensures ∙ length-page_bits c.args.page.now in
    omega (arith, page, c.put_rows.ensures.long)

pub returns : goal.returns
returns c =
    let page : length c.in_ok-bits.bits ≡ 8064 = ap length c.in_ok-bits.ensures ∙ length-page_bits c.args.page.now in
    let whole = chunk_whole c.put_rows.new.bits (c.put_rows.ensures.long ∙ page) in
    let puts : PutsRows c.args.from c.args.to c.args.first c.args.more.now c.in_ok-bits.bits c.put_rows.new.bits = c.put_rows.ensures.rows in
    rw (c.store_page.ensures, whole, ← c.in_ok-bits.ensures) puts

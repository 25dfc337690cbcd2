use Rattle.std.proofs.Common.{◌≡◌, length, not, ◌&&◌, sym, ap, ◌∙◌, arith}
use Rattle.std.proofs.lemmas.Simd.{length-zip2}
use Rattle.iq_bitmap.specs.Bits.{difference}
use Rattle.iq_bitmap.proofs.Chunks.{length-page_bits}
use Rattle.iq_chunks.proofs.PageRows.{chunk_whole}
use Rattle.iq_chunks.proofs.one_page.clear_in_page.Goals as goal

pub without-requires : goal.without-requires
without-requires c = ap length c.in_ok-bits.ensures ∙ length-page_bits _ ∙ sym c.requires

pub store_page-requires : goal.store_page-requires
store_page-requires c =
    let page : length c.in_ok-bits.bits ≡ 8064 = ap length c.in_ok-bits.ensures ∙ length-page_bits c.args.page.now in
    let long : length c.without.new.self ≡ 8064 = ap length c.without.ensures ∙ length-zip2 (λ a b. a && not b) c.in_ok-bits.bits c.args.gone.now (page ∙ sym c.requires) ∙ page in
    omega (arith, long)

pub returns : goal.returns
returns c =
    let page : length c.in_ok-bits.bits ≡ 8064 = ap length c.in_ok-bits.ensures ∙ length-page_bits c.args.page.now in
    let long : length c.without.new.self ≡ 8064 = ap length c.without.ensures ∙ length-zip2 (λ a b. a && not b) c.in_ok-bits.bits c.args.gone.now (page ∙ sym c.requires) ∙ page in
    c.store_page.ensures ∙ chunk_whole c.without.new.self long ∙ c.without.ensures ∙ ap (λ bits. difference bits c.args.gone.now) c.in_ok-bits.ensures

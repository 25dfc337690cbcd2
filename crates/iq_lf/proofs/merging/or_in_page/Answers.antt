use Rattle.std.proofs.Common.{◌≡◌, List, Bool, false, length, sym, ap, ◌∙◌, arith}
use Rattle.std.proofs.lemmas.List.{length-replicate}
use Rattle.iq_bitmap.specs.Bits.{page_bits, either}
use Rattle.iq_bitmap.proofs.Chunks.{length-page_bits}
use Rattle.iq_chunks.proofs.PageRows.{loaded_whole, chunk_whole}
use Rattle.iq_lf.proofs.BitmapLaws.{length-either}
use Rattle.iq_lf.proofs.merging.or_in_page.Goals as goal

pub store_page-requires : goal.store_page-requires
store_page-requires c =
    let loaded : c.load_page.new.self ≡ page_bits c.args.page.now = c.load_page.ensures ∙ loaded_whole _ _ (ap length c.in_ok-bits.ensures ∙ length-replicate 8064 false) (length-page_bits _) in
    let page : length c.load_page.new.self ≡ 8064 = ap length loaded ∙ length-page_bits _ in
    let long : length c.or_with.new.self ≡ 8064 = ap length c.or_with.ensures ∙ length-either _ _ (page ∙ sym c.requires) ∙ page in
    omega (arith, long)

pub returns : goal.returns
returns c =
    let loaded : c.load_page.new.self ≡ page_bits c.args.page.now = c.load_page.ensures ∙ loaded_whole _ _ (ap length c.in_ok-bits.ensures ∙ length-replicate 8064 false) (length-page_bits _) in
    let page : length c.load_page.new.self ≡ 8064 = ap length loaded ∙ length-page_bits _ in
    let long : length c.or_with.new.self ≡ 8064 = ap length c.or_with.ensures ∙ length-either _ _ (page ∙ sym c.requires) ∙ page in
    c.store_page.ensures ∙ chunk_whole c.or_with.new.self long ∙ c.or_with.ensures ∙ ap (λ (bits : List Bool). either bits c.args.rows.now) loaded

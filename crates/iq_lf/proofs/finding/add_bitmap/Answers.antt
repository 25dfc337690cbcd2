use Rattle.std.proofs.Common.{◌≡◌, List, Bool, [], length, sym, ap, ◌∙◌}
use Rattle.std.proofs.lemmas.Option.{get_or_from_slice_get}
use Rattle.iq_bitmap.specs.Bits.{page_bits, either}
use Rattle.iq_bitmap.proofs.Chunks.{length-page_bits}
use Rattle.iq_chunks.proofs.PageRows.{loaded_whole}
use Rattle.iq_pieces.specs.Objects.{page_at}
use Rattle.iq_lf.proofs.BitmapLaws.{length-either}
use Rattle.iq_lf.proofs.finding.add_bitmap.Goals as goal

pub returns-clause-ok : goal.returns-clause-ok
returns-clause-ok g c = λ pages told.
    let loaded : c.load_page.new.self ≡ page_bits c.read_page.new.into = c.load_page.ensures ∙ loaded_whole _ _ c.requires.one (length-page_bits _) in
    let here : page_at c.args.n pages ≡ c.read_page.new.into = get_or_from_slice_get pages c.args.n c.read_page.new.into [] (rw told at c.in_ok-read_page.ensures.ok) in
    c.or_with.ensures ∙ ap (λ (bits : List Bool). either c.args.rows.now bits) (loaded ∙ ap page_bits (sym here))

pub returns-clause-rows : goal.returns-clause-rows
returns-clause-rows g c =
    let loaded : c.load_page.new.self ≡ page_bits c.read_page.new.into = c.load_page.ensures ∙ loaded_whole _ _ c.requires.one (length-page_bits _) in
    let long : length c.load_page.new.self ≡ 8064 = ap length loaded ∙ length-page_bits _ in
    ap length c.or_with.ensures ∙ length-either _ _ (c.requires.rows ∙ sym long) ∙ c.requires.rows

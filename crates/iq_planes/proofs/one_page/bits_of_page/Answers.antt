use Rattle.std.proofs.Common.{length, false, ap, ◌∙◌}
use Rattle.std.proofs.lemmas.List.{length-replicate}
use Rattle.iq_bitmap.proofs.Chunks.{length-page_bits}
use Rattle.iq_chunks.proofs.PageRows.{loaded_whole}
use Rattle.iq_planes.proofs.one_page.bits_of_page.Goals as goal

pub returns : goal.returns
returns c = c.load_page.ensures ∙ loaded_whole _ _ (ap length c.in_ok-bits.ensures ∙ length-replicate 8064 false) (length-page_bits _)

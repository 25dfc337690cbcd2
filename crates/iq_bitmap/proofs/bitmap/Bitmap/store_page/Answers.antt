use Rattle.std.proofs.Common.{ℕ, List, ◌+◌, ◌*◌, ◌≡◌, ◌∙◌, ap, arith}
use Rattle.iq_bitmap.specs.Bits.{bit_of}
use Rattle.iq_bitmap.proofs.BitLists.{length_seen}
use Rattle.iq_bitmap.proofs.Chunks.{bits_kept}
use Rattle.iq_bitmap.proofs.bitmap.Bitmap.store_page.Goals as goal

pub store_words-requires-clause-within : goal.store_words-requires-clause-within
store_words-requires-clause-within c = omega (arith, length_seen 64 _ _ _ c.self.view_is, c.deref.ensures.len, c.self.inside.words.ok.0, c.self.invariant.enough)

pub returns : goal.returns
returns c =
    let fields = c.self.inside in
    bits_kept fields.words.items c.args.self.now fields.len c.args.chunk c.store_words.new.page c.self.invariant c.self.view_is (λ i h.
    let place : c.args.chunk * 126 * 64 + i ≡ c.args.chunk * 8064 + i = omega arith in
    c.store_words.ensures i h ∙ ap (λ (ws : List ℕ). bit_of 64 ws (c.args.chunk * 126 * 64 + i)) c.deref.ensures.value
    ∙ ap (bit_of 64 fields.words.items) place)

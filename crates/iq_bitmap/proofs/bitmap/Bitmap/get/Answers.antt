use Rattle.std.proofs.Common.{ℕ, ◌<◌, ◌%◌, ◌/◌, ◌==◌, false, get_or, ap, sym, ◌∙◌, arith}
use Rattle.std.proofs.lemmas.List.{get_or_read}
use Rattle.std.proofs.lemmas.Nat.Bits.{shr_and_one}
use Rattle.std.specs.Int.{bit_at}
use Rattle.iq_bitmap.proofs.BitLists.{length_seen, get_or-bits_of, word_within}
use Rattle.iq_bitmap.proofs.bitmap.Bitmap.get.Goals as goal

pub index-requires : goal.index-requires
index-requires c = omega (arith, length_seen 64 _ _ _ c.self.view_is, c.self.inside.words.ok.0, c.self.invariant.enough)

pub returns : goal.returns
returns c =
    let fields = c.self.inside in
    let row = c.args.row in
    let within : row < fields.len = omega (arith, length_seen 64 _ _ _ c.self.view_is) in
    let there = word_within fields.words.items fields.len row c.self.invariant.enough within in
    ap (λ (b : ℕ). b == 1) (shr_and_one c.index.result.now (row % 64))
    ∙ ap (λ (x : ℕ). bit_at x (row % 64) == 1) (get_or_read fields.words.items (row / 64) c.index.result.now there c.index.ensures 0)
    ∙ sym (get_or-bits_of 64 fields.words.items fields.len row false within)
    ∙ ap (λ bits. get_or bits row false) c.self.view_is

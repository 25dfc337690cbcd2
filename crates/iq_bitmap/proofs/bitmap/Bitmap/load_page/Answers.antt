use Rattle.std.proofs.Common.{ℕ, List, ◌*◌, ◌≡◌, ◌∙◌, ap, subst, arith}
use Rattle.std.proofs.lemmas.List.{with_items_is}
use Rattle.iq_bitmap.specs.Bits.{bits_of}
use Rattle.iq_bitmap.specs.Words.{HoldsPage}
use Rattle.iq_bitmap.proofs.Chunks.{bits_loaded}
use Rattle.iq_bitmap.proofs.bitmap.Bitmap.load_page.Goals as goal

pub returns : goal.returns
returns c =
    let fields = c.self.inside in
    let new = c.load_bits.new.words in
    let place : c.args.chunk * 126 * 64 ≡ c.args.chunk * 8064 = omega arith in
    let held = subst (λ (from : ℕ). HoldsPage fields.words.items new from fields.len c.args.from.now) place
    (subst (λ (old : List ℕ). HoldsPage old new (c.args.chunk * 126 * 64) fields.len c.args.from.now) c.deref_mut.ensures.value c.load_bits.ensures) in
    ap (λ (ws : List ℕ). bits_of 64 ws fields.len) (with_items_is fields.words new (omega (arith, c.deref_mut.ensures.len, c.load_bits.auto.words)))
    ∙ bits_loaded fields.words.items new c.args.self.now fields.len c.args.chunk c.args.from.now c.self.invariant c.self.view_is held

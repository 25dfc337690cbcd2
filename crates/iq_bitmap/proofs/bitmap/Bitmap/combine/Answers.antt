-- The words are combined, and so are the bits that they stand for.
use Rattle.std.proofs.Common.{ℕ, List, ◌<◌, ◌^◌, ◌≡◌, ◌∙◌, sym, ap, ap₂, subst, get_or, arith}
use Rattle.std.proofs.lemmas.List.{with_items_is}
use Rattle.std.specs.Simd.Lanes.{zip2}
use Rattle.std.specs.Vec.{with_items}
use Rattle.iq_bitmap.specs.Bits.{bits_of}
use Rattle.iq_bitmap.specs.Words.{IsTight}
use Rattle.iq_bitmap.proofs.BitLists.{length_seen}
use Rattle.iq_bitmap.proofs.Combined.{ArePaired, bits_of-zip2, zip2_tight}
use Rattle.iq_bitmap.proofs.bitmap.Bitmap.combine.Goals as goal
use Rattle.iq_bitmap.proofs.bitmap.Bitmap.combine.Given as given

pub apply-requires : goal.apply-requires
apply-requires g c = omega (arith, length_seen 64 _ _ _ c.self.view_is, length_seen 64 _ _ _ c.other.view_is, c.self.inside.words.ok.0, c.other.inside.words.ok.0, c.self.invariant.enough, c.other.invariant.enough)

same_len : (g : given.Over) (c : goal.After-self-1 g) → c.self.inside.len ≡ c.other.inside.len
same_len g c = omega (arith, length_seen 64 _ _ _ c.self.view_is, length_seen 64 _ _ _ c.other.view_is)

paired : (g : given.Over) (c : goal.After-self-1 g) → ArePaired c.self.inside.words.items c.other.inside.words.items
paired g c = record {
  long = omega (arith, same_len g c, c.self.invariant.enough, c.other.invariant.enough);
  fit = λ k. subst (λ (ys : List ℕ). get_or ys k 0 < 2 ^ 64) c.deref.ensures.value (c.apply.ensures.others_fit k);
}

items_now : (g : given.Over) (c : goal.After-self-1 g) → (with_items c.self.inside.words c.apply.new.words).items ≡ zip2 g.O.WordOperation.on_words c.self.inside.words.items c.other.inside.words.items
items_now g c =
    with_items_is c.self.inside.words c.apply.new.words (omega (arith, c.deref_mut.ensures.len, c.apply.auto.words))
    ∙ c.apply.ensures.value ∙ ap₂ (zip2 g.O.WordOperation.on_words) c.deref_mut.ensures.value c.deref.ensures.value

pub invariant_of-self : goal.invariant_of-self
invariant_of-self g c =
    let other_tight = subst (λ (n : ℕ). IsTight c.other.inside.words.items n) (sym (same_len g c)) c.other.invariant in
    subst (λ (ws : List ℕ). IsTight ws c.self.inside.len) (sym (items_now g c))
    (zip2_tight g.O.WordOperation.on_words g.O.WordOperation.on_bits _ _ _ g.met.O.WordOperation.bit_by_bit (paired g c) c.self.invariant other_tight)

pub returns : goal.returns
returns g c =
    ap (λ (ws : List ℕ). bits_of 64 ws c.self.inside.len) (items_now g c)
    ∙ bits_of-zip2 g.O.WordOperation.on_words g.O.WordOperation.on_bits _ _ _ g.met.O.WordOperation.bit_by_bit (paired g c)
    ∙ ap₂ (zip2 g.O.WordOperation.on_bits) c.self.view_is (ap (bits_of 64 c.other.inside.words.items) (same_len g c) ∙ c.other.view_is)

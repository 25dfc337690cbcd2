use Rattle.std.proofs.Common.{ℕ, List, ◌≤◌, ◌≡◌, ◌∙◌, sym, ap, subst, length, arith}
use Rattle.std.proofs.lemmas.List.{with_items_is}
use Rattle.std.specs.Vec.{with_items}
use Rattle.iq_bitmap.specs.Bits.{bit_of, bits_of}
use Rattle.iq_bitmap.specs.Words.{IsTight}
use Rattle.iq_bitmap.proofs.BitLists.{length_seen}
use Rattle.iq_bitmap.proofs.Filled.{bits_raised, raised_tight}
use Rattle.iq_bitmap.proofs.bitmap.Bitmap.set_below.Goals as goal

pub fill_below-requires : goal.fill_below-requires
fill_below-requires c = omega (arith, length_seen 64 _ _ _ c.self.view_is, c.self.inside.words.ok.0, c.self.invariant.enough, c.deref_mut.ensures.len)

others : (c : goal.After-self-1) → (i : ℕ) → c.args.end ≤ i → bit_of 64 c.fill_below.new.words i ≡ bit_of 64 c.self.inside.words.items i
others c = λ i h. c.fill_below.ensures.others i h ∙ ap (λ (ws : List ℕ). bit_of 64 ws i) c.deref_mut.ensures.value

room : (c : goal.After-self-1) → c.args.end ≤ c.self.inside.len
room c = omega (arith, length_seen 64 _ _ _ c.self.view_is)

items_now : (c : goal.After-self-1) → (with_items c.self.inside.words c.fill_below.new.words).items ≡ c.fill_below.new.words
items_now c = with_items_is c.self.inside.words c.fill_below.new.words (omega (arith, c.deref_mut.ensures.len, c.fill_below.auto.words))

pub invariant_of-self : goal.invariant_of-self
invariant_of-self c =
    let long : length c.fill_below.new.words ≡ length c.self.inside.words.items = omega (arith, c.deref_mut.ensures.len, c.fill_below.auto.words, c.self.inside.words.ok.0) in
    subst (λ (ws : List ℕ). IsTight ws c.self.inside.len) (sym (items_now c))
    (raised_tight c.self.inside.words.items c.fill_below.new.words c.self.inside.len c.args.end c.self.invariant (room c) long (others c))

pub returns : goal.returns
returns c =
    ap (λ (ws : List ℕ). bits_of 64 ws c.self.inside.len) (items_now c)
    ∙ bits_raised c.self.inside.words.items c.fill_below.new.words c.args.self.now c.self.inside.len c.args.end c.self.invariant c.self.view_is (room c) c.fill_below.ensures.below (others c)

-- What the operations on two words do to each bit: the laws of the traits' impls.
use Rattle.std.proofs.Common.{ℕ, ◌<◌, ◌-◌, ◌≡◌, ◌==◌, min, max, Bool, ◌&&◌, ◌||◌, not, bit_and, bit_or, w64, refl, sym, ap, ap₂, ◌∙◌, inl, inr, ◌⊎◌, arith}
use Rattle.std.proofs.lemmas.Nat.Bits.{bit_at-lt, bit_at_and, bit_at_or, bit_at_not}
use Rattle.std.specs.Int.{bit_at, bit_not}
use Rattle.iq_bitmap.specs.Words.{IsBitwise}

-- a number below two is 0 or 1
zero_or_one : (x : ℕ) → x < 2 → (x ≡ 0) ⊎ (x ≡ 1)
zero_or_one x h = grind arith

-- two tests of two bits are one where they agree on the four pairs
on_bits : (f g : ℕ → ℕ → Bool) → f 0 0 ≡ g 0 0 → f 0 1 ≡ g 0 1 → f 1 0 ≡ g 1 0 → f 1 1 ≡ g 1 1 → (x y : ℕ) → x < 2 → y < 2 → f x y ≡ g x y
on_bits f g none second first all x y h k = elim (zero_or_one x h) [
  | inl e ↦ elim (zero_or_one y k) [ inl d ↦ ap₂ f e d ∙ none ∙ sym (ap₂ g e d) | inr d ↦ ap₂ f e d ∙ second ∙ sym (ap₂ g e d) ]
  | inr e ↦ elim (zero_or_one y k) [ inl d ↦ ap₂ f e d ∙ first ∙ sym (ap₂ g e d) | inr d ↦ ap₂ f e d ∙ all ∙ sym (ap₂ g e d) ]
]

pub and_bits : IsBitwise bit_and (λ a b. a && b)
and_bits = record {
  each = λ a b j _ _. ap (λ (x : ℕ). x == 1) (bit_at_and a b j)
      ∙ on_bits (λ x y. min x y == 1) (λ x y. (x == 1) && (y == 1)) refl refl refl refl (bit_at a j) (bit_at b j) (bit_at-lt a j) (bit_at-lt b j);
  zeros = refl;
}

pub or_bits : IsBitwise bit_or (λ a b. a || b)
or_bits = record {
  each = λ a b j _ _. ap (λ (x : ℕ). x == 1) (bit_at_or a b j)
      ∙ on_bits (λ x y. max x y == 1) (λ x y. (x == 1) || (y == 1)) refl refl refl refl (bit_at a j) (bit_at b j) (bit_at-lt a j) (bit_at-lt b j);
  zeros = refl;
}

pub without_bits : IsBitwise (λ a b. bit_and a (bit_not w64 b)) (λ a b. a && not b)
without_bits = record {
  each = λ a b j fits below.
      ap (λ (x : ℕ). x == 1) (bit_at_and a (bit_not w64 b) j ∙ ap (λ (x : ℕ). min (bit_at a j) x) (bit_at_not w64 b j fits below))
      ∙ on_bits (λ x y. min x (1 - y) == 1) (λ x y. (x == 1) && not (y == 1)) refl refl refl refl (bit_at a j) (bit_at b j) (bit_at-lt a j) (bit_at-lt b j);
  zeros = refl;
}

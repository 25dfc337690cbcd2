-- The first set bit of a list of words, word by word.
use Rattle.std.proofs.Common.{ℕ, ◌+◌, ◌*◌, ◌/◌, ◌%◌, ◌^◌, ◌-◌, ◌<◌, ◌≤◌, ◌≡◌, ◌==◌, false, List, length, get_or, Option, Some, None, IfSome, IfNone, w64, sym, ap, ap₂, subst, ◌∙◌, inl, inr, arith, add-zero}
use Rattle.std.proofs.lemmas.Bool.{cases_lt}
use Rattle.std.proofs.lemmas.Nat.{shr-shr, shr_le}
use Rattle.std.proofs.lemmas.Nat.Bits.{bit_at-zero, bit_at_above, bit_at-trailing_zeros}
use Rattle.std.specs.Int.{bit_at, trailing_zeros}
use Rattle.iq_bitmap.proofs.BitLists.{bit_of_past}
use Rattle.iq_bitmap.specs.Bits.{bit_of}
use Rattle.iq_bitmap.specs.Words.{HasNoBitFrom, IsFirstBit}

-- no bit from `from` on is set before `end`
pub NoneBetween : List ℕ → ℕ → ℕ → Type 0
NoneBetween xs from end = (j : ℕ) → from ≤ j → j < end → bit_of 64 xs j ≡ false

-- the bit at a place of one word
here : (xs : List ℕ) (k t j word : ℕ) → get_or xs k 0 ≡ word → j ≡ k * 64 + t → t < 64 → bit_of 64 xs j ≡ (bit_at word t == 1)
here xs k t j word is e h =
    let word_at : j / 64 ≡ k = omega arith in
    let bit_here : j % 64 ≡ t = omega arith in
    ap₂ (λ (w b : ℕ). bit_at w b == 1) (ap (λ (i : ℕ). get_or xs i 0) word_at ∙ is) bit_here

-- a bit of a word that was moved down by b
pub moved : (word b t : ℕ) → bit_at (word / 2 ^ b) t ≡ bit_at word (b + t)
moved word b t = ap (λ (x : ℕ). x % 2) (shr-shr word b t)

-- a word without bits from b on is passed
pub pass_word : (xs : List ℕ) (k b end word : ℕ) → get_or xs k 0 ≡ word → word / 2 ^ b ≡ 0 → k * 64 + b ≤ end → end ≤ k * 64 + 64 → NoneBetween xs (k * 64 + b) end
unfolding NoneBetween
pass_word xs k b end word is none low high j h l =
    let t = j - k * 64 - b in
    here xs k (b + t) j word is (omega arith) (omega arith)
    ∙ ap (λ (x : ℕ). x == 1) (sym (moved word b t) ∙ ap (λ (x : ℕ). bit_at x t) none ∙ bit_at-zero t)

-- the lowest bit of a word from b on
pub find_in_word : (xs : List ℕ) (k b word : ℕ) → get_or xs k 0 ≡ word → word < 2 ^ 64 → 0 < word / 2 ^ b → IsFirstBit xs (k * 64 + b) (k * 64 + b + trailing_zeros w64 (word / 2 ^ b))
find_in_word xs k b word is fits some =
    let rest = word / 2 ^ b in
    let t = trailing_zeros w64 rest in
    let rest_fits : rest < 2 ^ 64 = omega (arith, shr_le word b) in
    let law = bit_at-trailing_zeros w64 rest some rest_fits in
    let set_there : bit_at word (b + t) ≡ 1 = sym (moved word b t) ∙ law.1 in
    let in_word : b + t < 64 = elim (cases_lt (b + t) 64) [
      | inl h ↦ h
      | inr past ↦ absurd (omega (arith, bit_at_above word 64 (b + t) fits past, set_there))
    ] in
    let below : t < 64 = law.0 in
    record {
      onward = omega arith;
      on = here xs k (b + t) (k * 64 + b + t) word is (omega arith) in_word ∙ ap (λ (x : ℕ). x == 1) set_there;
      before = λ j h l.
          let d = j - k * 64 - b in
          here xs k (b + d) j word is (omega arith) (omega arith) ∙ ap (λ (x : ℕ). x == 1) (sym (moved word b d) ∙ law.2 d (omega arith));
    }

-- nothing before, and then the first
pub extend : (xs : List ℕ) (from low i : ℕ) → NoneBetween xs from low → from ≤ low → IsFirstBit xs low i → IsFirstBit xs from i
unfolding NoneBetween
extend xs from low i none h first = record {
  onward = omega (arith, first.onward);
  on = first.on;
  before = λ j from_there below. elim (cases_lt j low) [ inl early ↦ none j from_there early | inr late ↦ first.before j late below ];
}

pub no_words : (xs : List ℕ) (at : ℕ) → NoneBetween xs at at
unfolding NoneBetween
no_words xs at j h l = absurd (omega arith)

-- one more word that is zero
pub pass_zero : (xs : List ℕ) (from k : ℕ) → get_or xs k 0 ≡ 0 → NoneBetween xs from (k * 64) → NoneBetween xs from ((k + 1) * 64)
unfolding NoneBetween
pass_zero xs from k zero none j h l = elim (cases_lt j (k * 64)) [
  | inl early ↦ none j h early
  | inr late ↦ here xs k (j - k * 64) j 0 zero (omega arith) (omega arith) ∙ ap (λ (b : ℕ). b == 1) (bit_at-zero (j - k * 64))
]

-- all words passed
pub pass_all : (xs : List ℕ) (from end : ℕ) → length xs * 64 ≤ end → NoneBetween xs from end → HasNoBitFrom xs from
unfolding NoneBetween
pass_all xs from end long none i h = elim (cases_lt i end) [
  | inl early ↦ none i h early
  | inr late ↦ bit_of_past 64 xs i (omega arith)
]

pub none_after : (xs : List ℕ) (from low : ℕ) → NoneBetween xs from low → HasNoBitFrom xs low → HasNoBitFrom xs from
unfolding NoneBetween
none_after xs from low none rest i h = elim (cases_lt i low) [ inl early ↦ none i h early | inr late ↦ rest i late ]

-- the lowest bit of a whole word
pub find_word : (xs : List ℕ) (k word : ℕ) → get_or xs k 0 ≡ word → word < 2 ^ 64 → 0 < word → IsFirstBit xs (k * 64) (k * 64 + trailing_zeros w64 word)
find_word xs k word is fits some =
    let whole : word / 2 ^ 0 ≡ word = omega arith in
    let found = find_in_word xs k 0 word is fits (omega arith) in
    subst (λ (low : ℕ). IsFirstBit xs low (low + trailing_zeros w64 word)) (add-zero (k * 64))
    (subst (λ (w : ℕ). IsFirstBit xs (k * 64 + 0) (k * 64 + 0 + trailing_zeros w64 w)) whole found)

-- the lowest bit of a place's word from the place on
pub find_from : (xs : List ℕ) (from word : ℕ) → get_or xs (from / 64) 0 ≡ word → word < 2 ^ 64 → 0 < word / 2 ^ (from % 64) → IsFirstBit xs from (from + trailing_zeros w64 (word / 2 ^ (from % 64)))
find_from xs from word is fits some =
    let place : from / 64 * 64 + from % 64 ≡ from = omega arith in
    subst (λ (low : ℕ). IsFirstBit xs low (low + trailing_zeros w64 (word / 2 ^ (from % 64)))) place (find_in_word xs (from / 64) (from % 64) word is fits some)

-- a place's word has no bit from the place on
pub pass_from : (xs : List ℕ) (from word : ℕ) → get_or xs (from / 64) 0 ≡ word → word / 2 ^ (from % 64) ≡ 0 → NoneBetween xs from ((from / 64 + 1) * 64)
pass_from xs from word is none =
    let place : from / 64 * 64 + from % 64 ≡ from = omega arith in
    let end : from / 64 * 64 + 64 ≡ (from / 64 + 1) * 64 = omega arith in
    subst (λ (low : ℕ). NoneBetween xs low ((from / 64 + 1) * 64)) place
    (subst (λ (high : ℕ). NoneBetween xs (from / 64 * 64 + from % 64) high) end
    (pass_word xs (from / 64) (from % 64) (from / 64 * 64 + 64) word is none (omega arith) (omega arith)))

-- what is found behind bits that are zero
pub found_after : (xs : List ℕ) (from low : ℕ) (found : Option ℕ) → NoneBetween xs from low → from ≤ low → IfSome found (λ i. IsFirstBit xs low i) → IfSome found (λ i. IsFirstBit xs from i)
found_after xs from low None none h first = tt
found_after xs from low (Some i) none h first = extend xs from low i none h first

pub missed_after : (xs : List ℕ) (from low : ℕ) (found : Option ℕ) → NoneBetween xs from low → IfNone found (HasNoBitFrom xs low) → IfNone found (HasNoBitFrom xs from)
missed_after xs from low None none rest = none_after xs from low none rest
missed_after xs from low (Some i) none rest = tt

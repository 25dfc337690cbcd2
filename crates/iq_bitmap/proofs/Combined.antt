-- Two lists of words, combined bit by bit.
use Rattle.std.proofs.Common.{ℕ, ◌/◌, ◌%◌, ◌<◌, ◌^◌, ◌≡◌, ◌==◌, Bool, false, List, length, get_or, sym, ap, ap₂, ◌∙◌, inl, inr, arith}
use Rattle.std.proofs.lemmas.Bool.{cases_lt}
use Rattle.std.proofs.lemmas.Simd.{length-zip2, get_or-zip2}
use Rattle.std.specs.Int.{bit_at}
use Rattle.std.specs.Simd.Lanes.{zip2}
use Rattle.iq_bitmap.specs.Bits.{bit_of, bits_of}
use Rattle.iq_bitmap.specs.Words.{IsTight, IsBitwise}
use Rattle.iq_bitmap.proofs.BitLists.{length-bits_of, get_or-bits_of, same_bits, bit_of_past}

-- two lists as long, the second of words of 64 bits
pub record ArePaired (xs ys : List ℕ) : Type 0 where
  pub long : length xs ≡ length ys
  pub fit : (k : ℕ) → get_or ys k 0 < 2 ^ 64

pub bit_of-zip2 : (on_words : ℕ → ℕ → ℕ) (on_bits : Bool → Bool → Bool) (xs ys : List ℕ) (i : ℕ) → IsBitwise on_words on_bits → ArePaired xs ys → bit_of 64 (zip2 on_words xs ys) i ≡ on_bits (bit_of 64 xs i) (bit_of 64 ys i)
bit_of-zip2 on_words on_bits xs ys i law pair = elim (cases_lt (i / 64) (length xs)) [
  | inl h ↦
      let there : get_or (zip2 on_words xs ys) (i / 64) 0 ≡ on_words (get_or xs (i / 64) 0) (get_or ys (i / 64) 0) = get_or-zip2 on_words xs ys (i / 64) 0 0 0 h (omega (arith, pair.long)) in
      ap (λ (x : ℕ). bit_at x (i % 64) == 1) there ∙ law.each (get_or xs (i / 64) 0) (get_or ys (i / 64) 0) (i % 64) (pair.fit (i / 64)) (omega arith)
  | inr h ↦
      bit_of_past 64 (zip2 on_words xs ys) i (omega (arith, length-zip2 on_words xs ys pair.long))
      ∙ sym (ap₂ on_bits (bit_of_past 64 xs i h) (bit_of_past 64 ys i (omega (arith, pair.long))) ∙ law.zeros)
]

pub bits_of-zip2 : (on_words : ℕ → ℕ → ℕ) (on_bits : Bool → Bool → Bool) (xs ys : List ℕ) (n : ℕ) → IsBitwise on_words on_bits → ArePaired xs ys → bits_of 64 (zip2 on_words xs ys) n ≡ zip2 on_bits (bits_of 64 xs n) (bits_of 64 ys n)
bits_of-zip2 on_words on_bits xs ys n law pair =
    let long : length (zip2 on_bits (bits_of 64 xs n) (bits_of 64 ys n)) ≡ n = length-zip2 on_bits (bits_of 64 xs n) (bits_of 64 ys n) (length-bits_of 64 xs n ∙ sym (length-bits_of 64 ys n)) ∙ length-bits_of 64 xs n in
    same_bits 64 (zip2 on_words xs ys) n (zip2 on_bits (bits_of 64 xs n) (bits_of 64 ys n)) long
    (λ i h.
    let here : i < length (bits_of 64 xs n) = omega (arith, length-bits_of 64 xs n) in
    let there : i < length (bits_of 64 ys n) = omega (arith, length-bits_of 64 ys n) in
    bit_of-zip2 on_words on_bits xs ys i law pair
    ∙ sym (get_or-zip2 on_bits (bits_of 64 xs n) (bits_of 64 ys n) i false false false here there ∙ ap₂ on_bits (get_or-bits_of 64 xs n i false h) (get_or-bits_of 64 ys n i false h)))

pub zip2_tight : (on_words : ℕ → ℕ → ℕ) (on_bits : Bool → Bool → Bool) (xs ys : List ℕ) (n : ℕ) → IsBitwise on_words on_bits → ArePaired xs ys → IsTight xs n → IsTight ys n → IsTight (zip2 on_words xs ys) n
zip2_tight on_words on_bits xs ys n law pair s t = record {
  short = s.short;
  enough = length-zip2 on_words xs ys pair.long ∙ s.enough;
  spare = λ i past. bit_of-zip2 on_words on_bits xs ys i law pair ∙ ap₂ on_bits (s.spare i past) (t.spare i past) ∙ law.zeros;
}

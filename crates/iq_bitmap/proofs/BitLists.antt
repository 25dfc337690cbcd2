-- A list of bits and the words that keep it, bit by bit.
use Rattle.std.proofs.Common.{ℕ, zero, suc, ◌/◌, ◌%◌, ◌<◌, ◌≤◌, ◌≡◌, ◌==◌, Bool, false, List, length, get_or, replicate, refl, sym, ap, ◌∙◌, inl, inr, arith}
use Rattle.std.proofs.lemmas.List.{ext_get_or, length-replicate, get_or-replicate, get_or_past}
use Rattle.std.proofs.lemmas.List.FromFn.{length-map-range_with_len, get_or-map-range_with_len}
use Rattle.std.proofs.lemmas.Bool.{cases_lt}
use Rattle.std.proofs.lemmas.Nat.Bits.{bit_at-zero}
use Rattle.std.specs.Int.{bit_at}
use Rattle.iq_bitmap.specs.Bits.{bit_of, bits_of}
use Rattle.iq_bitmap.specs.Words.{IsTight, word_count}

pub length-bits_of : (width : ℕ) (xs : List ℕ) (n : ℕ) → length (bits_of width xs n) ≡ n
unfolding bits_of
length-bits_of width xs n = length-map-range_with_len (bit_of width xs) 0 n

pub get_or-bits_of : (width : ℕ) (xs : List ℕ) (n i : ℕ) (d : Bool) → i < n → get_or (bits_of width xs n) i d ≡ bit_of width xs i
unfolding bits_of
get_or-bits_of width xs n i d h = get_or-map-range_with_len (bit_of width xs) 0 n i i d h (omega arith)

-- the length of a list that a bitmap stands for
pub length_seen : (width : ℕ) (xs : List ℕ) (n : ℕ) (bits : List Bool) → bits_of width xs n ≡ bits → length bits ≡ n
length_seen width xs n bits is = ap length (sym is) ∙ length-bits_of width xs n

-- a list with those bits is that list
pub same_bits : (width : ℕ) (xs : List ℕ) (n : ℕ) (bits : List Bool) → length bits ≡ n → ((i : ℕ) → i < n → bit_of width xs i ≡ get_or bits i false) → bits_of width xs n ≡ bits
same_bits width xs n bits long same =
    ext_get_or false (bits_of width xs n) bits (length-bits_of width xs n ∙ sym long)
    (λ i h. let within : i < n = omega (arith, length-bits_of width xs n) in get_or-bits_of width xs n i false within ∙ same i within)

-- the word of a row
pub word_within : (xs : List ℕ) (n i : ℕ) → length xs ≡ word_count n → i < n → i / 64 < length xs
word_within xs n i e h = omega arith

-- the bit of a word that is zero
zero_bit : (x j : ℕ) → x ≡ 0 → (bit_at x j == 1) ≡ false
zero_bit x j e = ap (λ (y : ℕ). bit_at y j == 1) e ∙ ap (λ (b : ℕ). b == 1) (bit_at-zero j)

-- a bit past the words is zero
pub bit_of_past : (width : ℕ) (xs : List ℕ) (i : ℕ) → length xs ≤ i / width → bit_of width xs i ≡ false
bit_of_past width xs i h = zero_bit (get_or xs (i / width) 0) (i % width) (get_or_past xs (i / width) 0 h)

pub zero_word : (k j : ℕ) → get_or {A = ℕ} (replicate k 0) j 0 ≡ 0
zero_word zero j = refl
zero_word (suc k) zero = refl
zero_word (suc k) (suc j) = zero_word k j

-- words that are all zero
pub bit_of-zeros : (width k i : ℕ) → bit_of width (replicate k 0) i ≡ false
bit_of-zeros width k i = zero_bit (get_or (replicate k 0) (i / width) 0) (i % width) (zero_word k (i / width))

pub bits_of-zeros : (width k n : ℕ) → bits_of width (replicate k 0) n ≡ replicate n false
bits_of-zeros width k n = same_bits width (replicate k 0) n (replicate n false) (length-replicate n false) (λ i h. bit_of-zeros width k i ∙ sym (get_or-replicate n i false false h))

-- a bit that a bitmap has, also past its length
pub tight_bit : (xs : List ℕ) (n i : ℕ) → IsTight xs n → get_or (bits_of 64 xs n) i false ≡ bit_of 64 xs i
tight_bit xs n i t = elim (cases_lt i n) [
  | inl h ↦ get_or-bits_of 64 xs n i false h
  | inr h ↦ get_or_past (bits_of 64 xs n) i false (omega (arith, length-bits_of 64 xs n)) ∙ sym (t.spare i h)
]

-- a bit of the list that a bitmap stands for
pub seen_bit : (xs : List ℕ) (n : ℕ) (bits : List Bool) (i : ℕ) → IsTight xs n → bits_of 64 xs n ≡ bits → get_or bits i false ≡ bit_of 64 xs i
seen_bit xs n bits i t is = sym (ap (λ bs. get_or bs i false) is) ∙ tight_bit xs n i t

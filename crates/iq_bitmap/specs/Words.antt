-- The words in which a bitmap keeps its bits.
use Rattle.std.specs.Prelude.{◌≡◌, ◌<◌, ◌≤◌, ℕ, ◌+◌, ◌-◌, ◌*◌, ◌/◌, ◌^◌, ◌==◌, Bool, true, false, List, length, slice_index}
use Rattle.iq_bitmap.specs.declared.page_words.TheConstants.{CHUNK_ROWS}
use Rattle.std.specs.Int.{w64, bit_at, to_le_bytes}
use Rattle.std.specs.Simd.Lanes.{chunk}
use Rattle.iq_bitmap.specs.Bits.{bit_of}

-- how many words of 64 bits hold n bits
abbrev pub word_count : ℕ → ℕ
word_count n = (n + 63) / 64

-- there are as many words as n bits need, and each bit past the n is zero; n is a number of 32 bits
pub record IsTight (words : List ℕ) (n : ℕ) : Type 0 where
  pub short : n < 2 ^ 32
  pub enough : length words ≡ word_count n
  pub spare : (i : ℕ) → n ≤ i → bit_of 64 words i ≡ false

-- an operation on two words does to each of their bits what the other does to two bits, and gives zero where both are zero
pub record IsBitwise (on_words : ℕ → ℕ → ℕ) (on_bits : Bool → Bool → Bool) : Type 0 where
  pub each : (a b j : ℕ) → b < 2 ^ 64 → j < 64 → (bit_at (on_words a b) j == 1) ≡ on_bits (bit_at a j == 1) (bit_at b j == 1)
  pub zeros : on_bits false false ≡ false

-- no bit from a place on is set
abbrev pub HasNoBitFrom : List ℕ → ℕ → Type 0
HasNoBitFrom words from = (i : ℕ) → from ≤ i → bit_of 64 words i ≡ false

-- the first bit that is set, from a place on
pub record IsFirstBit (words : List ℕ) (from i : ℕ) : Type 0 where
  pub onward : from ≤ i
  pub on : bit_of 64 words i ≡ true
  pub before : (j : ℕ) → from ≤ j → j < i → bit_of 64 words j ≡ false

-- the words of a page stand in the place of those from `at` on, as far as there are words, and the others are as before
pub record IsLoaded (old new : List ℕ) (at : ℕ) (page : List ℕ) : Type 0 where
  pub inside : (k : ℕ) → at ≤ k → k < at + 126 → k < length new → to_le_bytes w64 (slice_index new k) ≡ chunk ((k - at) * 8) 8 page
  pub before : (k : ℕ) → k < at → slice_index new k ≡ slice_index old k
  pub after : (k : ℕ) → at + 126 ≤ k → slice_index new k ≡ slice_index old k

-- the bits of a page stand in the place of those from `from` on, the others below `len` are as before, and those past it zero
pub record HoldsPage (old new : List ℕ) (from len : ℕ) (page : List ℕ) : Type 0 where
  pub inside : (i : ℕ) → from ≤ i → i < from + CHUNK_ROWS → i < len → bit_of 64 new i ≡ bit_of 8 page (i - from)
  pub before : (i : ℕ) → i < from → i < len → bit_of 64 new i ≡ bit_of 64 old i
  pub after : (i : ℕ) → from + CHUNK_ROWS ≤ i → i < len → bit_of 64 new i ≡ bit_of 64 old i
  pub past : (i : ℕ) → len ≤ i → bit_of 64 new i ≡ false

-- the words before `end` have each bit set, and the others are as before
pub record IsFilled (old new : List ℕ) (end : ℕ) : Type 0 where
  pub filled : (k : ℕ) → k < end → slice_index new k ≡ 2 ^ 64 - 1
  pub after : (k : ℕ) → end ≤ k → slice_index new k ≡ slice_index old k

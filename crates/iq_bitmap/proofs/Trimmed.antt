-- The bits of the last word past the length, cleared.
use Rattle.std.proofs.Common.{ℕ, ◌-◌, ◌*◌, ◌/◌, ◌%◌, ◌^◌, ◌<◌, ◌≤◌, ◌≡◌, ◌==◌, min, false, List, length, get_or, set, bit_and, sym, ap, ◌∙◌, inl, inr, arith}
use Rattle.std.proofs.lemmas.Bool.{cases_lt, cases_eq}
use Rattle.std.proofs.lemmas.List.{length-set, get_or-set_same, get_or-set_other}
use Rattle.std.proofs.lemmas.Nat.{one_shl}
use Rattle.std.proofs.lemmas.Nat.Bits.{bit_at-lt, bit_at_and, bit_at_ones, bit_at_ones_above}
use Rattle.std.specs.Int.{bit_at}
use Rattle.iq_bitmap.specs.Bits.{bit_of}
use Rattle.iq_bitmap.specs.Words.{word_count}
use Rattle.iq_bitmap.proofs.BitLists.{bit_of_past}

-- a word without its bits from b on
kept : ℕ → ℕ → ℕ
kept word b = bit_and word (1 * 2 ^ b % 2 ^ 64 - 1)

kept_bit : (word b j : ℕ) → b < 64 → bit_at (kept word b) j ≡ min (bit_at word j) (bit_at (2 ^ b - 1) j)
unfolding kept
kept_bit word b j h = ap (λ (m : ℕ). bit_at (bit_and word (m - 1)) j) (one_shl b 64 h) ∙ bit_at_and word (2 ^ b - 1) j

kept_low : (word b j : ℕ) → b < 64 → j < b → bit_at (kept word b) j ≡ bit_at word j
kept_low word b j h l = kept_bit word b j h ∙ ap (min (bit_at word j)) (bit_at_ones b j l) ∙ omega (arith, bit_at-lt word j)

kept_high : (word b j : ℕ) → b < 64 → b ≤ j → bit_at (kept word b) j ≡ 0
kept_high word b j h l = kept_bit word b j h ∙ ap (min (bit_at word j)) (bit_at_ones_above b j l) ∙ omega arith

-- the words with the last one kept below the length
cut : List ℕ → ℕ → List ℕ
cut xs len = set xs (len / 64) (kept (get_or xs (len / 64) 0) (len % 64))

cut_here : (xs : List ℕ) (len i : ℕ) → len / 64 < length xs → i / 64 ≡ len / 64 → get_or (cut xs len) (i / 64) 0 ≡ kept (get_or xs (i / 64) 0) (len % 64)
unfolding cut
cut_here xs len i h same =
    ap (λ (k : ℕ). get_or (set xs (len / 64) (kept (get_or xs (len / 64) 0) (len % 64))) k 0) same
    ∙ get_or-set_same xs (len / 64) (kept (get_or xs (len / 64) 0) (len % 64)) 0 h
    ∙ ap (λ (k : ℕ). kept (get_or xs k 0) (len % 64)) (sym same)

cut_before : (xs : List ℕ) (len i : ℕ) → length xs ≡ word_count len → i < len → bit_of 64 (cut xs len) i ≡ bit_of 64 xs i
unfolding cut
cut_before xs len i long h = elim (cases_eq (i / 64) (len / 64)) [
  | inl same ↦
      ap (λ (w : ℕ). bit_at w (i % 64) == 1) (cut_here xs len i (omega (arith, long)) same)
      ∙ ap (λ (b : ℕ). b == 1) (kept_low (get_or xs (i / 64) 0) (len % 64) (i % 64) (omega arith) (omega arith))
  | inr other ↦ ap (λ (w : ℕ). bit_at w (i % 64) == 1) (get_or-set_other xs (len / 64) (i / 64) _ 0 other)
]

cut_past : (xs : List ℕ) (len i : ℕ) → length xs ≡ word_count len → len ≤ i → bit_of 64 (cut xs len) i ≡ false
unfolding cut
cut_past xs len i long h = elim (cases_lt (i / 64) (length xs)) [
  | inl within ↦
      let same : i / 64 ≡ len / 64 = omega (arith, long) in
      ap (λ (w : ℕ). bit_at w (i % 64) == 1) (cut_here xs len i (omega arith) same)
      ∙ ap (λ (b : ℕ). b == 1) (kept_high (get_or xs (i / 64) 0) (len % 64) (i % 64) (omega arith) (omega arith))
  | inr past ↦ bit_of_past 64 (cut xs len) i (omega (arith, length-set xs (len / 64) (kept (get_or xs (len / 64) 0) (len % 64))))
]

pub trim_before : (xs : List ℕ) (len i : ℕ) → length xs ≡ word_count len → i < len → bit_of 64 (set xs (len / 64) (bit_and (get_or xs (len / 64) 0) (1 * 2 ^ (len % 64) % 2 ^ 64 - 1))) i ≡ bit_of 64 xs i
unfolding cut kept
trim_before xs len i long h = cut_before xs len i long h

pub trim_past : (xs : List ℕ) (len i : ℕ) → length xs ≡ word_count len → len ≤ i → bit_of 64 (set xs (len / 64) (bit_and (get_or xs (len / 64) 0) (1 * 2 ^ (len % 64) % 2 ^ 64 - 1))) i ≡ false
unfolding cut kept
trim_past xs len i long h = cut_past xs len i long h

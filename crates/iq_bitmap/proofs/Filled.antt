-- Words of which the bits below a place were set.
use Rattle.std.proofs.Common.{ℕ, ◌+◌, ◌-◌, ◌*◌, ◌/◌, ◌%◌, ◌^◌, ◌<◌, ◌≤◌, ◌≡◌, ◌==◌, max, Bool, true, false, List, ◌++◌, length, get_or, set, drop, replicate, bit_or, sym, ap, ◌∙◌, inl, inr, arith}
use Rattle.std.proofs.lemmas.Bool.{cases_lt, cases_eq}
use Rattle.std.proofs.lemmas.List.{get_or-set_same, get_or-set_other, length-append, length-replicate, length-drop, get_or-replicate, get_or_append_left, get_or-append_right, get_or-drop}
use Rattle.std.proofs.lemmas.Nat.{one_shl}
use Rattle.std.proofs.lemmas.Nat.Bits.{bit_at-lt, bit_at_or, bit_at_ones, bit_at_ones_above}
use Rattle.std.specs.Int.{bit_at}
use Rattle.iq_bitmap.specs.Bits.{bit_of, bits_of}
use Rattle.iq_bitmap.specs.Words.{IsTight, IsFilled}
use Rattle.iq_bitmap.proofs.BitLists.{length_seen, seen_bit, same_bits}

-- a bit of a word that was filled
pub filled_bit : (old new : List ℕ) (whole i : ℕ) → IsFilled old new whole → i < whole * 64 → bit_of 64 new i ≡ true
filled_bit old new whole i fill h =
    ap (λ (w : ℕ). bit_at w (i % 64) == 1) (fill.filled (i / 64) (omega arith)) ∙ ap (λ (b : ℕ). b == 1) (bit_at_ones 64 (i % 64) (omega arith))

unfilled_bit : (old new : List ℕ) (whole i : ℕ) → IsFilled old new whole → whole ≤ i / 64 → bit_of 64 new i ≡ bit_of 64 old i
unfilled_bit old new whole i fill h = ap (λ (w : ℕ). bit_at w (i % 64) == 1) (fill.after (i / 64) h)

-- a word with its bits below b set
raised : ℕ → ℕ → ℕ
raised word b = bit_or word (1 * 2 ^ b % 2 ^ 64 - 1)

raised_bit : (word b j : ℕ) → b < 64 → bit_at (raised word b) j ≡ max (bit_at word j) (bit_at (2 ^ b - 1) j)
unfolding raised
raised_bit word b j h = ap (λ (m : ℕ). bit_at (bit_or word (m - 1)) j) (one_shl b 64 h) ∙ bit_at_or word (2 ^ b - 1) j

raised_low : (word b j : ℕ) → b < 64 → j < b → bit_at (raised word b) j ≡ 1
raised_low word b j h l = raised_bit word b j h ∙ ap (max (bit_at word j)) (bit_at_ones b j l) ∙ omega (arith, bit_at-lt word j)

raised_high : (word b j : ℕ) → b < 64 → b ≤ j → bit_at (raised word b) j ≡ bit_at word j
raised_high word b j h l = raised_bit word b j h ∙ ap (max (bit_at word j)) (bit_at_ones_above b j l) ∙ omega arith

-- the words with the one of a place raised below the place
topped : List ℕ → ℕ → List ℕ
topped xs end = set xs (end / 64) (raised (get_or xs (end / 64) 0) (end % 64))

topped_here : (xs : List ℕ) (end i : ℕ) → end / 64 < length xs → i / 64 ≡ end / 64 → get_or (topped xs end) (i / 64) 0 ≡ raised (get_or xs (i / 64) 0) (end % 64)
unfolding topped
topped_here xs end i h same =
    ap (λ (k : ℕ). get_or (set xs (end / 64) (raised (get_or xs (end / 64) 0) (end % 64))) k 0) same
    ∙ get_or-set_same xs (end / 64) (raised (get_or xs (end / 64) 0) (end % 64)) 0 h
    ∙ ap (λ (k : ℕ). raised (get_or xs k 0) (end % 64)) (sym same)

topped_there : (xs : List ℕ) (end i : ℕ) → (i / 64 ≡ end / 64 → ⊥) → bit_of 64 (topped xs end) i ≡ bit_of 64 xs i
unfolding topped
topped_there xs end i other = ap (λ (w : ℕ). bit_at w (i % 64) == 1) (get_or-set_other xs (end / 64) (i / 64) (raised (get_or xs (end / 64) 0) (end % 64)) 0 other)

topped_below : (old xs : List ℕ) (end i : ℕ) → IsFilled old xs (end / 64) → end / 64 < length xs → i < end → bit_of 64 (topped xs end) i ≡ true
topped_below old xs end i fill room h = elim (cases_eq (i / 64) (end / 64)) [
  | inl same ↦
      ap (λ (w : ℕ). bit_at w (i % 64) == 1) (topped_here xs end i room same)
      ∙ ap (λ (b : ℕ). b == 1) (raised_low (get_or xs (i / 64) 0) (end % 64) (i % 64) (omega arith) (omega arith))
  | inr other ↦ topped_there xs end i other ∙ filled_bit old xs (end / 64) i fill (omega arith)
]

topped_others : (old xs : List ℕ) (end i : ℕ) → IsFilled old xs (end / 64) → end / 64 < length xs → end ≤ i → bit_of 64 (topped xs end) i ≡ bit_of 64 old i
topped_others old xs end i fill room h = elim (cases_eq (i / 64) (end / 64)) [
  | inl same ↦
      ap (λ (w : ℕ). bit_at w (i % 64) == 1) (topped_here xs end i room same)
      ∙ ap (λ (b : ℕ). b == 1) (raised_high (get_or xs (i / 64) 0) (end % 64) (i % 64) (omega arith) (omega arith))
      ∙ unfilled_bit old xs (end / 64) i fill (omega arith)
  | inr other ↦ topped_there xs end i other ∙ unfilled_bit old xs (end / 64) i fill (omega arith)
]

pub below_set : (old xs : List ℕ) (end i : ℕ) → IsFilled old xs (end / 64) → end / 64 < length xs → i < end → bit_of 64 (set xs (end / 64) (bit_or (get_or xs (end / 64) 0) (1 * 2 ^ (end % 64) % 2 ^ 64 - 1))) i ≡ true
unfolding topped raised
below_set old xs end i fill room h = topped_below old xs end i fill room h

pub others_kept : (old xs : List ℕ) (end i : ℕ) → IsFilled old xs (end / 64) → end / 64 < length xs → end ≤ i → bit_of 64 (set xs (end / 64) (bit_or (get_or xs (end / 64) 0) (1 * 2 ^ (end % 64) % 2 ^ 64 - 1))) i ≡ bit_of 64 old i
unfolding topped raised
others_kept old xs end i fill room h = topped_others old xs end i fill room h

-- the rows that a bitmap stands for once those below `end` are set
pub bits_raised : (old new : List ℕ) (rows : List Bool) (n end : ℕ) → IsTight old n → bits_of 64 old n ≡ rows → end ≤ n → ((i : ℕ) → i < end → bit_of 64 new i ≡ true) → ((i : ℕ) → end ≤ i → bit_of 64 new i ≡ bit_of 64 old i) → bits_of 64 new n ≡ replicate end true ++ drop end rows
bits_raised old new rows n end t is room below others =
    let long : length rows ≡ n = length_seen 64 old n rows is in
    let front : length (replicate end true) ≡ end = length-replicate end true in
    same_bits 64 new n (replicate end true ++ drop end rows) (length-append (replicate end true) (drop end rows) ∙ omega (arith, front, length-drop end rows))
    (λ i h. elim (cases_lt i end) [
      | inl low ↦ below i low ∙ sym (get_or_append_left (replicate end true) (drop end rows) false i (omega (arith, front)) ∙ get_or-replicate end i true false low)
      | inr high ↦
          let place : end + (i - end) ≡ i = omega arith in
          others i high ∙ sym (seen_bit old n rows i t is)
          ∙ sym (get_or-append_right (replicate end true) (drop end rows) end i false front high ∙ get_or-drop end rows (i - end) false ∙ ap (λ (k : ℕ). get_or rows k false) place)
    ])

pub raised_tight : (old new : List ℕ) (n end : ℕ) → IsTight old n → end ≤ n → length new ≡ length old → ((i : ℕ) → end ≤ i → bit_of 64 new i ≡ bit_of 64 old i) → IsTight new n
raised_tight old new n end t room long others = record {
  short = t.short;
  enough = long ∙ t.enough;
  spare = λ i past. others i (omega arith) ∙ t.spare i past;
}

-- One bit of a list of words, written.
use Rattle.std.proofs.Common.{ℕ, ◌/◌, ◌%◌, ◌<◌, ◌≡◌, ◌≢◌, ◌==◌, Bool, false, List, length, get_or, set, sym, ap, ◌∙◌, inl, inr, arith}
use Rattle.std.proofs.lemmas.List.{length-set, get_or-set_same, get_or-set_other}
use Rattle.std.proofs.lemmas.Bool.{cases_eq}
use Rattle.std.specs.Int.{bit_at}
use Rattle.iq_bitmap.specs.Bits.{bit_of, bits_of}
use Rattle.iq_bitmap.specs.Words.{IsTight}
use Rattle.iq_bitmap.proofs.BitLists.{length-bits_of, get_or-bits_of, same_bits}

-- the word w in the place of a row's word says `on` at the row and is as before elsewhere
pub record Writes (xs : List ℕ) (row w : ℕ) (on : Bool) : Type 0 where
  pub within : row / 64 < length xs
  pub here : (bit_at w (row % 64) == 1) ≡ on
  pub others : (j : ℕ) → j < 64 → j ≢ row % 64 → bit_at w j ≡ bit_at (get_or xs (row / 64) 0) j

pub bit_of-set_same : (xs : List ℕ) (row w : ℕ) (on : Bool) → Writes xs row w on → bit_of 64 (set xs (row / 64) w) row ≡ on
bit_of-set_same xs row w on wr = ap (λ (x : ℕ). bit_at x (row % 64) == 1) (get_or-set_same xs (row / 64) w 0 wr.within) ∙ wr.here

pub bit_of-set_other : (xs : List ℕ) (row w : ℕ) (on : Bool) (i : ℕ) → Writes xs row w on → i ≢ row → bit_of 64 (set xs (row / 64) w) i ≡ bit_of 64 xs i
bit_of-set_other xs row w on i wr apart = elim (cases_eq (i / 64) (row / 64)) [
  | inl same ↦
      let there : get_or (set xs (row / 64) w) (i / 64) 0 ≡ w = ap (λ (k : ℕ). get_or (set xs (row / 64) w) k 0) same ∙ get_or-set_same xs (row / 64) w 0 wr.within in
      let before : get_or xs (row / 64) 0 ≡ get_or xs (i / 64) 0 = ap (λ (k : ℕ). get_or xs k 0) (sym same) in
      let other : i % 64 ≢ row % 64 = λ e. apart (omega arith) in
      ap (λ (x : ℕ). bit_at x (i % 64) == 1) there ∙ ap (λ (b : ℕ). b == 1) (wr.others (i % 64) (omega arith) other) ∙ ap (λ (x : ℕ). bit_at x (i % 64) == 1) before
  | inr other ↦ ap (λ (x : ℕ). bit_at x (i % 64) == 1) (get_or-set_other xs (row / 64) (i / 64) w 0 other)
]

pub bits_of-set : (xs : List ℕ) (n row w : ℕ) (on : Bool) → row < n → Writes xs row w on → bits_of 64 (set xs (row / 64) w) n ≡ set (bits_of 64 xs n) row on
bits_of-set xs n row w on h wr =
    same_bits 64 (set xs (row / 64) w) n (set (bits_of 64 xs n) row on) (length-set (bits_of 64 xs n) row on ∙ length-bits_of 64 xs n)
    (λ i within. elim (cases_eq i row) [
      | inl same ↦
          let long : row < length (bits_of 64 xs n) = omega (arith, length-bits_of 64 xs n) in
          ap (λ (k : ℕ). bit_of 64 (set xs (row / 64) w) k) same ∙ bit_of-set_same xs row w on wr
          ∙ sym (ap (λ (k : ℕ). get_or (set (bits_of 64 xs n) row on) k false) same ∙ get_or-set_same (bits_of 64 xs n) row on false long)
      | inr other ↦ bit_of-set_other xs row w on i wr other ∙ sym (get_or-set_other (bits_of 64 xs n) row i on false other ∙ get_or-bits_of 64 xs n i false within)
    ])

pub set_tight : (xs : List ℕ) (n row w : ℕ) (on : Bool) → row < n → Writes xs row w on → IsTight xs n → IsTight (set xs (row / 64) w) n
set_tight xs n row w on h wr t = record {
  short = t.short;
  enough = length-set xs (row / 64) w ∙ t.enough;
  spare = λ i past. bit_of-set_other xs row w on i wr (λ e. omega arith) ∙ t.spare i past;
}

-- Bits of other rows in a page.
use Rattle.std.proofs.Common.{◌≡◌, ◌<◌, ◌≤◌, ℕ, ◌+◌, ◌-◌, ◌/◌, ◌%◌, inl, inr, Bool, false, List, length, get_or, set, refl, sym, ap, ◌∙◌, arith}
use Rattle.std.proofs.lemmas.Bool.{cases_lt}
use Rattle.std.proofs.lemmas.List.{get_or-set_same, get_or-set_other, get_or_past}
use Rattle.iq_bitmap.specs.Bits.{chunk_of}
use Rattle.iq_bitmap.proofs.Chunks.{length-chunk_of, get_or-chunk_of}
use Rattle.iq_planes.specs.Planes.{PutsRows}

-- no row is put yet
pub puts_none : (from first : ℕ) (more bits : List Bool) → PutsRows from from first more bits bits
puts_none from first more bits = record { within = λ i l h. absurd (omega arith); others = λ i out. refl }

-- one row more
pub puts_next : (from row first : ℕ) (more old bits : List Bool) (bit : Bool) → from ≤ row → row < length bits → bit ≡ get_or more (first + (row - from)) false
    → PutsRows from row first more old bits → PutsRows from (row + 1) first more old (set bits row bit)
puts_next from row first more old bits bit order there is s = record {
  within = λ i l h. elim (cases_lt i row) [
    | inl less ↦ get_or-set_other bits row i bit false (λ e. absurd (omega arith)) ∙ s.within i l less
    | inr on ↦ (let same : i ≡ row = omega arith in rw same (get_or-set_same bits row bit false there ∙ is))
  ];
  others = λ i out. elim out [
    | inl low ↦ get_or-set_other bits row i bit false (λ e. absurd (omega arith)) ∙ s.others i (inl low)
    | inr high ↦ get_or-set_other bits row i bit false (λ e. absurd (omega arith)) ∙ s.others i (inr (omega arith))
  ];
}

-- a chunk of other rows is the whole page
pub puts_chunk : (first : ℕ) (more old new : List Bool) → first % 8064 ≡ 0 → length old ≡ 8064 → new ≡ chunk_of (first / 8064) more → PutsRows 0 8064 first more old new
puts_chunk first more old new whole long is = record {
  within = λ i l h. ap (λ (bits : List Bool). get_or bits i false) is ∙ get_or-chunk_of (first / 8064) more i h ∙ ap (λ (k : ℕ). get_or more k false) (omega (arith, whole));
  others = λ i out. elim out [
    | inl low ↦ absurd (omega arith)
    | inr high ↦ get_or_past new i false (omega (arith, high, ap length is ∙ length-chunk_of (first / 8064) more)) ∙ sym (get_or_past old i false (omega (arith, high, long)))
  ];
}

-- The rows of two columns on a side of their comparison.
use Rattle.std.proofs.Common.{◌≡◌, ◌<◌, ℕ, ◌+◌, inl, inr, Bool, false, List, length, slice_index, slice_index_or, slice_set, sym, ap, ap₂, ◌∙◌, arith}
use Rattle.std.specs.Simd.Lanes.{zip2}
use Rattle.std.proofs.lemmas.Bool.{cases_lt}
use Rattle.std.proofs.lemmas.List.{get_or-map, length-map, ext_get_or, get_or-set_same, get_or-set_other}
use Rattle.std.proofs.lemmas.Simd.{length-zip2, get_or-zip2}
use Rattle.iq_base.specs.declared.values.Value.{Value}
use Rattle.iq_base.specs.declared.values.Value.TheVariants.{Null}
use Rattle.iq_ast.specs.declared.conditions.Op.{Op}
use Rattle.iq_truth.specs.declared.truth.Side.{Side}
use Rattle.iq_cells.specs.Packed.{value_at}
use Rattle.iq_fp.specs.Scans.{is_pair, decoded}

-- whether the values of a row are on the side
abbrev pub paired : Side → Op → List Value → List ℕ → List Value → List ℕ → ℕ → Bool
paired side op known codes others other_codes i = is_pair side op (value_at (slice_index codes i) known) (value_at (slice_index other_codes i) others)

-- one more bit
pub bits_next : (f : ℕ → Bool) (bits bits' : List Bool) (row : ℕ) (on : Bool) → bits' ≡ slice_set bits row on → on ≡ f row → row < length bits → ((i : ℕ) → i < row → slice_index_or bits i false ≡ f i) → (i : ℕ) → i < row + 1 → slice_index_or bits' i false ≡ f i
bits_next f bits bits' row on set is within before i h = ap (λ (bs : List Bool). slice_index_or bs i false) set ∙ elim (cases_lt i row) [
  | inl less ↦ get_or-set_other bits row i on false (λ e. omega arith) ∙ before i less
  | inr last ↦ (
      let same : i ≡ row = omega arith in
      ap (λ (k : ℕ). slice_index_or (slice_set bits row on) k false) same ∙ get_or-set_same bits row on false within ∙ is ∙ ap f (sym same))
]

-- so the bits are those of all rows
pub pairs_are : (side : Side) (op : Op) (known others : List Value) (codes other_codes : List ℕ) (count : ℕ) (bits : List Bool) → length codes ≡ count → length other_codes ≡ count → length bits ≡ count → ((i : ℕ) → i < count → slice_index_or bits i false ≡ paired side op known codes others other_codes i) → bits ≡ zip2 (is_pair side op) (decoded known codes) (decoded others other_codes)
pairs_are side op known others codes other_codes count bits p q long each =
    let value = λ (code : ℕ). value_at code known in
    let other = λ (code : ℕ). value_at code others in
    let a = length-map codes value in
    let b = length-map other_codes other in
    let size = length-zip2 (is_pair side op) (decoded known codes) (decoded others other_codes) (omega (arith, a, b)) in
    ext_get_or false bits (zip2 (is_pair side op) (decoded known codes) (decoded others other_codes)) (omega (arith, size, a)) (λ i h.
    each i (omega arith)
    ∙ sym (get_or-zip2 (is_pair side op) (decoded known codes) (decoded others other_codes) i Null Null false (omega (arith, a)) (omega (arith, b))
    ∙ ap₂ (is_pair side op) (get_or-map value codes i 0 Null (omega arith)) (get_or-map other other_codes i 0 Null (omega arith))))

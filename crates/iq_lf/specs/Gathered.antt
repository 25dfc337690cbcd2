-- The rows of some codes, by their code.
use Rattle.std.specs.Prelude.{◌≡◌, ◌≢◌, ◌<◌, ◌≤◌, ℕ, ◌+◌, ◌-◌, ◌&&◌, Bool, true, false, List, [], length, nat_eq, nat_le, nat_lt, slice_index, slice_index_or}

-- none of the codes is the number
abbrev pub AreOthers : List ℕ → ℕ → Type 0
AreOthers codes c = (i : ℕ) → i < length codes → slice_index codes i ≢ c

-- a code is used exactly where it is one of the codes
pub record AreUsed (codes : List ℕ) (values : ℕ) (used : List Bool) : Type 0 where
  pub long : length used ≡ values + 1
  pub some : (c : ℕ) → c ≤ values → slice_index_or used c false ≡ true → ¬ (AreOthers codes c)
  pub none : (c : ℕ) → c ≤ values → slice_index_or used c false ≡ false → AreOthers codes c

-- the rows of a chunk with a code, where the first of the codes is that of row `from` of the chunk
pub record AreGathered (codes : List ℕ) (from c : ℕ) (rows : List Bool) : Type 0 where
  pub long : length rows ≡ 8064
  pub each : (i : ℕ) → i < 8064 → slice_index_or rows i false ≡ (nat_le from i && nat_eq c (slice_index codes (i - from)))

-- rows of a list of bitmaps, or none past its end
abbrev pub rows_at : ℕ → List (List Bool) → List Bool
rows_at c all = slice_index_or all c []

-- ROWS ONE AFTER THE OTHER

-- by the first n of the codes
pub record AreUsedBelow (n : ℕ) (codes : List ℕ) (values : ℕ) (used : List Bool) : Type 0 where
  pub long : length used ≡ values + 1
  pub some : (c : ℕ) → c ≤ values → slice_index_or used c false ≡ true → ¬ ((i : ℕ) → i < n → slice_index codes i ≢ c)
  pub none : (c : ℕ) → c ≤ values → slice_index_or used c false ≡ false → (i : ℕ) → i < n → slice_index codes i ≢ c

pub record AreGatheredBelow (n : ℕ) (codes : List ℕ) (from c : ℕ) (rows : List Bool) : Type 0 where
  pub long : length rows ≡ 8064
  pub each : (i : ℕ) → i < 8064 → slice_index_or rows i false ≡ (nat_le from i && (nat_lt (i - from) n && nat_eq c (slice_index codes (i - from))))

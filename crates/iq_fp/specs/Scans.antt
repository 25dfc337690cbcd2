-- What is read of a column: one value, the rows on a side of a test, and the values of chosen rows.
use Rattle.std.specs.Prelude.{◌≡◌, ◌<◌, ℕ, zero, suc, ◌+◌, ◌-◌, Bool, false, if◌then◌else◌, List, [], ◌∷◌, ◌⊎◌, Option, map, slice_index, slice_index_or}
use Rattle.std.specs.Simd.Lanes.{zip2}
use Rattle.iq_base.specs.declared.values.Value.{Value}
use Rattle.iq_ast.specs.declared.conditions.Op.{Op}
use Rattle.iq_ast.specs.declared.conditions.Test.{Test}
use Rattle.iq_truth.specs.declared.truth.Side.{Side}
use Rattle.iq_truth.specs.Sides.{is_on}
use Rattle.iq_truth.specs.Comparisons.{comparison}
use Rattle.iq_truth.specs.Tests.{truth_on}
use Rattle.iq_bitmap.specs.Bits.{rows_from}
use Rattle.iq_pages.specs.declared.page_faults.PageFault.{PageFault}
use Rattle.iq_pages.specs.Pages.{Pages, Seen}
use Rattle.iq_cells.specs.Packed.{value_at}
use Rattle.iq_cells.specs.Codes.{code_in}
use Rattle.iq_fp.specs.declared.fp.Fp.{Fp}
use Rattle.iq_fp.specs.Stands.{Stands}
use Rattle.iq_fp.specs.Calls.{HasReadCause}

-- whether a value is on a side of a test of its column
abbrev pub is_hit : Side → Test → Value → Bool
is_hit side test v = is_on side (truth_on v test)

-- whether two values are on a side of a comparison
abbrev pub is_pair : Side → Op → Value → Value → Bool
is_pair side op v w = is_on side (comparison op v w)

-- the values of the rows that are set, in row order
abbrev pub values_of_rows : List Bool → List Value → List Value
values_of_rows rows values = map (λ row. value_at row values) (rows_from 0 rows)

-- whatever values the column stands for, these bits are the rows on the side of the test
abbrev pub AreRowsOn : Fp → (ℕ → Option Pages) → Side → Test → List Bool → Type 0
AreRowsOn fp told side test bits = (values : List Value) → Stands fp told values → bits ≡ map (is_hit side test) values

-- whatever values two columns stand for, these bits are the rows on the side of their comparison
abbrev pub ArePairsOn : Fp → Fp → (ℕ → Option Pages) → Side → Op → List Bool → Type 0
ArePairsOn left right told side op bits =
    (vs ws : List Value) → Stands left told vs → Stands right told ws → bits ≡ zip2 (is_pair side op) vs ws

-- whatever values the column stands for, these are those of the rows that are set
abbrev pub AreValuesOfRows : Fp → (ℕ → Option Pages) → List Bool → List Value → Type 0
AreValuesOfRows fp told rows got = (values : List Value) → Stands fp told values → got ≡ values_of_rows rows values

-- two columns aren't read only for a cause of one of them
abbrev pub HasPairCause : Fp → Fp → Seen → Seen → PageFault → Type 0
HasPairCause left right before after fault = HasReadCause left before after fault ⊎ HasReadCause right before after fault

-- whatever values the column stands for, the code of a row is this
abbrev pub IsCodeOf : Fp → (ℕ → Option Pages) → ℕ → ℕ → Type 0
IsCodeOf fp told row code = (values : List Value) (stands : Stands fp told values) → code ≡ slice_index stands.codes row

-- whatever values the column stands for, the distinct value of a code is this
abbrev pub IsKnownAt : Fp → (ℕ → Option Pages) → ℕ → Value → Type 0
IsKnownAt fp told code value = (values : List Value) (stands : Stands fp told values) → value ≡ value_at code stands.known

-- whatever values the column stands for, these bits are the rows whose code is set among the hits
abbrev pub AreMarked : Fp → (ℕ → Option Pages) → List Bool → List Bool → Type 0
AreMarked fp told hits bits =
    (values : List Value) (stands : Stands fp told values) → bits ≡ map (λ code. slice_index_or hits code false) stands.codes

-- the value of each code
abbrev pub decoded : List Value → List ℕ → List Value
decoded known codes = map (λ code. value_at code known) codes

-- those rows that are set among n of them, from one on
abbrev pub set_rows : List Bool → ℕ → ℕ → List ℕ
set_rows rows from zero = []
set_rows rows from (suc n) = if slice_index_or rows from false then from ∷ set_rows rows (from + 1) n else set_rows rows (from + 1) n

-- the value of a row by its code on a page, which begins with row `start`
abbrev pub value_on_page : ℕ → List ℕ → ℕ → List Value → ℕ → Value
value_on_page w page start known row = value_at (code_in w page (row - start)) known

-- whatever values the column stands for, these are the known ones at the codes of the rows that are set
abbrev pub AreChosen : Fp → (ℕ → Option Pages) → List Bool → List Value → List Value → Type 0
AreChosen fp told rows known got =
    (values : List Value) (stands : Stands fp told values) → got ≡ map (λ row. value_at (slice_index stands.codes row) known) (rows_from 0 rows)

-- the rows from one on have the bits of the codes of a page, and the rows before are as before
pub record MarksRows (w : ℕ) (page : List ℕ) (n : ℕ) (hits : List Bool) (start : ℕ) (old new : List Bool) : Type 0 where
  pub before : (i : ℕ) → i < start → slice_index_or new i false ≡ slice_index_or old i false
  pub here : (k : ℕ) → k < n → slice_index_or new (start + k) false ≡ slice_index_or hits (code_in w page k) false

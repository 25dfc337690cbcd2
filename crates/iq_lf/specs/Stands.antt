-- When the three objects of an index stand for a list of values.
use Rattle.std.specs.Prelude.{◌≡◌, ◌≢◌, ◌≤◌, ℕ, ◌+◌, ◌*◌, ◌/◌, ◌%◌, Bool, List, [], ◌∷◌, Option, Some, length, map, nat_eq}
use Rattle.iq_base.specs.declared.values.Value.{Value}
use Rattle.iq_base.specs.declared.values.Value.TheVariants.{Null}
use Rattle.iq_base.specs.Cells.{width, cell}
use Rattle.iq_pages.specs.Pages.{Pages}
use Rattle.iq_numbering.specs.Numbers.{IsNumbered}
use Rattle.iq_bitmap.specs.Bits.{chunk_of}
use Rattle.iq_pieces.specs.Counts.{pages_for}
use Rattle.iq_pieces.specs.Objects.{HoldsObject}
use Rattle.iq_fp.specs.Stands.{HaveCells}
use Rattle.iq_lf.specs.declared.lf.Lf.{Lf}
use Rattle.iq_lf.specs.declared.lf.TheConstants.{MOST_CHUNKS, MOST_DISTINCT, MOST_ROWS}
use Rattle.iq_lf.specs.Entries.{HoldsBitmaps}

-- the rows with a distinct value, by the codes of all rows: value v has code v + 1; NULL has code 0, and is among the rows of none
abbrev pub rows_with : ℕ → List ℕ → List Bool
rows_with v codes = map (nat_eq (v + 1)) codes

-- the bits due to entry k: the rows with value k div 33 in chunk k mod 33
abbrev pub due : List ℕ → ℕ → List Bool
due codes k = chunk_of (k % MOST_CHUNKS) (rows_with (k / MOST_CHUNKS) codes)

-- how many entries an index has
abbrev pub entries_in : Lf → ℕ
entries_in lf = MOST_CHUNKS * lf.distinct

-- the told pages of the three objects stand for the values: the first object holds the distinct ones without NULL in order of first
-- appearance, the second an entry for each of them and each chunk of rows, and the third the bitmaps that have a row
pub record Stands (lf : Lf) (told : ℕ → Option Pages) (values : List Value) : Type 0 where
  pub known : List Value
  pub codes : List ℕ
  pub numbers : Pages
  pub slots : length values ≡ lf.slots
  pub rows : lf.slots ≤ MOST_ROWS
  pub distinct : length known ≡ lf.distinct
  pub few : lf.distinct ≤ MOST_DISTINCT
  pub numbered : IsNumbered (Null ∷ []) values known codes
  pub of_kind : HaveCells lf.kind known
  pub values_held : HoldsObject (told lf.first) (width lf.kind) (map (cell lf.kind) known)
  pub numbers_told : told lf.second ≡ Some numbers
  pub numbers_long : length numbers ≡ pages_for 4 (entries_in lf)
  pub bitmaps_held : HoldsBitmaps (told lf.third) (entries_in lf) numbers (due codes)

-- so many more rows find room
pub record HasRoom (lf : Lf) (more : ℕ) : Type 0 where
  pub first : lf.first ≢ lf.second
  pub second : lf.second ≢ lf.third
  pub third : lf.first ≢ lf.third
  pub rows : lf.slots + more ≤ MOST_ROWS
  pub few : lf.distinct ≤ MOST_DISTINCT

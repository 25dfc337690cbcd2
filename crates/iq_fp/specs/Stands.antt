-- When the two objects of a column stand for a list of values.
use Rattle.std.specs.Prelude.{◌≡◌, ◌≢◌, ◌<◌, ◌≤◌, ℕ, ◌+◌, ◌*◌, ◌^◌, List, [], Option, length, map}
use Rattle.byteorder.specs.Endian.{little_bytes}
use Rattle.iq_base.specs.declared.sizes.TheConstants.{MOST_PAGES}
use Rattle.iq_base.specs.declared.values.Kind.{Kind}
use Rattle.iq_base.specs.declared.values.Value.{Value}
use Rattle.iq_base.specs.Cells.{width, cell, IsCell}
use Rattle.iq_pages.specs.Pages.{Pages}
use Rattle.iq_cells.specs.Packed.{value_at}
use Rattle.iq_numbering.specs.Numbers.{IsNumbered}
use Rattle.iq_pieces.specs.Counts.{per_page}
use Rattle.iq_pieces.specs.Objects.{HoldsObject}
use Rattle.iq_fp.specs.declared.fp.Fp.{Fp}
use Rattle.iq_fp.specs.Forms.{code_width}

-- each value has a cell of the kind
abbrev pub HaveCells : Kind → List Value → Type 0
HaveCells kind vs = (i : ℕ) → i < length vs → IsCell kind (value_at i vs) (cell kind (value_at i vs))

-- the told pages of the two objects stand for the values: one object holds the distinct ones, NULL one of them, in order of first
-- appearance, and the other each value's place among them, as a code of as many bytes as so many distinct values need
pub record Stands (fp : Fp) (told : ℕ → Option Pages) (values : List Value) : Type 0 where
  pub known : List Value
  pub codes : List ℕ
  pub slots : length values ≡ fp.slots
  pub distinct : length known ≡ fp.distinct
  pub few : fp.distinct ≤ 256 ^ 3
  pub numbered : IsNumbered [] values known codes
  pub of_kind : HaveCells fp.kind known
  pub codes_held : HoldsObject (told fp.codes) (code_width fp.distinct) (map (little_bytes (code_width fp.distinct)) codes)
  pub values_held : HoldsObject (told fp.values) (width fp.kind) (map (cell fp.kind) known)

-- so many more values find room: codes of 3 bytes tell them apart, and no object gets more pages than it may have
pub record HasRoom (fp : Fp) (more : ℕ) : Type 0 where
  pub apart : fp.codes ≢ fp.values
  pub fewer : fp.distinct ≤ fp.slots
  pub codes : fp.slots + more ≤ 256 ^ 3
  pub values : fp.slots + more ≤ per_page (width fp.kind) * MOST_PAGES

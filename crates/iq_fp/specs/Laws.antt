-- What holds of a column whatever its pages are.
use Rattle.std.specs.Prelude.{◌≡◌, ◌≢◌, ◌<◌, ◌≤◌, ℕ, ◌+◌, Bool, List, [], Option, Some, length, slice_index_or}
use Rattle.iq_base.specs.declared.schemas.Column.{Column}
use Rattle.iq_base.specs.declared.values.Value.{Value}
use Rattle.iq_base.specs.Cells.{width}
use Rattle.iq_base.specs.Limits.{text_length, longest, rows_within}
use Rattle.iq_pages.specs.Pages.{Pages}
use Rattle.iq_pieces.specs.Counts.{pages_for}
use Rattle.iq_fp.specs.declared.fp.Fp.{Fp}
use Rattle.iq_fp.specs.Forms.{code_width}
use Rattle.iq_fp.specs.Stands.{Stands, HasRoom}

-- two columns are alike but for the numbers of their objects
pub record AreAlike (fp other : Fp) : Type 0 where
  pub kind : other.kind ≡ fp.kind
  pub slots : other.slots ≡ fp.slots
  pub distinct : other.distinct ≡ fp.distinct

-- the objects of one column have the pages that those of the other had
pub record HaveSamePages (fp other : Fp) (before after : ℕ → Option Pages) : Type 0 where
  pub codes : after other.codes ≡ before fp.codes
  pub values : after other.values ≡ before fp.values

-- what a column stands for depends on the pages of its two objects alone
abbrev pub DependsOnPages : Fp → Type 0
DependsOnPages fp =
    (before after : ℕ → Option Pages) (values : List Value) → HaveSamePages fp fp before after → Stands fp before values → Stands fp after values

-- and on the place of these only by their numbers: a column that is alike stands for the same, where its objects have the same pages
abbrev pub MovesWithPages : Fp → Type 0
MovesWithPages fp =
    (other : Fp) (before after : ℕ → Option Pages) (values : List Value) → AreAlike fp other → HaveSamePages fp other before after → Stands fp before values → Stands other after values

-- a column that stands for values has as many pages as its codes and its distinct values need, and no more
pub record HasPages (fp : Fp) (told : ℕ → Option Pages) : Type 0 where
  pub codes : (pages : Pages) → told fp.codes ≡ Some pages → length pages ≡ pages_for (code_width fp.distinct) fp.slots
  pub values : (pages : Pages) → told fp.values ≡ Some pages → length pages ≡ pages_for (width fp.kind) fp.distinct

-- a column whose objects are told to have no pages stands for no values
abbrev pub BeginsEmpty : Fp → Type 0
BeginsEmpty fp = (told : ℕ → Option Pages) → told fp.codes ≡ Some [] → told fp.values ≡ Some [] → Stands fp told []

-- with so many more rows the table of a column stays within its limit; the longest text of the table has so many bytes
pub record StaysWithin (fp : Fp) (most : ℕ) (low_fast : Bool) (more : ℕ) : Type 0 where
  pub apart : fp.codes ≢ fp.values
  pub fewer : fp.distinct ≤ fp.slots
  pub text : text_length fp.kind ≤ most
  pub rows : fp.slots + more ≤ rows_within most low_fast

-- so they find room
abbrev pub RoomWithin : Fp → Type 0
RoomWithin fp = (most more : ℕ) (low_fast : Bool) → StaysWithin fp most low_fast more → HasRoom fp more

-- no column of a table has longer texts than the longest
abbrev pub NoneLonger : List Column → Type 0
NoneLonger columns = (c : ℕ) (past : Column) → c < length columns → text_length (slice_index_or columns c past).kind ≤ longest columns

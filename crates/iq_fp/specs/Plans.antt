-- What an append of a column is planned to write.
use Rattle.std.specs.Prelude.{◌≡◌, ◌≢◌, ◌≤◌, ℕ, ◌+◌, ◌-◌, ◌/◌, List, Option, length, drop, map}
use Rattle.byteorder.specs.Endian.{little_bytes}
use Rattle.iq_base.specs.declared.values.Value.{Value}
use Rattle.iq_base.specs.Cells.{width, cell}
use Rattle.iq_pages.specs.Pages.{Pages}
use Rattle.iq_numbering.specs.Numbers.{IsNumbered}
use Rattle.iq_pieces.specs.Counts.{per_page}
use Rattle.iq_pieces.specs.Objects.{BeginsAs, LoadsLast, AppendsBehind, HoldsAnew}
use Rattle.iq_fp.specs.declared.fp.Fp.{Fp}
use Rattle.iq_fp.specs.declared.plan.Plan.{Plan}
use Rattle.iq_fp.specs.Forms.{code_width}
use Rattle.iq_fp.specs.Stands.{HaveCells}
use Rattle.iq_fp.specs.Calls.{AreKnown, GoOn}

-- the codes stay in their form
abbrev pub KeepsForm : Fp → Fp → Type 0
KeepsForm old new = code_width new.distinct ≡ code_width old.distinct

-- a list ends in another
abbrev pub EndsIn : List ℕ → List ℕ → Type 0
EndsIn end all = drop (length all - length end) all ≡ end

-- the codes of a column that are to be written: whatever values it stands for, those of more rows, behind a page that begins as its last
-- one; or, where the form changes, those of all rows; either way those of more rows stand last
pub record ArePlanned (old new : Fp) (told : ℕ → Option Pages) (more codes page : List ℕ) : Type 0 where
  pub same : KeepsForm old new → codes ≡ more
  pub last : KeepsForm old new → LoadsLast (code_width old.distinct) old.slots (told old.codes) page
  pub all : code_width new.distinct ≢ code_width old.distinct → GoOn old told more codes
  pub ends : EndsIn more codes

-- the values that weren't there before, numbered behind the known ones, whatever values the column stands for, so that the distinct ones
-- become so many; and a page that begins as the last one of the known ones
pub record AreNumbered (old : Fp) (told : ℕ → Option Pages) (cells : List Value) (distinct : ℕ) (more page : List ℕ) : Type 0 where
  pub known : List Value
  pub fresh : List Value
  pub many : distinct ≡ old.distinct + length fresh
  pub long : length known ≡ old.distinct
  pub known_are : AreKnown old told known
  pub of_kind : HaveCells old.kind fresh
  pub numbered : IsNumbered known cells fresh more
  pub last : BeginsAs (width old.kind) old.distinct page (map (cell old.kind) known)

-- the plan was made for putting the cells behind whatever values the told pages of its column stand for
pub record IsPlanFor (told : ℕ → Option Pages) (cells : List Value) (plan : Plan) : Type 0 where
  pub more : List ℕ
  pub slots : plan.grown.slots ≡ plan.column.slots + length cells
  pub numbered : AreNumbered plan.column told cells plan.grown.distinct more plan.last_values
  pub codes : ArePlanned plan.column plan.grown told more plan.codes.items plan.last_codes

-- the objects have the pages behind which the plan writes
pub record IsReached (counts : ℕ → ℕ) (plan : Plan) : Type 0 where
  pub values : plan.column.distinct / per_page (width plan.column.kind) ≤ counts plan.column.values
  pub codes : KeepsForm plan.column plan.grown → plan.column.slots / per_page (code_width plan.column.distinct) ≤ counts plan.column.codes

-- the codes of a plan were written, behind those that the object holds or anew
pub record WritesCodes (plan : Plan) (before after : Option Pages) : Type 0 where
  pub behind : KeepsForm plan.column plan.grown → AppendsBehind (code_width plan.column.distinct) plan.column.slots plan.last_codes (map (little_bytes (code_width plan.column.distinct)) plan.codes.items) before after
  pub anew : code_width plan.grown.distinct ≢ code_width plan.column.distinct → HoldsAnew (code_width plan.grown.distinct) (map (little_bytes (code_width plan.grown.distinct)) plan.codes.items) before after

-- What the calls on a table change and count, and why they fail.
use Rattle.std.specs.Prelude.{◌≡◌, ◌≢◌, ◌<◌, ◌≤◌, ℕ, zero, suc, ◌+◌, ◌*◌, ◌/◌, ◌⊎◌, List, [], ◌∷◌, Option, None, IsSome, length, map, slice_index, sum_by, ⊤}
use Rattle.iq_base.specs.declared.schemas.Column.{Column}
use Rattle.iq_base.specs.declared.descriptors.ColumnPart.{ColumnPart}
use Rattle.iq_base.specs.declared.descriptors.Descriptor.{Descriptor}
use Rattle.iq_outside.specs.Faults.{RoseWithin}
use Rattle.iq_pages.specs.declared.page_faults.PageFault.{PageFault}
use Rattle.iq_pages.specs.declared.page_faults.PageFault.TheVariants as pages
use Rattle.iq_pages.specs.Pages.{Pages, Seen}
use Rattle.iq_pieces.specs.Counts.{WritesNothing}
use Rattle.iq_chunks.specs.Chunks.{chunks_changed, HasBitsCause}
use Rattle.iq_base.specs.declared.values.Value.{Value}
use Rattle.iq_cells.specs.Tables.{column_of}
use Rattle.iq_fp.specs.Forms.{code_width}
use Rattle.iq_fp.specs.Calls as columns
use Rattle.iq_table.specs.declared.table.Table.{Table}
use Rattle.iq_table.specs.declared.faults.TableFault.{TableFault}
use Rattle.iq_table.specs.declared.faults.TableFault.TheVariants as faults
use Rattle.iq_table.specs.Places.{existence_of, codes_of, values_of, no_ref, new_part, part_at, fp_of, fp_at}
use Rattle.iq_table.specs.Limits.{limit_of}

-- the descriptor of a table without rows
abbrev pub new_parts : List ℕ → List Column → Descriptor
new_parts name made = record { name = name; slots = 0; existence = no_ref; columns = map new_part made; indexes = [] }

-- the table has no slots, and no column has a distinct value
pub record IsUnused (parts : Descriptor) : Type 0 where
  pub slots : parts.slots ≡ 0
  pub distinct : (c : ℕ) → c < length parts.columns → (part_at c parts.columns).distinct ≡ 0
  pub forms : (c : ℕ) → c < length parts.columns → (part_at c parts.columns).form ≡ 1

-- every object that is of another place has the pages that it had
pub record KeepsOtherTables (place : ℕ) (before after : Seen) : Type 0 where
  pub told : (object : ℕ) → object / 256 ≢ place → after.told object ≡ before.told object
  pub counts : (object : ℕ) → object / 256 ≢ place → after.counts object ≡ before.counts object

-- the number is that of existence, or of the codes or values of one of so many columns
abbrev pub IsObjectOf : ℕ → ℕ → ℕ → Type 0
IsObjectOf place count object = (256 * place ≤ object) × (object ≤ 256 * place + 2 * count)

-- the pages of existence and of so many columns are told
abbrev pub TellsPlace : (ℕ → Option Pages) → ℕ → ℕ → Type 0
TellsPlace told place count = (object : ℕ) → IsObjectOf place count object → IsSome (told object)

-- those of so many columns are
abbrev pub TellsColumns : (ℕ → Option Pages) → ℕ → ℕ → Type 0
TellsColumns told place count = (c : ℕ) → c < count → IsSome (told (codes_of place c)) × IsSome (told (values_of place c))

-- the pages of each of a table's objects are told
abbrev pub TellsObjects : (ℕ → Option Pages) → Table → Type 0
TellsObjects told table = TellsPlace told table.place (length table.parts.columns)

-- why a table's objects aren't made: the store failed, or one of them, which the fault names, isn't told
abbrev pub HasMakeCause : Table → Seen → Seen → PageFault → Type 0
HasMakeCause table before after (pages.Failed x y) = RoseWithin before.faults x y after.faults
HasMakeCause table before after (pages.BadPage object page) = IsObjectOf table.place (length table.parts.columns) object × (before.told object ≡ None)
HasMakeCause table before after pages.NoMemory = ⊤

-- a column after an append: its distinct values and its form may have changed, and a form that fitted them still does
pub record IsPartGrown (more : ℕ) (old new : ColumnPart) : Type 0 where
  pub rest : record new { form = old.form; distinct = old.distinct } ≡ old
  pub distinct : old.distinct ≤ new.distinct
  pub most : new.distinct ≤ old.distinct + more
  pub form : old.form ≡ code_width old.distinct → new.form ≡ code_width new.distinct

-- columns after an append
pub record AreGrown (more : ℕ) (old new : List ColumnPart) : Type 0 where
  pub long : length new ≡ length old
  pub each : (c : ℕ) → c < length old → IsPartGrown more (part_at c old) (part_at c new)

-- a table after an append of so many rows: more slots, its columns grown, and nothing else changed
pub record HasGrown (old new : Table) (more : ℕ) : Type 0 where
  pub rest : record new { parts = record new.parts { slots = old.parts.slots; columns = old.parts.columns } } ≡ old
  pub slots : new.parts.slots ≡ old.parts.slots + more
  pub columns : AreGrown more old.parts.columns new.parts.columns

-- how many pages of columns an append writes: of each those of new values and new codes, and all codes where their form changes
abbrev pub columns_written : ℕ → ℕ → List ColumnPart → List ColumnPart → ℕ
columns_written slots slots' [] news = 0
columns_written slots slots' (old ∷ olds) [] = 0
columns_written slots slots' (old ∷ olds) (new ∷ news) = columns.pages_written (fp_of 0 slots 0 old) (fp_of 0 slots' 0 new) + columns_written slots slots' olds news

-- how many pages of columns it reads at most: of each those of its distinct values, and the last of codes, or all where their form changes
abbrev pub columns_read : ℕ → List ColumnPart → ℕ
columns_read slots parts = sum_by (λ (part : ColumnPart). columns.pages_read (fp_of 0 slots 0 part)) parts

-- how many pages of columns it writes at most: of each as many as where every row has a new value
abbrev pub columns_most : ℕ → ℕ → List ColumnPart → ℕ
columns_most slots more parts = sum_by (λ (part : ColumnPart). columns.most_written (fp_of 0 slots 0 part) more) parts

-- how many pages an append of rows writes: none without rows, else of columns and of existence
abbrev pub append_writes : Table → Table → ℕ → ℕ
append_writes old new zero = 0
append_writes old new (suc more) = columns_written old.parts.slots new.parts.slots old.parts.columns new.parts.columns + chunks_changed old.parts.slots (suc more)

-- how many it writes at most, whatever the rows are and wherever it ends
abbrev pub append_most : Table → ℕ → ℕ
append_most table more = columns_most table.parts.slots more table.parts.columns + chunks_changed table.parts.slots more

-- how many it reads at most
abbrev pub append_reads : Table → ℕ
append_reads table = columns_read table.parts.slots table.parts.columns + 1

-- a page of a column isn't sound for an append
abbrev pub IsBadColumn : ℕ → ℕ → List ColumnPart → Seen → Seen → ℕ → ℕ → Type 0
IsBadColumn place slots parts before after object page =
    (c : ℕ) × (c < length parts) × columns.HasAppendCause (fp_of place slots c (part_at c parts)) before after (pages.BadPage object page)

-- why values aren't put behind those of columns: the store failed, or the page that the fault names isn't sound
abbrev pub HasColumnsCause : ℕ → ℕ → List ColumnPart → Seen → Seen → PageFault → Type 0
HasColumnsCause place slots parts before after (pages.Failed x y) = RoseWithin before.faults x y after.faults
HasColumnsCause place slots parts before after (pages.BadPage object page) = IsBadColumn place slots parts before after object page
HasColumnsCause place slots parts before after pages.NoMemory = ⊤

-- a page isn't sound for an append: it lacks in the object of existence, or isn't sound of a column
abbrev pub IsBadForAppend : ℕ → ℕ → List ColumnPart → Seen → Seen → ℕ → ℕ → Type 0
IsBadForAppend place slots parts before after object page =
    HasBitsCause (existence_of place) slots before after (pages.BadPage object page)
    ⊎ IsBadColumn place slots parts before after object page

-- why rows aren't written: the store failed, or the page that the fault names isn't sound
abbrev pub HasWriteCause : ℕ → ℕ → List ColumnPart → Seen → Seen → PageFault → Type 0
HasWriteCause place slots parts before after (pages.Failed x y) = RoseWithin before.faults x y after.faults
HasWriteCause place slots parts before after (pages.BadPage object page) = IsBadForAppend place slots parts before after object page
HasWriteCause place slots parts before after pages.NoMemory = ⊤

-- whatever values the first columns stood for, each stands for more afterwards
abbrev pub ColumnsStandForMore : ℕ → ℕ → ℕ → ℕ → List ColumnPart → List ColumnPart → List (List Value) → (ℕ → Option Pages) → (ℕ → Option Pages) → Type 0
ColumnsStandForMore n place slots slots' old new more before after =
    (c : ℕ) → c < n → columns.StandsForMore (fp_of place slots c (part_at c old)) (fp_of place slots' c (part_at c new)) (column_of c more) before after

-- every object has the pages that it had but those of the first columns
pub record KeepsButColumns (place n : ℕ) (before after : Seen) : Type 0 where
  pub told : (object : ℕ) → (object ≤ 256 * place) ⊎ (256 * place + 2 * n < object) → after.told object ≡ before.told object
  pub counts : (object : ℕ) → (object ≤ 256 * place) ⊎ (256 * place + 2 * n < object) → after.counts object ≡ before.counts object

-- and those of existence
pub record KeepsButRows (place n : ℕ) (before after : Seen) : Type 0 where
  pub told : (object : ℕ) → (object < 256 * place) ⊎ (256 * place + 2 * n < object) → after.told object ≡ before.told object
  pub counts : (object : ℕ) → (object < 256 * place) ⊎ (256 * place + 2 * n < object) → after.counts object ≡ before.counts object

-- why rows aren't put behind those of a table: the store failed; the page that the fault names isn't sound, of existence or of a
-- column; or the table would have more rows than it may
abbrev pub HasAppendCause : Table → ℕ → Seen → Seen → TableFault → Type 0
HasAppendCause table more before after (faults.Failed x y) = RoseWithin before.faults x y after.faults
HasAppendCause table more before after (faults.BadPage object page) = IsBadForAppend table.place table.parts.slots table.parts.columns before after object page
HasAppendCause table more before after faults.NoMemory = ⊤
HasAppendCause table more before after (faults.TableFull limit) = (limit ≡ limit_of table.parts) × (limit < table.parts.slots + more)

-- how many pages some columns have
abbrev pub pages_of_columns : Table → List ℕ → ℕ
pages_of_columns table chosen = sum_by (λ (c : ℕ). columns.all_pages (fp_at table.place table.parts c)) chosen

-- why rows aren't read: the store failed, or the page that the fault names isn't sound, of one of the columns
abbrev pub HasRowsCause : Table → List ℕ → Seen → Seen → PageFault → Type 0
HasRowsCause table chosen before after (pages.Failed x y) = RoseWithin before.faults x y after.faults
HasRowsCause table chosen before after (pages.BadPage object page) = (i : ℕ) × (i < length chosen) × columns.HasReadCause (fp_at table.place table.parts (slice_index chosen i)) before after (pages.BadPage object page)
HasRowsCause table chosen before after pages.NoMemory = ⊤

-- a bad page was found before the first page was written
abbrev pub FindsBadFirst : Seen → Seen → TableFault → Type 0
FindsBadFirst before after (faults.Failed x y) = ⊤
FindsBadFirst before after (faults.BadPage object page) = WritesNothing before after
FindsBadFirst before after faults.NoMemory = ⊤
FindsBadFirst before after (faults.TableFull limit) = ⊤

-- the fault is no bad page
abbrev pub IsNoBadPage : PageFault → Type 0
IsNoBadPage (pages.Failed x y) = ⊤
IsNoBadPage (pages.BadPage object page) = ⊥
IsNoBadPage pages.NoMemory = ⊤

-- The rows that a table stands for.
use Rattle.std.specs.Prelude.{◌≡◌, ◌<◌, ◌≤◌, ℕ, ◌+◌, ◌*◌, ◌/◌, Bool, true, List, ◌++◌, Option, length, map, replicate}
use Rattle.iq_base.specs.declared.values.Value.{Value}
use Rattle.iq_base.specs.declared.descriptors.Descriptor.{Descriptor}
use Rattle.iq_pages.specs.Pages.{Pages}
use Rattle.iq_bitmap.specs.Bits.{difference, rows_from}
use Rattle.iq_cells.specs.Packed.{value_at}
use Rattle.iq_cells.specs.Tables.{row_at, column_of}
use Rattle.iq_chunks.specs.Chunks.{HoldsBits}
use Rattle.iq_fp.specs.Forms.{code_width}
use Rattle.iq_fp.specs.Stands.{Stands}
use Rattle.iq_table.specs.declared.table.Table.{Table}
use Rattle.iq_table.specs.Places.{existence_of, part_at, fp_at}

-- through the pages that are told, the table at a place stands for rows, and for which of them are there: as many of both as it has
-- slots, a value in each row for each of its at most 32 columns; the object of existence holds the bits of the rows that are there,
-- and each column stands for its values, in the form that its distinct values need
pub record TableStands (told : ℕ → Option Pages) (place : ℕ) (parts : Descriptor) (rows : List (List Value)) (alive : List Bool) : Type 0 where
  pub few : length parts.columns ≤ 32
  pub slots : length rows ≡ parts.slots
  pub bits : length alive ≡ parts.slots
  pub shapes : (r : ℕ) → r < length rows → length (row_at r rows) ≡ length parts.columns
  pub existence : HoldsBits (told (existence_of place)) alive
  pub columns : (c : ℕ) → c < length parts.columns → Stands (fp_at place parts c) told (column_of c rows)
  pub forms : (c : ℕ) → c < length parts.columns → (part_at c parts.columns).form ≡ code_width (part_at c parts.columns).distinct

-- each object of the place has the same pages in both
abbrev pub SameOwnObjects : ℕ → (ℕ → Option Pages) → (ℕ → Option Pages) → Type 0
SameOwnObjects place told told' = (object : ℕ) → object / 256 ≡ place → told' object ≡ told object

-- each object of the one place has the pages of its counterpart of the other
abbrev pub SameObjectsAt : ℕ → (ℕ → Option Pages) → ℕ → (ℕ → Option Pages) → Type 0
SameObjectsAt place told place' told' = (k : ℕ) → k < 256 → told' (256 * place' + k) ≡ told (256 * place + k)

-- whatever rows the table stood for, it stands for more behind them afterwards, all of them there
abbrev pub StandsForMore : Table → Table → List (List Value) → (ℕ → Option Pages) → (ℕ → Option Pages) → Type 0
StandsForMore old new more before after = (rows : List (List Value)) (alive : List Bool) → TableStands before old.place old.parts rows alive
    → TableStands after new.place new.parts (rows ++ more) (alive ++ replicate (length more) true)

-- whatever rows the table stood for, it stands for them afterwards, without those that were found among the ones that are there
abbrev pub StandsWithout : Table → List Bool → (ℕ → Option Pages) → (ℕ → Option Pages) → Type 0
StandsWithout table found before after = (rows : List (List Value)) (alive : List Bool) → TableStands before table.place table.parts rows alive
    → TableStands after table.place table.parts rows (difference alive found)

-- which rows are there, whatever rows the table stands for
abbrev pub GivesAlive : Table → (ℕ → Option Pages) → List Bool → Type 0
GivesAlive table told got = (rows : List (List Value)) (alive : List Bool) → TableStands told table.place table.parts rows alive → got ≡ alive

-- the values of a row in some columns
abbrev pub values_at : List ℕ → List Value → List Value
values_at columns row = map (λ (c : ℕ). value_at c row) columns

-- the rows that are set, in order, and of each the values in some columns, whatever rows the table stands for
abbrev pub GivesRows : Table → (ℕ → Option Pages) → List Bool → List ℕ → List (List Value) → Type 0
GivesRows table told set columns got = (rows : List (List Value)) (alive : List Bool) → TableStands told table.place table.parts rows alive
    → got ≡ map (λ (r : ℕ). values_at columns (row_at r rows)) (rows_from 0 set)

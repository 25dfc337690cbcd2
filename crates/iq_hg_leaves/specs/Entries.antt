-- Entries of an index: values of a column, each with a row that has it.
use Rattle.std.specs.Prelude.{◌≡◌, ◌≢◌, ◌<◌, ℕ, ◌+◌, ◌-◌, ◌^◌, List, [], ◌∷◌, ◌++◌, length, take, drop, slice_index_or, if◌then◌else◌}
use Rattle.std.specs.List.{All}
use Rattle.iq_base.specs.declared.values.Kind.{Kind}
use Rattle.iq_base.specs.declared.values.Value.{Value}
use Rattle.iq_base.specs.declared.values.Value.TheVariants.{Null}
use Rattle.iq_base.specs.Cells.{IsOf, IsText}
use Rattle.iq_truth.specs.Comparisons.{is_null}
use Rattle.iq_cells.specs.Packed.{Column}
use Rattle.iq_hg_leaves.specs.declared.entries.Entry.{Entry}

-- entries, and the kind of the column
pub record EntryList : Type 0 where
  pub kind : Kind
  pub entries : List Entry

-- an entry of a column of the kind; its value isn't NULL
pub record IsEntry (kind : Kind) (entry : Entry) : Type 0 where
  pub of_kind : IsOf kind entry.value
  pub utf8 : IsText entry.value
  pub filled : entry.value ≢ Null
  pub small : entry.row < 2 ^ 32

-- values and rows, side by side
abbrev pub joined : List Value → List ℕ → List Entry
joined [] rows = []
joined (value ∷ values) [] = []
joined (value ∷ values) (row ∷ rows) = (record { value = value; row = row }) ∷ joined values rows

-- the entries that a column and as many rows are
abbrev pub entries_in : Column → List ℕ → EntryList
entries_in column rows = record { kind = column.kind; entries = joined column.values rows }

-- as many values as rows, which are entries
pub record AreJoined (column : Column) (rows : List ℕ) : Type 0 where
  pub long : length column.values ≡ length rows
  pub each : All (IsEntry column.kind) (joined column.values rows)

-- an entry of a list; past its end, any
abbrev pub entry_at : ℕ → List Entry → Entry
entry_at i entries = slice_index_or entries i (record { value = Null; row = 0 })

-- the entries of a list from one on up to another
abbrev pub between : ℕ → ℕ → List Entry → List Entry
between from to entries = take (to - from) (drop from entries)

-- entries with one more at their end
abbrev pub with_entry : EntryList → Entry → EntryList
with_entry list entry = record list { entries = list.entries ++ entry ∷ [] }

-- the entries of values that stand in rows from one on: one for each that isn't NULL
abbrev pub entries_from : ℕ → List Value → List Entry
entries_from row [] = []
entries_from row (value ∷ values) =
    if is_null value then entries_from (row + 1) values else ((record { value = value; row = row }) ∷ entries_from (row + 1) values)

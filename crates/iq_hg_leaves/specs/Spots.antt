-- Places of a column that hold values.
use Rattle.std.specs.Prelude.{◌≡◌, ℕ, List, map}
use Rattle.std.specs.List.{All}
use Rattle.iq_cells.specs.Packed.{Column, value_at}
use Rattle.iq_hg_leaves.specs.declared.entries.Entry.{Entry}
use Rattle.iq_hg_leaves.specs.declared.spots.Spot.{Spot}
use Rattle.iq_hg_leaves.specs.Entries.{entries_from}

-- the entry that a place is
abbrev pub entry_of : Spot → Entry
entry_of spot = record { value = value_at spot.place spot.cells.now.values; row = spot.row }

-- the places of a column that hold values, the first of which is that of a row
pub record AreSpotsOf (column : Column) (first : ℕ) (spots : List Spot) : Type 0 where
  pub all : map entry_of spots ≡ entries_from first column.values
  pub same : All (λ (spot : Spot). spot.cells.now.kind ≡ column.kind) spots

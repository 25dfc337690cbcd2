-- Cells that lie one behind the other in a list of bytes, and the values that they are the cells of.
use Rattle.std.specs.Prelude.{◌≡◌, ◌<◌, ℕ, ◌+◌, ◌*◌, ◌/◌, List, ◌++◌, length, take, drop, map, nat_eq, slice_index, slice_index_or, if◌then◌else◌}
use Rattle.std.specs.List.{range_with_len}
use Rattle.std.specs.Int.{w32, w64, cast_signed, from_le_bytes}
use Rattle.iq_base.specs.declared.sizes.TheConstants.{PAGE_BYTES}
use Rattle.iq_base.specs.declared.values.Kind.{Kind}
use Rattle.iq_base.specs.declared.values.Kind.TheVariants as kinds
use Rattle.iq_base.specs.declared.values.Value.{Value}
use Rattle.iq_base.specs.declared.values.Value.TheVariants as values
use Rattle.iq_base.specs.Cells.{width, IsOf, IsCell}
use Rattle.iq_cells.specs.Pieces.{piece_in}

-- the values of a column, and what it may hold beside NULL
pub record Column : Type 0 where
  pub kind : Kind
  pub values : List Value

-- the value whose cell begins with 1, by the bytes behind the 1
abbrev pub filled_value : Kind → List ℕ → Value
filled_value kinds.Int bytes = values.Int (cast_signed w32 (from_le_bytes w32 bytes))
filled_value kinds.Big bytes = values.Int (cast_signed w64 (from_le_bytes w64 bytes))
filled_value (kinds.Varchar n) bytes = values.Text (take (slice_index bytes 0) (drop 1 bytes))

-- the value of a cell; of bytes that are no cell, some value
unfoldable pub value_of_cell : Kind → List ℕ → Value
value_of_cell kind bytes = if nat_eq (slice_index bytes 0) 0 then values.Null else filled_value kind (drop 1 bytes)

-- how many cells of a column a page has
abbrev pub per_page : Kind → ℕ
per_page kind = PAGE_BYTES / width kind

-- cell i of a list of bytes
abbrev pub cell_in : Kind → List ℕ → ℕ → List ℕ
cell_in kind bytes i = piece_in (width kind) bytes i

-- the values of the first n cells
unfoldable pub values_in : Kind → List ℕ → ℕ → List Value
values_in kind bytes n = map (λ i. value_of_cell kind (cell_in kind bytes i)) (range_with_len 0 n)

-- the column that n cells are
abbrev pub column_in : Kind → List ℕ → ℕ → Column
column_in kind bytes n = record { kind = kind; values = values_in kind bytes n }

-- a value of a list, or NULL past its end
abbrev pub value_at : ℕ → List Value → Value
value_at i vs = slice_index_or vs i values.Null

-- a column with more values at its end
abbrev pub with_more : Column → List Value → Column
with_more column more = record column { values = column.values ++ more }

-- the first values of a column
abbrev pub first_values : ℕ → Column → Column
first_values n column = record column { values = take n column.values }

-- a column of the kind may hold each of the values
abbrev pub AreOf : Kind → List Value → Type 0
AreOf kind vs = (i : ℕ) → i < length vs → IsOf kind (value_at i vs)

-- the first n are cells of values of the kind
abbrev pub AreCells : Kind → List ℕ → ℕ → Type 0
AreCells kind bytes n =
    (i : ℕ) → i < n → IsCell kind (value_of_cell kind (cell_in kind bytes i)) (cell_in kind bytes i)

-- the bytes are n cells, and no more
pub record ArePacked (kind : Kind) (bytes : List ℕ) (n : ℕ) : Type 0 where
  pub whole : length bytes ≡ n * width kind
  pub cells : AreCells kind bytes n

-- n cells of a page, from this first one on, are those of the values from one on
abbrev pub HoldsValues : Kind → List Value → ℕ → ℕ → List ℕ → ℕ → Type 0
HoldsValues kind vs from n page first =
    (k : ℕ) → k < n → IsCell kind (value_at (from + k) vs) (cell_in kind page (first + k))

-- n cells of a page, from this first one on, are those of the bytes from one on
abbrev pub CopiesCells : Kind → List ℕ → ℕ → ℕ → List ℕ → ℕ → Type 0
CopiesCells kind bytes from n page first =
    (k : ℕ) → k < n → cell_in kind page (first + k) ≡ cell_in kind bytes (from + k)

-- the cells of a page before this first one stay
abbrev pub KeepsCells : Kind → ℕ → List ℕ → List ℕ → Type 0
KeepsCells kind first page page' = (j : ℕ) → j < first → cell_in kind page' j ≡ cell_in kind page j

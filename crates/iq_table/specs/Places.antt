-- The numbers of a table's objects, and its columns as its descriptor has them.
use Rattle.std.specs.Prelude.{ℕ, ◌+◌, ◌*◌, true, List, [], map, slice_index_or}
use Rattle.iq_base.specs.declared.values.Kind.{Kind}
use Rattle.iq_base.specs.declared.values.Kind.TheVariants.{Int}
use Rattle.iq_base.specs.declared.schemas.Column.{Column}
use Rattle.iq_base.specs.declared.refs.Ref.{Ref}
use Rattle.iq_base.specs.declared.descriptors.ColumnPart.{ColumnPart}
use Rattle.iq_base.specs.declared.descriptors.Descriptor.{Descriptor}
use Rattle.iq_fp.specs.declared.fp.Fp.{Fp}

-- the object of the rows that are there, for the table at a place among the tables
abbrev pub existence_of : ℕ → ℕ
existence_of place = 256 * place

-- the object of a column's codes
abbrev pub codes_of : ℕ → ℕ → ℕ
codes_of place c = 256 * place + 1 + 2 * c

-- the object of a column's distinct values
abbrev pub values_of : ℕ → ℕ → ℕ
values_of place c = 256 * place + 2 + 2 * c

-- an object without pages
abbrev pub no_ref : Ref
no_ref = record { root = 0; pages = 0 }

-- a column of a table without rows
abbrev pub new_part : Column → ColumnPart
new_part column = record { name = column.name; kind = column.kind; null = column.null; form = 1; distinct = 0; cells = no_ref; values = no_ref }

-- a column as statements know it
abbrev pub as_column : ColumnPart → Column
as_column part = record { name = part.name; kind = part.kind; null = part.null }

-- a column of a list, or one without a name past its end
abbrev pub part_at : ℕ → List ColumnPart → ColumnPart
part_at c parts = slice_index_or parts c (new_part (record { name = []; kind = Int; null = true }))

-- what columns may hold
abbrev pub part_kinds : List ColumnPart → List Kind
part_kinds parts = map (λ (part : ColumnPart). part.kind) parts

-- what some of them may hold, in the order in which they are named
abbrev pub kinds_at : List ColumnPart → List ℕ → List Kind
kinds_at parts columns = map (λ (c : ℕ). (part_at c parts).kind) columns

-- column c of a table of so many slots, as its pages keep it
abbrev pub fp_of : ℕ → ℕ → ℕ → ColumnPart → Fp
fp_of place slots c part = record { codes = codes_of place c; values = values_of place c; kind = part.kind; slots = slots; distinct = part.distinct }

-- a column of the table at a place
abbrev pub fp_at : ℕ → Descriptor → ℕ → Fp
fp_at place parts c = fp_of place parts.slots c (part_at c parts.columns)

-- How many pages the objects of a table have for its slots. A row's bit stands in one of the chunks of 8,064 rows, of one page each.
use Rattle.std.specs.Prelude.{ℕ, ◌+◌, ◌-◌, ◌*◌, ◌/◌, Bool, true, false, ◌&&◌, List, [], ◌∷◌, nat_eq, if◌then◌else◌, Option, Some, None, slice_get}
use Rattle.iq_base.specs.Cells.{width}
use Rattle.iq_base.specs.declared.values.Kind.{Kind}
use Rattle.iq_base.specs.declared.values.Kind.TheVariants.{Int, Big, Varchar}
use Rattle.iq_base.specs.declared.schemas.IndexKind.{IndexKind}
use Rattle.iq_base.specs.declared.schemas.IndexKind.TheVariants.{Lf, Hg, Hng, Cmp}
use Rattle.iq_base.specs.declared.descriptors.ColumnPart.{ColumnPart}
use Rattle.iq_base.specs.declared.descriptors.IndexPart.{IndexPart}
use Rattle.iq_base.specs.declared.descriptors.Descriptor.{Descriptor}

-- how many pages hold so many items, of which so many fit into one
abbrev pub pages_for : ℕ → ℕ → ℕ
pages_for items room = (items + (room - 1)) / room

-- how many pages have a bit for each slot
abbrev pub chunks : ℕ → ℕ
chunks slots = pages_for slots 8064

-- how many cells a page has
abbrev pub cells_a_page : Kind → ℕ
cells_a_page kind = 1008 / width kind

-- how many codes of so many bytes a page has
abbrev pub codes_a_page : ℕ → ℕ
codes_a_page form = if nat_eq form 1 then 1008 else (if nat_eq form 2 then 504 else 336)

-- a column: a code for each slot, and its distinct values
abbrev pub column_fits : ℕ → ColumnPart → Bool
column_fits slots c =
    nat_eq c.cells.pages (pages_for slots (codes_a_page c.form)) && nat_eq c.values.pages (pages_for c.distinct (cells_a_page c.kind))

-- LF: its values, and 33 numbers a value; how many bitmaps it has, its slots don't tell
abbrev pub low_fast_fits : Kind → IndexPart → Bool
low_fast_fits kind i =
    nat_eq i.first.pages (pages_for i.distinct (cells_a_page kind)) && nat_eq i.second.pages (pages_for (33 * i.distinct) 252)

-- HG: a directory of its leaves; how many leaves it has, its slots don't tell
abbrev pub high_group_fits : Kind → IndexPart → Bool
high_group_fits kind i =
    nat_eq i.second.pages (pages_for i.first.pages (1004 / (width kind + 8))) && nat_eq i.third.pages 0

-- HNG: for each chunk one page, and one for each bit of a number; no text has one
abbrev pub high_non_group_fits : ℕ → Kind → IndexPart → Bool
high_non_group_fits slots Int i = nat_eq i.first.pages (33 * chunks slots) && nat_eq i.second.pages 0 && nat_eq i.third.pages 0
high_non_group_fits slots Big i = nat_eq i.first.pages (65 * chunks slots) && nat_eq i.second.pages 0 && nat_eq i.third.pages 0
high_non_group_fits slots (Varchar n) i = false

-- two columns hold the same
abbrev pub same_kind : Kind → Kind → Bool
same_kind Int Int = true
same_kind Int Big = false
same_kind Int (Varchar n) = false
same_kind Big Int = false
same_kind Big Big = true
same_kind Big (Varchar n) = false
same_kind (Varchar m) Int = false
same_kind (Varchar m) Big = false
same_kind (Varchar m) (Varchar n) = nat_eq m n

-- CMP: for each chunk three pages; its two columns hold the same
abbrev pub compare_fits : ℕ → Kind → Option Kind → IndexPart → Bool
compare_fits slots kind None i = false
compare_fits slots kind (Some second) i =
    same_kind kind second && nat_eq i.first.pages (3 * chunks slots) && nat_eq i.second.pages 0 && nat_eq i.third.pages 0

-- what a column holds, and the second column of an index, if there are such columns
abbrev pub kind_in : Option ColumnPart → Option Kind
kind_in None = None
kind_in (Some c) = Some c.kind

abbrev pub second_kind : List ColumnPart → Option ℕ → Option Kind
second_kind cs None = None
second_kind cs (Some k) = kind_in (slice_get cs k)

-- an index, by what its columns hold
abbrev pub parts_fit : ℕ → IndexKind → Kind → Option Kind → IndexPart → Bool
parts_fit slots Lf kind second i = low_fast_fits kind i
parts_fit slots Hg kind second i = high_group_fits kind i
parts_fit slots Hng kind second i = high_non_group_fits slots kind i
parts_fit slots Cmp kind second i = compare_fits slots kind second i

abbrev pub index_fits_in : ℕ → Option Kind → Option Kind → IndexPart → Bool
index_fits_in slots None second i = false
index_fits_in slots (Some kind) second i = parts_fit slots i.spec.kind kind second i

abbrev pub index_fits : ℕ → List ColumnPart → IndexPart → Bool
index_fits slots cs i = index_fits_in slots (kind_in (slice_get cs i.spec.column)) (second_kind cs i.spec.second) i

abbrev pub columns_fit : ℕ → List ColumnPart → Bool
columns_fit slots [] = true
columns_fit slots (c ∷ cs) = column_fits slots c && columns_fit slots cs

abbrev pub indexes_fit : ℕ → List ColumnPart → List IndexPart → Bool
indexes_fit slots cs [] = true
indexes_fit slots cs (i ∷ is) = index_fits slots cs i && indexes_fit slots cs is

-- each object of a table has the pages that its slots and its distinct values ask for
abbrev pub fits_slots : Descriptor → Bool
fits_slots t = nat_eq t.existence.pages (chunks t.slots) && columns_fit t.slots t.columns && indexes_fit t.slots t.columns t.indexes

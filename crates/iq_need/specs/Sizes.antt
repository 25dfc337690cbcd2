-- How many blocks a table takes at most, by its columns, its indexes and its slots.
use Rattle.std.specs.Prelude.{ℕ, ◌+◌, ◌-◌, ◌*◌, ◌/◌, min, nat_le, nat_eq, if◌then◌else◌}
use Rattle.iq_base.specs.Cells.{width}
use Rattle.iq_base.specs.declared.schemas.Column.{Column}
use Rattle.iq_base.specs.declared.schemas.IndexKind.{IndexKind}
use Rattle.iq_base.specs.declared.schemas.IndexKind.TheVariants as index_kinds
use Rattle.iq_base.specs.declared.values.Kind.{Kind}
use Rattle.iq_base.specs.declared.values.Kind.TheVariants as kinds
use Rattle.iq_cells.specs.Packed.{per_page}

-- how many pages n things take, so many of them a page
abbrev pub pages_of : ℕ → ℕ → ℕ
pages_of n per = (n + (per - 1)) / per

-- how many places a map has; how many rows a page of a bitmap has
abbrev pub map_places : ℕ
map_places = 252

abbrev pub chunk_rows : ℕ
chunk_rows = 8064

-- the maps of an object of so many pages: none, one, or one above those that are full
abbrev pub maps_of : ℕ → ℕ
maps_of pages = if nat_eq pages 0 then 0 else (if nat_le pages map_places then 1 else 1 + pages_of pages map_places)

-- the blocks of an object of so many pages
abbrev pub object_blocks : ℕ → ℕ
object_blocks pages = pages + maps_of pages

-- the chunks of a table of n slots
abbrev pub chunks : ℕ → ℕ
chunks n = pages_of n chunk_rows

-- a column's two objects: as many pages of cells for codes as for values
abbrev pub column_blocks : ℕ → Column → ℕ
column_blocks n column = 2 * object_blocks (pages_of n (per_page column.kind))

-- INDEXES

-- Low Fast: its distinct values, a number for each of them and each chunk, and a bitmap for each of these
abbrev pub low_fast_blocks : ℕ → ℕ → Kind → ℕ
low_fast_blocks distinct n kind =
    object_blocks (pages_of distinct (per_page kind)) + object_blocks (pages_of (33 * distinct) map_places) + object_blocks (distinct * chunks n)

-- the fewest entries of a leaf where there are several, and the first entries that a page of the directory has
abbrev pub leaf_entries : Kind → ℕ
leaf_entries kind = (1000 / (width kind + 4) + 1) / 2

abbrev pub directory_entries : Kind → ℕ
directory_entries kind = 1004 / (width kind + 8)

-- High Group: leaves, and the directory of their first entries
abbrev pub leaves : ℕ → Kind → ℕ
leaves n kind = pages_of n (leaf_entries kind) + 1

abbrev pub high_group_blocks : ℕ → Kind → ℕ
high_group_blocks n kind = object_blocks (leaves n kind) + object_blocks (pages_of (leaves n kind) (directory_entries kind))

-- High Non Group: a plane for each bit of a number, and one for the rows that aren't NULL; none of texts
abbrev pub high_non_group_blocks : ℕ → Kind → ℕ
high_non_group_blocks n kinds.Int = object_blocks (33 * chunks n)
high_non_group_blocks n kinds.Big = object_blocks (65 * chunks n)
high_non_group_blocks n (kinds.Varchar most) = 0

-- Compare: less, equal and greater
abbrev pub compare_blocks : ℕ → ℕ
compare_blocks n = object_blocks (3 * chunks n)

abbrev pub index_blocks : ℕ → IndexKind → Kind → ℕ
index_blocks n index_kinds.Lf kind = low_fast_blocks (min n 1000) n kind
index_blocks n index_kinds.Hg kind = high_group_blocks n kind
index_blocks n index_kinds.Hng kind = high_non_group_blocks n kind
index_blocks n index_kinds.Cmp kind = compare_blocks n

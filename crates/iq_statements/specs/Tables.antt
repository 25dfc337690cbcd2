-- Plain tables: columns, indexes and a list of slots under a name. A database is a list of them, by ascending names.
use Rattle.std.specs.Prelude.{◌≡◌, ⊤, Bool, true, false, not, List, [], ◌∷◌, ◌++◌, Option, Some, None, filter, map, find, if◌then◌else◌}
use Rattle.std.specs.List.{list_any}
use Rattle.std.specs.Ordering.{nat_cmp, is_lt, is_gt}
use Rattle.std.specs.Cmp.Lexicographic.{slice_cmp}
use Rattle.iq_base.specs.Shorts.{Name}
use Rattle.iq_base.specs.declared.values.Value.{Value}
use Rattle.iq_base.specs.declared.schemas.Column.{Column}
use Rattle.iq_base.specs.declared.schemas.IndexKind.{IndexKind}
use Rattle.iq_base.specs.declared.schemas.IndexKind.TheVariants as kinds
use Rattle.iq_base.specs.declared.descriptors.IndexSpec.{IndexSpec}
use Rattle.iq_conditions.specs.Servers.{same_name}

-- a row that was put into a table, and whether it is still there
pub record Slot : Type 0 where
  pub row : List Value
  pub alive : Bool

-- a table: its columns in order, its indexes in order of creation, and its slots by row id
pub record Table : Type 0 where
  pub name : Name
  pub columns : List Column
  pub indexes : List IndexSpec
  pub slots : List Slot

abbrev pub Database : Type 0
Database = List Table

-- the names ascend, each below the next by its bytes
abbrev pub AreAbove : Name → Database → Type 0
AreAbove name [] = ⊤
AreAbove name (t ∷ ts) = (is_lt (slice_cmp nat_cmp name t.name) ≡ true) × AreAbove t.name ts

abbrev pub IsAscending : Database → Type 0
IsAscending [] = ⊤
IsAscending (t ∷ ts) = AreAbove t.name ts

-- CONTENT

-- the rows of a table: those of its slots that are still there, by row id
abbrev pub content : Table → List (List Value)
content t = map (λ (slot : Slot). slot.row) (filter (λ (slot : Slot). slot.alive) t.slots)

-- the rows of all its slots, those of removed ones too
abbrev pub all_rows : Table → List (List Value)
all_rows t = map (λ (slot : Slot). slot.row) t.slots

-- a table without rows and indexes
abbrev pub empty_table : Name → List Column → Table
empty_table name columns = record { name = name; columns = columns; indexes = []; slots = [] }

-- a row that is there
abbrev pub live_slot : List Value → Slot
live_slot row = record { row = row; alive = true }

-- a table with rows put at its end
abbrev pub with_rows : List (List Value) → Table → Table
with_rows rows t = record t { slots = t.slots ++ map live_slot rows }

-- INDEXES

-- whether a table has an index of this name
abbrev pub has_index : Name → Table → Bool
has_index name t = list_any (λ (index : IndexSpec). same_name index.name name) t.indexes

-- a table with an index more; a table without the index of a name
abbrev pub with_index : IndexSpec → Table → Table
with_index index t = record t { indexes = t.indexes ++ index ∷ [] }

abbrev pub without_index : Name → Table → Table
without_index name t = record t { indexes = filter (λ (index : IndexSpec). not (same_name index.name name)) t.indexes }

abbrev pub is_low_fast : IndexKind → Bool
is_low_fast kinds.Lf = true
is_low_fast kinds.Hg = false
is_low_fast kinds.Hng = false
is_low_fast kinds.Cmp = false

-- whether a table has a Low Fast index
abbrev pub has_low_fast : Table → Bool
has_low_fast t = list_any (λ (index : IndexSpec). is_low_fast index.kind) t.indexes

-- TABLES OF A DATABASE

-- the table of a name, if there is one
abbrev pub table_of : Name → Database → Option Table
table_of name db = find (λ (t : Table). same_name t.name name) db

-- the database with a table put in, before the first whose name isn't below its own
abbrev pub placed : Table → Database → Database
placed t [] = t ∷ []
placed t (u ∷ us) = if is_gt (slice_cmp nat_cmp t.name u.name) then u ∷ placed t us else t ∷ u ∷ us

-- the database with a table in place of the one of its name
abbrev pub replaced : Table → Database → Database
replaced t [] = []
replaced t (u ∷ us) = if same_name u.name t.name then t ∷ us else u ∷ replaced t us

-- the database without the table of a name
abbrev pub without_table : Name → Database → Database
without_table name db = filter (λ (t : Table). not (same_name t.name name)) db

-- the database with this table: in place of the one of its name, where there is one
abbrev pub put_over : Option Table → Table → Database → Database
put_over None t db = placed t db
put_over (Some before) t db = replaced t db

abbrev pub with_table : Table → Database → Database
with_table t db = put_over (table_of t.name db) t db

-- the database with a name's table as it is seen, or without it where it isn't seen
abbrev pub as_seen : Option Table → Name → Database → Database
as_seen None name db = without_table name db
as_seen (Some t) name db = with_table t db

-- the database with the table of a name changed
abbrev pub with_changed : (Table → Table) → Option Table → Database → Database
with_changed f None db = db
with_changed f (Some t) db = replaced (f t) db

abbrev pub on_table : Name → (Table → Table) → Database → Database
on_table name f db = with_changed f (table_of name db) db

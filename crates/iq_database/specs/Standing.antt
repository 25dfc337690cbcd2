-- When descriptors and told pages stand for a database.
use Rattle.std.specs.Prelude.{◌≡◌, ◌≤◌, ⊤, ℕ, ◌+◌, ◌-◌, ◌/◌, Bool, false, List, [], ◌∷◌, Option, Some, length, map, All, nat_lt, nat_eq, if◌then◌else◌}
use Rattle.iq_base.specs.Shorts.{Name}
use Rattle.iq_base.specs.declared.values.Value.{Value}
use Rattle.iq_base.specs.declared.descriptors.Descriptor.{Descriptor}
use Rattle.iq_base.specs.declared.descriptors.IndexPart.{IndexPart}
use Rattle.iq_base.specs.declared.descriptors.IndexSpec.{IndexSpec}
use Rattle.iq_pages.specs.Pages.{Pages}
use Rattle.iq_table.specs.Limits.{as_columns}
use Rattle.iq_table.specs.Table.{TableStands}
use Rattle.iq_conditions.specs.Servers.{same_name}
use Rattle.iq_statements.specs.Tables.{Slot, Table, Database}

-- the rows of a plain table's slots, and for which of these the row is there
abbrev pub slot_rows : Table → List (List Value)
slot_rows t = map (λ (slot : Slot). slot.row) t.slots

abbrev pub slot_bits : Table → List Bool
slot_bits t = map (λ (slot : Slot). slot.alive) t.slots

-- indexes as statements know them
abbrev pub as_indexes : List IndexPart → List IndexSpec
as_indexes indexes = map (λ (index : IndexPart). index.spec) indexes

-- a descriptor tells the name, the columns, the indexes and the number of slots of a plain table
pub record Describes (d : Descriptor) (t : Table) : Type 0 where
  pub name_is : d.name ≡ t.name
  pub columns_are : as_columns d.columns ≡ t.columns
  pub indexes_are : as_indexes d.indexes ≡ t.indexes
  pub slots_are : d.slots ≡ length t.slots

-- each of some descriptors, the first of them at a place, goes so with the table in its own place
abbrev pub Match : (ℕ → Descriptor → Table → Type 0) → ℕ → List Descriptor → Database → Type 0
Match R place [] [] = ⊤
Match R place [] (t ∷ ts) = ⊥
Match R place (d ∷ ds) [] = ⊥
Match R place (d ∷ ds) (t ∷ ts) = R place d t × Match R (place + 1) ds ts

-- descriptors tell the tables of a database, in their order
abbrev pub Describe : List Descriptor → Database → Type 0
Describe ds db = Match (λ (place : ℕ) (d : Descriptor) (t : Table). Describes d t) 0 ds db

-- the table at a place among the tables stands for a plain one: its descriptor tells it, and its pages hold its slots, removed
-- ones with them
pub record StandsAt (told : ℕ → Option Pages) (place : ℕ) (d : Descriptor) (t : Table) : Type 0 where
  pub describes : Describes d t
  pub holds : TableStands told place d (slot_rows t) (slot_bits t)

-- descriptors stand for the tables of a database in their order
abbrev pub Stand : (ℕ → Option Pages) → List Descriptor → Database → Type 0
Stand told ds db = Match (StandsAt told) 0 ds db

-- a fact of each database that the descriptors tell; of each for which they stand
abbrev pub OfDescribed : List Descriptor → (Database → Type 0) → Type 0
OfDescribed ds P = (db : Database) → Describe ds db → P db

abbrev pub OfStanding : (ℕ → Option Pages) → List Descriptor → (Database → Type 0) → Type 0
OfStanding told ds P = (db : Database) → Stand told ds db → P db

-- the same of one table at a place
abbrev pub OfTableAt : (ℕ → Option Pages) → ℕ → Descriptor → (Table → Type 0) → Type 0
OfTableAt told place d P = (t : Table) → StandsAt told place d t → P t

-- no table of this name; no name twice
abbrev pub HasNone : Name → List Descriptor → Type 0
HasNone name [] = ⊤
HasNone name (d ∷ ds) = (same_name d.name name ≡ false) × HasNone name ds

abbrev pub AreDistinct : List Descriptor → Type 0
AreDistinct [] = ⊤
AreDistinct (d ∷ ds) = HasNone d.name ds × AreDistinct ds

-- tables that a store may have: at most 64, each of at most 32 columns, no name twice
pub record AreTables (ds : List Descriptor) : Type 0 where
  pub few : length ds ≤ 64
  pub narrow : All (λ (d : Descriptor). length d.columns ≤ 32) ds
  pub distinct : AreDistinct ds

-- NUMBERS OF OBJECTS WHERE TABLES COME AND GO

-- the told pages once a table without pages comes in at a place: the objects of this place and behind it are those of the next
abbrev pub coming_at : ℕ → (ℕ → Option Pages) → ℕ → Option Pages
coming_at place told object =
    if nat_lt (object / 256) place then told object else (if nat_eq (object / 256) place then Some [] else told (object - 256))

-- once the table at a place goes: the objects behind it are those of the place before
abbrev pub going_at : ℕ → (ℕ → Option Pages) → ℕ → Option Pages
going_at place told object = if nat_lt (object / 256) place then told object else told (object + 256)

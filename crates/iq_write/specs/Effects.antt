-- What a write does to descriptors and pages, and why it doesn't.
use Rattle.std.specs.Prelude.{◌≡◌, ◌≢◌, ◌⊎◌, ⊤, ℕ, ◌/◌, List, ◌++◌, Option, Some, None, length}
use Rattle.iq_base.specs.Shorts.{Name}
use Rattle.iq_base.specs.declared.values.Value.{Value}
use Rattle.iq_base.specs.declared.schemas.Column.{Column}
use Rattle.iq_base.specs.declared.descriptors.Descriptor.{Descriptor}
use Rattle.iq_base.specs.declared.refusals.Refusal.{Refusal}
use Rattle.iq_base.specs.declared.refusals.Refusal.TheVariants as refusals
use Rattle.iq_ast.specs.declared.statements.Write.{Write}
use Rattle.iq_ast.specs.declared.statements.Write.TheVariants as writes
use Rattle.iq_pages.specs.Pages.{Pages, Seen}
use Rattle.iq_statements.specs.Checks.{Check, first_refusal}
use Rattle.iq_statements.specs.Named.{write_checks, create_checks}
use Rattle.iq_statements.specs.Room.{write_room}
use Rattle.iq_statements.specs.Tables.{Database, placed, empty_table, without_table}
use Rattle.iq_statements.specs.Effects.{effect}
use Rattle.iq_table.specs.declared.faults.TableFault.{TableFault}
use Rattle.iq_table.specs.declared.faults.TableFault.TheVariants as faults
use Rattle.iq_table.specs.Calls.{HasAppendCause}
use Rattle.iq_database.specs.Standing.{Describe, Stand, OfDescribed, coming_at, going_at}
use Rattle.iq_database.specs.LookUps.{place_from, before_from}
use Rattle.std.specs.List.{slice_get}

-- TESTS of a DROP TABLE, and of an INSERT

abbrev pub drop_checks : Name → Database → List Check
drop_checks name db = write_checks (writes.DropTable name) db

abbrev pub insert_checks : Name → List (List Value) → Database → List Check
insert_checks name rows db = write_checks (writes.Insert name rows) db

-- all tests of a write, those of the room with them
abbrev pub all_checks : Write → Database → List Check
all_checks write db = write_checks write db ++ write_room write db

-- NUMBERS OF OBJECTS

abbrev pub gone_from : Option ℕ → (ℕ → Option Pages) → ℕ → Option Pages
gone_from None told = told
gone_from (Some place) told = going_at place told

-- the told pages under the numbers that the tables' objects have after a write: those behind a table that comes or goes move by a place
abbrev pub renumbered : Write → List Descriptor → (ℕ → Option Pages) → ℕ → Option Pages
renumbered (writes.CreateTable name schema) ds told = coming_at (before_from 0 name ds) told
renumbered (writes.DropTable name) ds told = gone_from (place_from 0 name ds) told
renumbered (writes.CreateIndex name kind table column second) ds told = told
renumbered (writes.DropIndex table name) ds told = told
renumbered (writes.Insert table rows) ds told = told
renumbered (writes.Load table rows text) ds told = told
renumbered (writes.Delete table cond) ds told = told
renumbered (writes.Update table changes cond) ds told = told

-- the place in the new list of the table that a write names, if it is there
abbrev pub place_after : Write → List Descriptor → Option ℕ
place_after (writes.CreateTable name schema) ds = Some (before_from 0 name ds)
place_after (writes.DropTable name) ds = None
place_after (writes.CreateIndex name kind table column second) ds = place_from 0 table ds
place_after (writes.DropIndex table name) ds = place_from 0 table ds
place_after (writes.Insert table rows) ds = place_from 0 table ds
place_after (writes.Load table rows text) ds = place_from 0 table ds
place_after (writes.Delete table cond) ds = place_from 0 table ds
place_after (writes.Update table changes cond) ds = place_from 0 table ds

-- EFFECT

-- a write over descriptors and told pages: nothing refuses it; the new descriptors tell its effect on each database that the old ones told,
-- and with the pages, under their new numbers, stand for its effect on each for which these stood
pub record HasEffect (write : Write) (old new : List Descriptor) (told told' : ℕ → Option Pages) : Type 0 where
  pub granted : (db : Database) → Describe old db → first_refusal (all_checks write db) ≡ None
  pub tells : (db : Database) → Describe old db → Describe new (effect write db)
  pub stands : (db : Database) → Stand told old db → Stand (renumbered write old told') new (effect write db)

-- a table without rows came in; the table of a name went: of descriptors alone, whatever pages are told
pub record Creates (name : Name) (columns : List Column) (old new : List Descriptor) : Type 0 where
  pub granted : (db : Database) → Describe old db → first_refusal (create_checks name db) ≡ None
  pub tells : (db : Database) → Describe old db → Describe new (placed (empty_table name columns) db)
  pub stands : (told : ℕ → Option Pages) (db : Database) → Stand told old db → Stand (coming_at (before_from 0 name old) told) new (placed (empty_table name columns) db)

pub record Removes (name : Name) (old new : List Descriptor) : Type 0 where
  pub granted : (db : Database) → Describe old db → first_refusal (drop_checks name db) ≡ None
  pub tells : (db : Database) → Describe old db → Describe new (without_table name db)
  pub stands : (told : ℕ → Option Pages) (db : Database) → Stand told old db → Stand (gone_from (place_from 0 name old) told) new (without_table name db)

-- CAUSES

-- why rows aren't put into a table, as a line is refused
abbrev pub table_refusal : TableFault → Refusal
table_refusal (faults.Failed x y) = refusals.StoreFault x y
table_refusal (faults.BadPage object page) = refusals.BadPage object page
table_refusal faults.NoMemory = refusals.NoMemory
table_refusal (faults.TableFull limit) = refusals.TableFull limit

-- a fault of pages: the store failed, or a page isn't sound
abbrev pub IsOfPages : TableFault → Type 0
IsOfPages (faults.Failed x y) = ⊤
IsOfPages (faults.BadPage object page) = ⊤
IsOfPages faults.NoMemory = ⊥
IsOfPages (faults.TableFull limit) = ⊥

-- pages of a table aren't read or written
pub record IsUnwritten (ds : List Descriptor) (more : ℕ) (before after : Seen) (cause : Refusal) : Type 0 where
  pub fault : TableFault
  pub of_pages : IsOfPages fault
  pub cause_is : cause ≡ table_refusal fault
  pub place : ℕ
  pub table : Descriptor
  pub there : slice_get ds place ≡ Some table
  pub why : HasAppendCause (record { place = place; parts = table }) more before after fault

-- how many rows a write puts in
abbrev pub rows_in : Write → ℕ
rows_in (writes.CreateTable name schema) = 0
rows_in (writes.DropTable name) = 0
rows_in (writes.CreateIndex name kind table column second) = 0
rows_in (writes.DropIndex table name) = 0
rows_in (writes.Insert table rows) = length rows
rows_in (writes.Load table rows text) = 0
rows_in (writes.Delete table cond) = 0
rows_in (writes.Update table changes cond) = 0

-- why a write isn't run: its tests find it, over each database that the descriptors tell; pages of its table aren't read or written; or
-- memory wants
abbrev pub HasWriteCause : List Descriptor → Write → Seen → Seen → Refusal → Type 0
HasWriteCause ds write before after cause =
    OfDescribed ds (λ db. first_refusal (all_checks write db) ≡ Some cause) ⊎ IsUnwritten ds (rows_in write) before after cause ⊎ (cause ≡ refusals.NoMemory)

-- only the named table's objects change
pub record KeepsOtherTables (place : Option ℕ) (before after : Seen) : Type 0 where
  pub told : (object : ℕ) → Some (object / 256) ≢ place → after.told object ≡ before.told object
  pub counts : (object : ℕ) → Some (object / 256) ≢ place → after.counts object ≡ before.counts object

-- the table that a write changes pages of
abbrev pub changed_place : Write → List Descriptor → Option ℕ
changed_place (writes.CreateTable name schema) ds = None
changed_place (writes.DropTable name) ds = None
changed_place (writes.CreateIndex name kind table column second) ds = place_from 0 table ds
changed_place (writes.DropIndex table name) ds = None
changed_place (writes.Insert table rows) ds = place_from 0 table ds
changed_place (writes.Load table rows text) ds = place_from 0 table ds
changed_place (writes.Delete table cond) ds = place_from 0 table ds
changed_place (writes.Update table changes cond) ds = place_from 0 table ds

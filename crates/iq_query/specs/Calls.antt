-- What a query reads, and why it isn't answered.
use Rattle.std.specs.Prelude.{◌≡◌, ◌<◌, ◌⊎◌, ⊤, ℕ, ◌+◌, pos, Bool, true, false, ◌&&◌, List, [], ◌∷◌, Option, Some, None, length, slice_index, filter}
use Rattle.std.specs.List.{filter_map, slice_get}
use Rattle.std.specs.Option.{option_and_then, option_or}
use Rattle.iq_base.specs.declared.refusals.Refusal.{Refusal}
use Rattle.iq_base.specs.declared.refusals.Refusal.TheVariants as refusals
use Rattle.iq_base.specs.declared.schemas.Column.{Column}
use Rattle.iq_base.specs.declared.descriptors.Descriptor.{Descriptor}
use Rattle.iq_ast.specs.declared.conditions.Test.{Test}
use Rattle.iq_ast.specs.declared.conditions.Cond.{Cond}
use Rattle.iq_ast.specs.declared.conditions.Cond as conds
use Rattle.iq_ast.specs.declared.statements.Item.{Item}
use Rattle.iq_ast.specs.declared.statements.Item.TheVariants as members
use Rattle.iq_base.specs.declared.values.Value.{Value}
use Rattle.iq_model.specs.declared.answers.Out.{Out}
use Rattle.iq_model.specs.declared.answers.Out.TheVariants as outs
use Rattle.iq_ast.specs.declared.statements.Select.{Select}
use Rattle.iq_pages.specs.declared.page_faults.PageFault.{PageFault}
use Rattle.iq_pages.specs.declared.page_faults.PageFault.TheVariants as pages
use Rattle.iq_pages.specs.Pages.{Seen}
use Rattle.iq_chunks.specs.Chunks.{chunks_for}
use Rattle.iq_table.specs.Limits.{as_columns}
use Rattle.iq_table.specs.Calls.{pages_of_columns}
use Rattle.iq_conditions.specs.Conditions.{test_names}
use Rattle.iq_conditions.specs.Servers.{column_place}
use Rattle.iq_statements.specs.Checks.{first_refusal, first_found}
use Rattle.iq_statements.specs.Fits.{test_mismatch}
use Rattle.iq_statements.specs.Named.{item_column, members_of, no_column, query_checks}
use Rattle.iq_statements.specs.Rows.{value_named}
use Rattle.iq_statements.specs.Tables.{Slot, Table, content}
use Rattle.iq_truth.specs.declared.truth.Side.TheVariants as sides
use Rattle.iq_truth.specs.Sides.{is_on}
use Rattle.iq_truth.specs.Tests.{test_truth}
use Rattle.iq_predicate.specs.Found.{AreNamed}
use Rattle.iq_predicate.specs.Calls.{pages_tested, HasTableCause}
use Rattle.iq_table.specs.declared.table.Table.{Table as StoredTable}
use Rattle.iq_database.specs.Standing.{OfDescribed}
use Rattle.iq_database.specs.LookUps.{place_from}

-- ROWS

-- whether a list asks for the number of rows alone
abbrev pub counts_rows : List Item → Bool
counts_rows [] = false
counts_rows (item ∷ items) = counts_first item items
  where
    counts_first : Item → List Item → Bool
    counts_first members.CountAll [] = true
    counts_first members.CountAll (next ∷ more) = false
    counts_first (members.Plain name) more = false
    counts_first (members.Count name) more = false
    counts_first (members.Sum name) more = false
    counts_first (members.Min name) more = false
    counts_first (members.Max name) more = false

-- the one test of a condition, if it is one
abbrev pub test_in : Option Cond → Option Test
test_in None = None
test_in (Some (conds.Test test)) = Some test
test_in (Some (conds.Not' shape members)) = None
test_in (Some (conds.And' shape members)) = None
test_in (Some (conds.Or' shape members)) = None

-- whether a row is kept: where there is a test, that it is true of the row
abbrev pub is_kept : List Column → Option Test → List Value → Bool
is_kept columns None row = true
is_kept columns (Some test) row = is_on sides.True (test_truth (value_named columns row) test)

-- the rows of a table that are kept
abbrev pub chosen : Option Test → Table → List (List Value)
chosen test t = filter (is_kept t.columns test) (content t)

-- whether the row of a slot is there and kept
abbrev pub is_chosen : List Column → Option Test → Slot → Bool
is_chosen columns test slot = is_kept columns test slot.row && slot.alive

-- the one row that answers it
abbrev pub counted_rows : List (List Value) → List (List Out)
counted_rows rows = (outs.Int (pos (length rows)) ∷ []) ∷ []

-- READS

-- the place of the column that a member names, if it names one
abbrev pub item_place : List Column → Item → Option ℕ
item_place columns item = option_and_then (column_place columns) (item_column item)

-- the places of the columns that a query answers, in the order of its list
abbrev pub places_of : List Column → List Item → List ℕ
places_of columns members = filter_map (item_place columns) (members_of columns members)

-- places of some columns
abbrev pub AreWithin : ℕ → List ℕ → Type 0
AreWithin count places = (i : ℕ) → i < length places → slice_index places i < count

-- how many pages a test reads, if there is one
abbrev pub pages_of_test : StoredTable → List Column → Option Test → ℕ
pages_of_test table columns None = 0
pages_of_test table columns (Some test) = pages_tested table columns test

-- how many pages a query over the table at a place needs: those of existence, of each column that it tests and of each that it answers
abbrev pub pages_at : Select → ℕ → Option Descriptor → ℕ
pages_at select place None = 0
pages_at select place (Some d) =
    chunks_for d.slots + pages_of_test (record { place = place; parts = d }) (as_columns d.columns) (test_in select.cond)
    + pages_of_columns (record { place = place; parts = d }) (places_of (as_columns d.columns) select.items)

-- what refuses a test of a table, if there is one: a name that is no column, or numbers beside texts
abbrev pub test_refusal : List Column → Option Test → Option Refusal
test_refusal columns None = None
test_refusal columns (Some test) = option_or (first_found (no_column columns) (test_names test)) (test_mismatch columns test)

-- each column that a test names is there
abbrev pub AreTested : List Column → Option Test → Type 0
AreTested columns None = ⊤
AreTested columns (Some test) = AreNamed columns test

abbrev pub pages_found : Select → List Descriptor → Option ℕ → ℕ
pages_found select ds None = 0
pages_found select ds (Some place) = pages_at select place (slice_get ds place)

-- how many pages a query needs
abbrev pub pages_needed : List Descriptor → Select → ℕ
pages_needed ds select = pages_found select ds (place_from 0 select.table ds)

-- CAUSES

-- why pages aren't read, as a line is refused
abbrev pub page_refusal : PageFault → Refusal
page_refusal (pages.Failed x y) = refusals.StoreFault x y
page_refusal (pages.BadPage object page) = refusals.BadPage object page
page_refusal pages.NoMemory = refusals.NoMemory

-- pages of a table aren't read
pub record IsUnread (place : ℕ) (d : Descriptor) (before after : Seen) (cause : Refusal) : Type 0 where
  pub fault : PageFault
  pub cause_is : cause ≡ page_refusal fault
  pub why : HasTableCause place d before after fault

-- the same of one of some tables
pub record IsUnreadOf (ds : List Descriptor) (before after : Seen) (cause : Refusal) : Type 0 where
  pub place : ℕ
  pub table : Descriptor
  pub there : slice_get ds place ≡ Some table
  pub unread : IsUnread place table before after cause

-- why a query isn't answered: its tests find it, over every database that the descriptors tell; or pages aren't read, or memory wants
abbrev pub HasQueryCause : List Descriptor → Select → Seen → Seen → Refusal → Type 0
HasQueryCause ds select before after cause =
    OfDescribed ds (λ db. first_refusal (query_checks select db) ≡ Some cause) ⊎ IsUnreadOf ds before after cause ⊎ (cause ≡ refusals.NoMemory)

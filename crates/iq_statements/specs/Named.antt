-- The tests of what a statement names, and of the values that it gives: they need the tables seen, and no lock.
use Rattle.std.specs.Prelude.{ℕ, ◌+◌, Bool, true, false, not, ◌||◌, List, [], ◌∷◌, ◌++◌, Option, Some, None, map, length, nat_le, is_none, is_some, if◌then◌else◌}
use Rattle.std.specs.List.{list_any, filter_map}
use Rattle.std.specs.Option.{option_or}
use Rattle.iq_base.specs.Shorts.{Name}
use Rattle.iq_base.specs.declared.limits.TheConstants.{MOST_TABLES}
use Rattle.iq_base.specs.declared.values.Value.{Value}
use Rattle.iq_base.specs.declared.schemas.Column.{Column}
use Rattle.iq_base.specs.declared.refusals.Refusal.{Refusal}
use Rattle.iq_base.specs.declared.refusals.Refusal.TheVariants as refusals
use Rattle.iq_ast.specs.declared.conditions.Cond.{Cond}
use Rattle.iq_ast.specs.declared.conditions.Test.{Test}
use Rattle.iq_ast.specs.declared.statements.Change.{Change}
use Rattle.iq_ast.specs.declared.statements.Item.{Item}
use Rattle.iq_ast.specs.declared.statements.Item.TheVariants as items
use Rattle.iq_ast.specs.declared.statements.Order.{Order}
use Rattle.iq_ast.specs.declared.statements.Select.{Select}
use Rattle.iq_ast.specs.declared.statements.Write.{Write}
use Rattle.iq_ast.specs.declared.statements.Write.TheVariants as writes
use Rattle.iq_cells.specs.declared.fields.BadField.{BadField}
use Rattle.iq_cells.specs.Fields.{first_bad_field}
use Rattle.iq_conditions.specs.Conditions.{cond_names, tests_of}
use Rattle.iq_conditions.specs.Servers.{same_name, column_place}
use Rattle.iq_statements.specs.Checks.{Check, found_if, first_found}
use Rattle.iq_statements.specs.Tables.{Table, Database, table_of, has_index}
use Rattle.iq_statements.specs.Fits.{test_mismatch, item_mismatch, change_refusal}

-- how many indexes a table can have
abbrev pub most_indexes : ℕ
most_indexes = 32

-- NAMES, in text order

-- the column that a member of a SELECT's list names, if it names one
abbrev pub item_column : Item → Option Name
item_column (items.Plain name) = Some name
item_column items.CountAll = None
item_column (items.Count name) = Some name
item_column (items.Sum name) = Some name
item_column (items.Min name) = Some name
item_column (items.Max name) = Some name

abbrev pub names_in : Option Cond → List Name
names_in None = []
names_in (Some cond) = cond_names cond

abbrev pub tests_in : Option Cond → List Test
tests_in None = []
tests_in (Some cond) = tests_of cond

-- the columns that a query names: in its list, in WHERE, in GROUP BY, in ORDER BY
abbrev pub select_names : Select → List Name
select_names select =
    filter_map item_column select.items ++ names_in select.cond ++ select.group ++ map (λ (order : Order). order.column) select.order

-- the refusal of a name that is no column
abbrev pub no_column : List Column → Name → Option Refusal
no_column columns name = found_if (is_none (column_place columns name)) (refusals.NoColumn name)

-- GROUPING

abbrev pub is_aggregate : Item → Bool
is_aggregate (items.Plain name) = false
is_aggregate items.CountAll = true
is_aggregate (items.Count name) = true
is_aggregate (items.Sum name) = true
is_aggregate (items.Min name) = true
is_aggregate (items.Max name) = true

-- whether a query answers groups: it has an aggregate, or GROUP BY
abbrev pub has_names : List Name → Bool
has_names [] = false
has_names (name ∷ names) = true

abbrev pub is_grouped : Select → Bool
is_grouped select = list_any is_aggregate select.items || has_names select.group

-- the members of a query's list; without any it is *, which is all columns in order
abbrev pub members_of : List Column → List Item → List Item
members_of columns [] = map (λ (column : Column). items.Plain column.name) columns
members_of columns (item ∷ items) = item ∷ items

abbrev pub plain_name : Item → Option Name
plain_name (items.Plain name) = Some name
plain_name items.CountAll = None
plain_name (items.Count name) = None
plain_name (items.Sum name) = None
plain_name (items.Min name) = None
plain_name (items.Max name) = None

-- the refusal of a column that is answered or ordered by, and isn't one of those that are grouped by
abbrev pub not_in : List Name → Name → Option Refusal
not_in group name = found_if (not (list_any (λ (n : Name). same_name n name) group)) (refusals.NotGrouped name)

abbrev pub not_grouped : List Column → Select → Option Refusal
not_grouped columns select =
    if is_grouped select then
    first_found (not_in select.group)
    (filter_map plain_name (members_of columns select.items) ++ map (λ (order : Order). order.column) select.order)
    else None

-- ROWS OF AN INSERT

-- the refusal of a row, rows counted from 1; field 0 is a wrong number of fields
abbrev pub bad_row : ℕ → Option BadField → Option Refusal
bad_row row None = None
bad_row row (Some bad) = Some (refusals.BadRow row bad.field bad.cause)

-- the first bad row, where rows are counted from this one on
abbrev pub first_bad_row : ℕ → List Column → List (List Value) → Option Refusal
first_bad_row row columns [] = None
first_bad_row row columns (fields ∷ rows) = option_or (bad_row row (first_bad_field columns fields)) (first_bad_row (row + 1) columns rows)

-- TESTS OF EACH STATEMENT

-- a test of names, and one of types and values
abbrev pub named : Option Refusal → Check
named found = record { order = 5; found = found }

abbrev pub fitting : Option Refusal → Check
fitting found = record { order = 6; found = found }

-- the tests on the table of a name, which has to be there
abbrev pub on_table : Name → Option Table → (Table → List Check) → List Check
on_table name None more = named (Some (refusals.NoTable name)) ∷ []
on_table name (Some t) more = more t

abbrev pub select_checks : Select → Table → List Check
select_checks select t =
    named (first_found (no_column t.columns) (select_names select))
    ∷ fitting (option_or (first_found (item_mismatch t.columns) select.items) (first_found (test_mismatch t.columns) (tests_in select.cond)))
    ∷ fitting (not_grouped t.columns select)
    ∷ []

abbrev pub delete_checks : Option Cond → Table → List Check
delete_checks cond t =
    named (first_found (no_column t.columns) (names_in cond))
    ∷ fitting (first_found (test_mismatch t.columns) (tests_in cond))
    ∷ []

abbrev pub update_checks : List Change → Option Cond → Table → List Check
update_checks changes cond t =
    named (first_found (no_column t.columns) (map (λ (change : Change). change.column) changes ++ names_in cond))
    ∷ fitting (option_or (first_found (change_refusal t.columns) changes) (first_found (test_mismatch t.columns) (tests_in cond)))
    ∷ []

-- the columns of an index, in text order
abbrev pub index_names : Name → Option Name → List Name
index_names column None = column ∷ []
index_names column (Some second) = column ∷ second ∷ []

abbrev pub index_checks : Name → Name → Option Name → Table → List Check
index_checks name column second t =
    named (first_found (no_column t.columns) (index_names column second))
    ∷ named (found_if (has_index name t) (refusals.IndexExists name))
    ∷ named (found_if (nat_le most_indexes (length t.indexes)) refusals.CatalogFull)
    ∷ []

abbrev pub create_checks : Name → Database → List Check
create_checks name db =
    named (found_if (is_some (table_of name db)) (refusals.TableExists name))
    ∷ named (found_if (nat_le MOST_TABLES (length db)) refusals.CatalogFull)
    ∷ []

abbrev pub write_checks : Write → Database → List Check
write_checks (writes.CreateTable name schema) db = create_checks name db
write_checks (writes.DropTable name) db = on_table name (table_of name db) (λ t. [])
write_checks (writes.CreateIndex name kind table column second) db = on_table table (table_of table db) (index_checks name column second)
write_checks (writes.DropIndex table name) db =
    on_table table (table_of table db) (λ t. named (found_if (not (has_index name t)) (refusals.NoIndex name)) ∷ [])
write_checks (writes.Insert table rows) db = on_table table (table_of table db) (λ t. fitting (first_bad_row 1 t.columns rows) ∷ [])
write_checks (writes.Load table rows text) db = on_table table (table_of table db) (λ t. [])
write_checks (writes.Delete table cond) db = on_table table (table_of table db) (delete_checks cond)
write_checks (writes.Update table changes cond) db = on_table table (table_of table db) (update_checks changes cond)

abbrev pub query_checks : Select → Database → List Check
query_checks select db = on_table select.table (table_of select.table db) (select_checks select)

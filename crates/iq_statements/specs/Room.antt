-- The tests that come once a write's names are locked: row limits, indexes that don't fit, too many distinct values.
use Rattle.std.specs.Prelude.{ℕ, ◌+◌, true, List, [], ◌∷◌, ◌++◌, Option, Some, None, length, map, nat_lt, if◌then◌else◌}
use Rattle.std.specs.Option.{option_and_then}
use Rattle.iq_base.specs.Shorts.{Name}
use Rattle.iq_base.specs.Limits.{row_limit}
use Rattle.iq_base.specs.declared.values.Value.{Value}
use Rattle.iq_base.specs.declared.schemas.IndexKind.{IndexKind}
use Rattle.iq_base.specs.declared.descriptors.IndexSpec.{IndexSpec}
use Rattle.iq_base.specs.declared.refusals.Refusal.{Refusal}
use Rattle.iq_base.specs.declared.refusals.Refusal.TheVariants as refusals
use Rattle.iq_ast.specs.declared.statements.Write.{Write}
use Rattle.iq_ast.specs.declared.statements.Write.TheVariants as writes
use Rattle.iq_statements.specs.Tables.{Table, Database, all_rows, table_of, has_low_fast, is_low_fast}
use Rattle.iq_statements.specs.Rows.{value_at}
use Rattle.iq_statements.specs.Checks.{Check, found_if, first_found}
use Rattle.iq_statements.specs.Fits.{column_named, index_unfit}
use Rattle.iq_statements.specs.Groups.{distinct_values}
use Rattle.iq_statements.specs.Effects.{changed_rows, index_on}

abbrev pub room : Option Refusal → Check
room found = record { order = 10; found = found }

-- ROW LIMITS: slots count, those of removed rows too

abbrev pub table_full : ℕ → ℕ → Option Refusal
table_full limit slots = found_if (nat_lt limit slots) (refusals.TableFull limit)

-- DISTINCT VALUES under a Low Fast index: of all slots, NULL left out

abbrev pub most_distinct : ℕ
most_distinct = 1000

-- how many distinct values an index's column has in some rows
abbrev pub count_distinct : IndexSpec → List (List Value) → ℕ
count_distinct index rows = length (distinct_values (map (λ (row : List Value). value_at (Some index.column) row) rows))

-- the refusal of a Low Fast index that some rows would make too full; it tells the first number that is too many
abbrev pub too_many : List (List Value) → IndexSpec → Option Refusal
too_many rows index =
    if is_low_fast index.kind
    then found_if (nat_lt most_distinct (count_distinct index rows)) (refusals.TooManyDistinct index.name (most_distinct + 1))
    else None

-- TESTS OF EACH WRITE

-- rows that are appended: the table's limit, and then its Low Fast indexes, the oldest first
abbrev pub append_checks : List (List Value) → Table → List Check
append_checks rows t =
    room (table_full (row_limit t.columns (has_low_fast t)) (length t.slots + length rows))
    ∷ room (first_found (too_many (all_rows t ++ rows)) t.indexes)
    ∷ []

-- the row limit of a table that gets a Low Fast index
abbrev pub low_fast_full : IndexKind → Table → Option Refusal
low_fast_full kind t = if is_low_fast kind then table_full (row_limit t.columns true) (length t.slots) else None

-- a new index: the limit with it, its columns, and its distinct values
abbrev pub new_index_checks : Name → IndexKind → Name → Option Name → Table → List Check
new_index_checks name kind column second t =
    room (low_fast_full kind t)
    ∷ room (index_unfit kind column (column_named t.columns column) (option_and_then (column_named t.columns) second))
    ∷ room (too_many (all_rows t) (index_on name kind column second t))
    ∷ []

-- the tests on the table of a name, where it is there
abbrev pub at_table : Option Table → (Table → List Check) → List Check
at_table None checks = []
at_table (Some t) checks = checks t

abbrev pub write_room : Write → Database → List Check
write_room (writes.CreateTable name schema) db = []
write_room (writes.DropTable name) db = []
write_room (writes.CreateIndex name kind table column second) db = at_table (table_of table db) (new_index_checks name kind column second)
write_room (writes.DropIndex table name) db = []
write_room (writes.Insert table rows) db = at_table (table_of table db) (append_checks rows)
write_room (writes.Load table rows text) db = []
write_room (writes.Delete table cond) db = []
write_room (writes.Update table changes cond) db = at_table (table_of table db) (λ t. append_checks (changed_rows changes cond t) t)

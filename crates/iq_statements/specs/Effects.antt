-- The database that a write leaves, where it is not refused, and how many rows it put in, removed or changed.
use Rattle.std.specs.Prelude.{ℕ, zero, suc, false, List, [], ◌∷◌, Option, Some, None, length, fold, map, if◌then◌else◌, unwrap_or}
use Rattle.std.specs.Option.{option_and_then}
use Rattle.iq_base.specs.Shorts.{Name}
use Rattle.iq_base.specs.declared.values.Value.{Value}
use Rattle.iq_base.specs.declared.schemas.Column.{Column}
use Rattle.iq_base.specs.declared.schemas.IndexKind.{IndexKind}
use Rattle.iq_base.specs.declared.descriptors.IndexSpec.{IndexSpec}
use Rattle.iq_ast.specs.declared.conditions.Cond.{Cond}
use Rattle.iq_ast.specs.declared.statements.Change.{Change}
use Rattle.iq_ast.specs.declared.statements.Write.{Write}
use Rattle.iq_ast.specs.declared.statements.Write.TheVariants as writes
use Rattle.iq_conditions.specs.Servers.{column_place}
use Rattle.iq_statements.specs.Tables.{Slot, Table, Database, content, empty_table, with_rows, with_index, without_index, placed, without_table, table_of, on_table}
use Rattle.iq_statements.specs.Rows.{keeps, kept_rows}

-- REMOVED ROWS

-- a slot whose row is removed where the condition is true
abbrev pub without_row : List Column → Option Cond → Slot → Slot
without_row columns cond slot = if keeps columns cond slot.row then record slot { alive = false } else slot

abbrev pub without_rows : Option Cond → Table → Table
without_rows cond t = record t { slots = map (without_row t.columns cond) t.slots }

-- the rows of a table on which a condition is true
abbrev pub true_rows : Option Cond → Table → List (List Value)
true_rows cond t = kept_rows t.columns cond (content t)

-- CHANGED ROWS

-- a list with one place put anew
abbrev pub put_at : Option ℕ → Value → List Value → List Value
put_at None value row = row
put_at (Some place) value [] = []
put_at (Some zero) value (v ∷ row) = value ∷ row
put_at (Some (suc place)) value (v ∷ row) = v ∷ put_at (Some place) value row

abbrev pub with_change : List Column → List Value → Change → List Value
with_change columns row change = put_at (column_place columns change.column) change.value row

-- a row as SET changes it
abbrev pub changed_row : List Column → List Change → List Value → List Value
changed_row columns changes row = fold (with_change columns) row changes

-- the new forms of the rows on which the condition is true, in row order
abbrev pub changed_rows : List Change → Option Cond → Table → List (List Value)
changed_rows changes cond t = map (changed_row t.columns changes) (true_rows cond t)

-- an UPDATE removes each such row and appends its new form
abbrev pub with_changes : List Change → Option Cond → Table → Table
with_changes changes cond t = with_rows (changed_rows changes cond t) (without_rows cond t)

-- INDEXES

-- an index as a table keeps it, with its columns by their places
abbrev pub index_on : Name → IndexKind → Name → Option Name → Table → IndexSpec
index_on name kind column second t =
    record {
      name = name;
      kind = kind;
      column = unwrap_or (column_place t.columns column) 0;
      second = option_and_then (column_place t.columns) second;
    }

-- THE EFFECT OF A WRITE

abbrev pub effect : Write → Database → Database
effect (writes.CreateTable name schema) db = placed (empty_table name schema.columns) db
effect (writes.DropTable name) db = without_table name db
effect (writes.CreateIndex name kind table column second) db = on_table table (λ t. with_index (index_on name kind column second t) t) db
effect (writes.DropIndex table name) db = on_table table (without_index name) db
effect (writes.Insert table rows) db = on_table table (with_rows rows) db
effect (writes.Load table rows text) db = db
effect (writes.Delete table cond) db = on_table table (without_rows cond) db
effect (writes.Update table changes cond) db = on_table table (with_changes changes cond) db

-- how many rows of a table a condition is true on
abbrev pub count_true : Option Cond → Option Table → ℕ
count_true cond None = 0
count_true cond (Some t) = length (true_rows cond t)

-- how many rows a write puts in, removes or changes; the other writes none
abbrev pub count : Write → Database → ℕ
count (writes.CreateTable name schema) db = 0
count (writes.DropTable name) db = 0
count (writes.CreateIndex name kind table column second) db = 0
count (writes.DropIndex table name) db = 0
count (writes.Insert table rows) db = length rows
count (writes.Load table rows text) db = 0
count (writes.Delete table cond) db = count_true cond (table_of table db)
count (writes.Update table changes cond) db = count_true cond (table_of table db)

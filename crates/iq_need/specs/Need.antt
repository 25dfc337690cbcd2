-- How many blocks a script needs.
use Rattle.std.specs.Prelude.{ℕ, ◌+◌, ◌*◌, min, Bool, true, false, List, [], ◌++◌, Option, Some, None, length, map, filter, fold, flat_map, if◌then◌else◌}
use Rattle.std.specs.List.{slice_get, sum_by, filter_map}
use Rattle.iq_base.specs.Shorts.{Name}
use Rattle.iq_base.specs.declared.descriptors.IndexSpec.{IndexSpec}
use Rattle.iq_base.specs.declared.nodes.NodeKind.{NodeKind}
use Rattle.iq_base.specs.declared.nodes.NodeKind.TheVariants as node_kinds
use Rattle.iq_base.specs.declared.nodes.NodeSpec.{NodeSpec}
use Rattle.iq_base.specs.declared.schemas.Column.{Column}
use Rattle.iq_base.specs.declared.schemas.IndexKind.{IndexKind}
use Rattle.iq_ast.specs.declared.statements.Statement.{Statement}
use Rattle.iq_ast.specs.declared.statements.Statement.TheVariants as statements
use Rattle.iq_ast.specs.declared.statements.Write.{Write}
use Rattle.iq_ast.specs.declared.statements.Write.TheVariants as writes
use Rattle.iq_model.specs.declared.scripts.Deed.{Deed}
use Rattle.iq_model.specs.declared.scripts.Deed.TheVariants as deeds
use Rattle.iq_model.specs.declared.scripts.Line.{Line}
use Rattle.iq_conditions.specs.Servers.{same_name}
use Rattle.iq_statements.specs.Tables.{Table, Database, table_of}
use Rattle.iq_need.specs.Sizes.{object_blocks, chunks, column_blocks, index_blocks}

-- THE WRITES OF A SCRIPT

abbrev pub statement_write : Statement → Option Write
statement_write (statements.Write write) = Some write
statement_write (statements.Select select) = None
statement_write statements.Begin = None
statement_write statements.Commit = None
statement_write statements.Rollback = None
statement_write (statements.Savepoint name) = None
statement_write (statements.BackTo name) = None
statement_write (statements.Release name) = None
statement_write statements.Sync = None

abbrev pub deed_write : Deed → Option Write
deed_write (deeds.Statement statement) = statement_write statement
deed_write (deeds.Step step) = None

abbrev pub writes_in : List Line → List Write
writes_in lines = filter_map (λ (line : Line). deed_write line.deed) lines

-- the table that a write names
abbrev pub table_named : Write → Name
table_named (writes.CreateTable name schema) = name
table_named (writes.DropTable name) = name
table_named (writes.CreateIndex name kind table column second) = table
table_named (writes.DropIndex table name) = table
table_named (writes.Insert table rows) = table
table_named (writes.Load table rows text) = table
table_named (writes.Delete table cond) = table
table_named (writes.Update table changes cond) = table

-- the writes that name a table
abbrev pub writes_of : Name → List Write → List Write
writes_of name list = filter (λ (write : Write). same_name (table_named write) name) list

-- SLOTS: the opening ones, more for each INSERT and LOAD, and twice as many for each UPDATE

-- how many rows a write appends at most beside UPDATE, where a LOAD's text has so many records
abbrev pub appended : (List ℕ → ℕ) → Write → ℕ
appended records (writes.CreateTable name schema) = 0
appended records (writes.DropTable name) = 0
appended records (writes.CreateIndex name kind table column second) = 0
appended records (writes.DropIndex table name) = 0
appended records (writes.Insert table rows) = length rows
appended records (writes.Load table rows text) = records text
appended records (writes.Delete table cond) = 0
appended records (writes.Update table changes cond) = 0

-- by how much a write may multiply the slots
abbrev pub factor : Write → ℕ
factor (writes.CreateTable name schema) = 1
factor (writes.DropTable name) = 1
factor (writes.CreateIndex name kind table column second) = 1
factor (writes.DropIndex table name) = 1
factor (writes.Insert table rows) = 1
factor (writes.Load table rows text) = 1
factor (writes.Delete table cond) = 1
factor (writes.Update table changes cond) = 2

abbrev pub opening_slots : Option Table → ℕ
opening_slots None = 0
opening_slots (Some t) = length t.slots

abbrev pub times : ℕ → Write → ℕ
times n write = n * factor write

-- a table's slots at most, whatever the order of the lines
abbrev pub final_slots : (List ℕ → ℕ) → Option Table → List Write → ℕ
final_slots records opening list = min (fold times (opening_slots opening + sum_by (appended records) list) list) 2097152

-- COLUMNS AND INDEXES: all that the opening store and the script's CREATE lines give

abbrev pub created_columns : Write → List Column
created_columns (writes.CreateTable name schema) = schema.columns
created_columns (writes.DropTable name) = []
created_columns (writes.CreateIndex name kind table column second) = []
created_columns (writes.DropIndex table name) = []
created_columns (writes.Insert table rows) = []
created_columns (writes.Load table rows text) = []
created_columns (writes.Delete table cond) = []
created_columns (writes.Update table changes cond) = []

abbrev pub opening_columns : Option Table → List Column
opening_columns None = []
opening_columns (Some t) = t.columns

abbrev pub all_columns : Option Table → List Write → List Column
all_columns opening list = opening_columns opening ++ flat_map created_columns list

-- an index by its kind and its first column's name
pub record IndexOn : Type 0 where
  pub kind : IndexKind
  pub column : Name

abbrev pub created_index : Write → Option IndexOn
created_index (writes.CreateTable name schema) = None
created_index (writes.DropTable name) = None
created_index (writes.CreateIndex name kind table column second) = Some (record { kind = kind; column = column })
created_index (writes.DropIndex table name) = None
created_index (writes.Insert table rows) = None
created_index (writes.Load table rows text) = None
created_index (writes.Delete table cond) = None
created_index (writes.Update table changes cond) = None

abbrev pub name_of : Option Column → Name
name_of None = []
name_of (Some column) = column.name

abbrev pub index_of : Table → IndexSpec → IndexOn
index_of t index = record { kind = index.kind; column = name_of (slice_get t.columns index.column) }

abbrev pub opening_indexes : Option Table → List IndexOn
opening_indexes None = []
opening_indexes (Some t) = map (index_of t) t.indexes

abbrev pub all_indexes : Option Table → List Write → List IndexOn
all_indexes opening list = opening_indexes opening ++ filter_map created_index list

-- an index counts once for each column that bears its first column's name
abbrev pub index_size : ℕ → List Column → IndexOn → ℕ
index_size n columns index =
    sum_by (λ (column : Column). if same_name column.name index.column then index_blocks n index.kind column.kind else 0) columns

-- THE FULL SIZE OF A TABLE

-- 4 for the descriptor, existence, the columns and the indexes
abbrev pub size_of : ℕ → List Column → List IndexOn → ℕ
size_of n columns indexes =
    4 + object_blocks (chunks n) + sum_by (column_blocks n) columns + sum_by (index_size n columns) indexes

-- the same over the opening table of its name and the writes that name it
abbrev pub full_size : (List ℕ → ℕ) → Option Table → List Write → ℕ
full_size records opening list = size_of (final_slots records opening list) (all_columns opening list) (all_indexes opening list)

-- NEED

abbrev pub is_secondary : NodeKind → Bool
is_secondary node_kinds.Coordinator = false
is_secondary node_kinds.Writer = true
is_secondary node_kinds.Reader = true

-- how many nodes reserve blocks
abbrev pub secondaries : List NodeSpec → ℕ
secondaries nodes = length (filter (λ (node : NodeSpec). is_secondary node.kind) nodes)

-- a write takes at most twice the full size of its table
abbrev pub write_blocks : (List ℕ → ℕ) → Database → List Write → Write → ℕ
write_blocks records opening list write =
    2 * full_size records (table_of (table_named write) opening) (writes_of (table_named write) list)

-- The need of some lines on some nodes, over an opening store that reaches so many blocks: 4 for the roots, what is reached, 32
-- for each secondary, and what each write takes at most. `records` tells how many records the text of a LOAD has.
abbrev pub need : (List ℕ → ℕ) → ℕ → List NodeSpec → List Line → Database → ℕ
need records reached nodes lines opening =
    4 + reached + 32 * secondaries nodes + sum_by (write_blocks records opening (writes_in lines)) (writes_in lines)

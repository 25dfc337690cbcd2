-- Statements of a session: what each asks of the tables, what it locks, and what it leaves.
use Rattle.std.specs.Prelude.{⊤, Bool, true, false, List, [], ◌∷◌, Some, None}
use Rattle.iq_base.specs.Shorts.{Name}
use Rattle.iq_base.specs.Locks.{locks_of}
use Rattle.iq_ast.specs.declared.statements.Statement.{Statement}
use Rattle.iq_ast.specs.declared.statements.Statement.TheVariants as statements
use Rattle.iq_ast.specs.declared.statements.Write.{Write}
use Rattle.iq_ast.specs.declared.statements.Write.TheVariants as writes
use Rattle.iq_statements.specs.Checks.{Check}
use Rattle.iq_statements.specs.Tables.{Database}
use Rattle.iq_statements.specs.Named.{write_checks, query_checks}
use Rattle.iq_statements.specs.Room.{write_room}
use Rattle.iq_statements.specs.Effects.{effect}

-- KINDS OF STATEMENTS

-- a statement on tables: it runs as a transaction of its own where there is none
abbrev pub IsOnTables : Statement → Type 0
IsOnTables (statements.Write write) = ⊤
IsOnTables (statements.Select select) = ⊤
IsOnTables statements.Begin = ⊥
IsOnTables statements.Commit = ⊥
IsOnTables statements.Rollback = ⊥
IsOnTables (statements.Savepoint name) = ⊥
IsOnTables (statements.BackTo name) = ⊥
IsOnTables (statements.Release name) = ⊥
IsOnTables statements.Sync = ⊥

abbrev pub IsWrite : Statement → Type 0
IsWrite (statements.Write write) = ⊤
IsWrite (statements.Select select) = ⊥
IsWrite statements.Begin = ⊥
IsWrite statements.Commit = ⊥
IsWrite statements.Rollback = ⊥
IsWrite (statements.Savepoint name) = ⊥
IsWrite (statements.BackTo name) = ⊥
IsWrite (statements.Release name) = ⊥
IsWrite statements.Sync = ⊥

-- a statement with which a transaction begins: one on tables, or BEGIN TRANSACTION
abbrev pub Begins : Statement → Type 0
Begins (statements.Write write) = ⊤
Begins (statements.Select select) = ⊤
Begins statements.Begin = ⊤
Begins statements.Commit = ⊥
Begins statements.Rollback = ⊥
Begins (statements.Savepoint name) = ⊥
Begins (statements.BackTo name) = ⊥
Begins (statements.Release name) = ⊥
Begins statements.Sync = ⊥

-- a write that changes schemas or indexes: CREATE and DROP
abbrev pub is_ddl : Write → Bool
is_ddl (writes.CreateTable name schema) = true
is_ddl (writes.DropTable name) = true
is_ddl (writes.CreateIndex name kind table column second) = true
is_ddl (writes.DropIndex table name) = true
is_ddl (writes.Insert table rows) = false
is_ddl (writes.Load table rows text) = false
is_ddl (writes.Delete table cond) = false
is_ddl (writes.Update table changes cond) = false

-- a write whose effect is told here; the rows of a LOAD's text aren't yet, and no line of a run has another meaning
abbrev pub HasWriteMeaning : Write → Type 0
HasWriteMeaning (writes.CreateTable name schema) = ⊤
HasWriteMeaning (writes.DropTable name) = ⊤
HasWriteMeaning (writes.CreateIndex name kind table column second) = ⊤
HasWriteMeaning (writes.DropIndex table name) = ⊤
HasWriteMeaning (writes.Insert table rows) = ⊤
HasWriteMeaning (writes.Load table rows text) = ⊥
HasWriteMeaning (writes.Delete table cond) = ⊤
HasWriteMeaning (writes.Update table changes cond) = ⊤

abbrev pub HasMeaning : Statement → Type 0
HasMeaning (statements.Write write) = HasWriteMeaning write
HasMeaning (statements.Select select) = ⊤
HasMeaning statements.Begin = ⊤
HasMeaning statements.Commit = ⊤
HasMeaning statements.Rollback = ⊤
HasMeaning (statements.Savepoint name) = ⊤
HasMeaning (statements.BackTo name) = ⊤
HasMeaning (statements.Release name) = ⊤
HasMeaning statements.Sync = ⊤

-- TESTS

-- the tests of names and values, over the tables seen
abbrev pub statement_checks : Statement → Database → List Check
statement_checks (statements.Write write) db = write_checks write db
statement_checks (statements.Select select) db = query_checks select db
statement_checks statements.Begin db = []
statement_checks statements.Commit db = []
statement_checks statements.Rollback db = []
statement_checks (statements.Savepoint name) db = []
statement_checks (statements.BackTo name) db = []
statement_checks (statements.Release name) db = []
statement_checks statements.Sync db = []

-- the tests that come once the names are locked
abbrev pub room_checks : Statement → Database → List Check
room_checks (statements.Write write) db = write_room write db
room_checks (statements.Select select) db = []
room_checks statements.Begin db = []
room_checks statements.Commit db = []
room_checks statements.Rollback db = []
room_checks (statements.Savepoint name) db = []
room_checks (statements.BackTo name) db = []
room_checks (statements.Release name) db = []
room_checks statements.Sync db = []

-- LOCKS

-- the names that a write locks: the catalog's for the list of tables, and a table's for its rows and indexes
abbrev pub names_of : Write → List Name
names_of (writes.CreateTable name schema) = locks_of true None
names_of (writes.DropTable name) = locks_of true (Some name)
names_of (writes.CreateIndex name kind table column second) = locks_of false (Some table)
names_of (writes.DropIndex table name) = locks_of false (Some table)
names_of (writes.Insert table rows) = locks_of false (Some table)
names_of (writes.Load table rows text) = locks_of false (Some table)
names_of (writes.Delete table cond) = locks_of false (Some table)
names_of (writes.Update table changes cond) = locks_of false (Some table)

-- the name that a write creates beside those that it locks
abbrev pub created_by : Write → List Name
created_by (writes.CreateTable name schema) = name ∷ []
created_by (writes.DropTable name) = []
created_by (writes.CreateIndex name kind table column second) = []
created_by (writes.DropIndex table name) = []
created_by (writes.Insert table rows) = []
created_by (writes.Load table rows text) = []
created_by (writes.Delete table cond) = []
created_by (writes.Update table changes cond) = []

-- the names that a statement locks; a query locks none
abbrev pub locks : Statement → List Name
locks (statements.Write write) = names_of write
locks (statements.Select select) = []
locks statements.Begin = []
locks statements.Commit = []
locks statements.Rollback = []
locks (statements.Savepoint name) = []
locks (statements.BackTo name) = []
locks (statements.Release name) = []
locks statements.Sync = []

abbrev pub creates : Statement → List Name
creates (statements.Write write) = created_by write
creates (statements.Select select) = []
creates statements.Begin = []
creates statements.Commit = []
creates statements.Rollback = []
creates (statements.Savepoint name) = []
creates (statements.BackTo name) = []
creates (statements.Release name) = []
creates statements.Sync = []

-- WHAT A STATEMENT LEAVES

-- the tables that a statement leaves; a query leaves them as they are
abbrev pub tables_after : Statement → Database → Database
tables_after (statements.Write write) db = effect write db
tables_after (statements.Select select) db = db
tables_after statements.Begin db = db
tables_after statements.Commit db = db
tables_after statements.Rollback db = db
tables_after (statements.Savepoint name) db = db
tables_after (statements.BackTo name) db = db
tables_after (statements.Release name) db = db
tables_after statements.Sync db = db

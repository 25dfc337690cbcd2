-- The statements that are run today: CREATE TABLE, DROP TABLE, INSERT, and SELECT of columns or of the number of rows, of all rows or of
-- those for which one test is true.
use Rattle.std.specs.Prelude.{◌≡◌, ◌≤◌, Bool, false, List, [], ◌∷◌, length, Option, Some, None, ⊤}
use Rattle.std.specs.List.{AllByRecursion}
use Rattle.iq_ast.specs.declared.conditions.Cond.{Cond}
use Rattle.iq_ast.specs.declared.conditions.Cond as conds
use Rattle.iq_ast.specs.declared.statements.Item.{Item}
use Rattle.iq_ast.specs.declared.statements.Item.TheVariants.{Plain, CountAll, Count, Sum, Min, Max}
use Rattle.iq_ast.specs.declared.statements.Select.{Select}
use Rattle.iq_ast.specs.declared.statements.Write.{Write}
use Rattle.iq_ast.specs.declared.statements.Write.TheVariants.{CreateTable, DropTable, CreateIndex, DropIndex, Insert, Load, Delete, Update}
use Rattle.iq_ast.specs.declared.statements.Statement.{Statement}
use Rattle.iq_ast.specs.declared.statements.Statement.TheVariants as statement
use Rattle.iq_ast.specs.Words.{IsName}

-- a column by its name
abbrev pub IsPlain : Item → Type 0
IsPlain (Plain name) = ⊤
IsPlain CountAll = ⊥
IsPlain (Count name) = ⊥
IsPlain (Sum name) = ⊥
IsPlain (Min name) = ⊥
IsPlain (Max name) = ⊥

-- all columns, some by their names, or the number of rows alone
abbrev pub AreItems : List Item → Type 0
AreItems [] = ⊤
AreItems (CountAll ∷ items) = items ≡ []
AreItems (item ∷ items) = IsPlain item × AllByRecursion IsPlain items

-- no condition, or one test
abbrev pub IsOneTest : Option Cond → Type 0
IsOneTest None = ⊤
IsOneTest (Some (conds.Test test)) = ⊤
IsOneTest (Some (conds.Not' shape members)) = ⊥
IsOneTest (Some (conds.And' shape members)) = ⊥
IsOneTest (Some (conds.Or' shape members)) = ⊥

-- a SELECT without EXPLAIN, GROUP BY and ORDER BY, whose condition is one test at most
pub record IsPlainSelect (select : Select) : Type 0 where
  pub items : AreItems select.items
  pub explain : select.explain ≡ false
  pub cond : IsOneTest select.cond
  pub group : select.group ≡ []
  pub order : select.order ≡ []

-- a CREATE TABLE of at most 32 columns, a DROP TABLE, or an INSERT; no table is named by a reserved word
abbrev pub IsPlainWrite : Write → Type 0
IsPlainWrite (CreateTable name schema) = IsName name × (length schema.columns ≤ 32)
IsPlainWrite (DropTable name) = IsName name
IsPlainWrite (CreateIndex name kind table column second) = ⊥
IsPlainWrite (DropIndex table name) = ⊥
IsPlainWrite (Insert table rows) = IsName table
IsPlainWrite (Load table rows text) = ⊥
IsPlainWrite (Delete table cond) = ⊥
IsPlainWrite (Update table changes cond) = ⊥

-- a statement of one of these forms
abbrev pub IsPlainStatement : Statement → Type 0
IsPlainStatement (statement.Write write) = IsPlainWrite write
IsPlainStatement (statement.Select select) = IsPlainSelect select
IsPlainStatement statement.Begin = ⊥
IsPlainStatement statement.Commit = ⊥
IsPlainStatement statement.Rollback = ⊥
IsPlainStatement (statement.Savepoint name) = ⊥
IsPlainStatement (statement.BackTo name) = ⊥
IsPlainStatement (statement.Release name) = ⊥
IsPlainStatement statement.Sync = ⊥

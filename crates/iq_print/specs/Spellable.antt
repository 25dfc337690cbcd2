-- The statements that the grammar can spell.
use Rattle.std.specs.Prelude.{◌≡◌, ◌<◌, ◌≤◌, ℕ, false, List, [], length, Option, Some, None, nat_eq, ⊤}
use Rattle.std.specs.List.{AllByRecursion}
use Rattle.std.specs.Cmp.Lexicographic.{pointwise}
use Rattle.iq_base.specs.declared.values.Value.{Value}
use Rattle.iq_base.specs.declared.schemas.Column.{Column}
use Rattle.iq_base.specs.declared.schemas.IndexKind.{IndexKind}
use Rattle.iq_base.specs.declared.schemas.IndexKind.TheVariants as index
use Rattle.iq_ast.specs.declared.conditions.Cond.{Cond}
use Rattle.iq_ast.specs.declared.statements.Write.{Write}
use Rattle.iq_ast.specs.declared.statements.Write.TheVariants as write
use Rattle.iq_ast.specs.declared.statements.Statement.{Statement}
use Rattle.iq_ast.specs.declared.statements.Statement.TheVariants as statement
use Rattle.iq_spelling.specs.Lists.{Obey}
use Rattle.iq_spelling.specs.Texts.{IsKind, IsNewColumn, IsNewChange}
use Rattle.iq_token_text.specs.Tokens.{AreLexemes}
use Rattle.iq_print.specs.Conditions.{IsSpellableCond}
use Rattle.iq_print.specs.Words.{statement_words}

-- columns of a new table: 1 to 32 of them, no name twice, lengths of VARCHAR from 1 to 255
pub record AreColumns (columns : List Column) : Type 0 where
  pub some : 0 < length columns
  pub kinds : AllByRecursion (λ (c : Column). IsKind c.kind) columns
  pub new : Obey IsNewColumn [] columns

-- an index of one column, or a CMP of two that differ
abbrev pub AreIndexed : IndexKind → List ℕ → Option (List ℕ) → Type 0
AreIndexed index.Lf c second = second ≡ None
AreIndexed index.Hg c second = second ≡ None
AreIndexed index.Hng c second = second ≡ None
AreIndexed index.Cmp c None = ⊥
AreIndexed index.Cmp c (Some d) = pointwise nat_eq c d ≡ false

-- tuples of an INSERT: one at least, and each of one value at least
pub record AreTuples (rows : List (List Value)) : Type 0 where
  pub some : 0 < length rows
  pub each : AllByRecursion (λ (values : List Value). 0 < length values) rows

abbrev pub IsWhere : Option Cond → Type 0
IsWhere None = ⊤
IsWhere (Some c) = IsSpellableCond c

-- the rules on a statement: how many members its lists have, which names differ, and how large its numbers are
abbrev pub IsWriteOfRules : Write → Type 0
IsWriteOfRules (write.CreateTable n schema) = AreColumns schema.columns
IsWriteOfRules (write.DropTable n) = ⊤
IsWriteOfRules (write.CreateIndex n kind table column second) = AreIndexed kind column second
IsWriteOfRules (write.DropIndex table n) = ⊤
IsWriteOfRules (write.Insert table rows) = AreTuples rows
IsWriteOfRules (write.Load table rows text) = (text ≡ []) × (0 < rows) × (rows ≤ 1000000)
IsWriteOfRules (write.Delete table cond) = IsWhere cond
IsWriteOfRules (write.Update table changes cond) = (0 < length changes) × Obey IsNewChange [] changes × IsWhere cond

abbrev pub IsOfRules : Statement → Type 0
IsOfRules (statement.Write w) = IsWriteOfRules w
IsOfRules (statement.Select q) = IsWhere q.cond
IsOfRules statement.Begin = ⊤
IsOfRules statement.Commit = ⊤
IsOfRules statement.Rollback = ⊤
IsOfRules (statement.Savepoint n) = ⊤
IsOfRules (statement.BackTo n) = ⊤
IsOfRules (statement.Release n) = ⊤
IsOfRules statement.Sync = ⊤

-- the grammar can spell the statement: its names are names, its numbers have 64 bits and its texts 255 bytes of UTF-8 at most, and it
-- is of the rules
pub record IsSpellable (s : Statement) : Type 0 where
  pub tokens : AreLexemes (statement_words s)
  pub rules : IsOfRules s

-- a statement as its text says it: a LOAD has no text of its own
abbrev pub without_text : Statement → Statement
without_text (statement.Write (write.CreateTable n schema)) = statement.Write (write.CreateTable n schema)
without_text (statement.Write (write.DropTable n)) = statement.Write (write.DropTable n)
without_text (statement.Write (write.CreateIndex n kind table column second)) = statement.Write (write.CreateIndex n kind table column second)
without_text (statement.Write (write.DropIndex table n)) = statement.Write (write.DropIndex table n)
without_text (statement.Write (write.Insert table rows)) = statement.Write (write.Insert table rows)
without_text (statement.Write (write.Load table rows text)) = statement.Write (write.Load table rows [])
without_text (statement.Write (write.Delete table cond)) = statement.Write (write.Delete table cond)
without_text (statement.Write (write.Update table changes cond)) = statement.Write (write.Update table changes cond)
without_text (statement.Select q) = statement.Select q
without_text statement.Begin = statement.Begin
without_text statement.Commit = statement.Commit
without_text statement.Rollback = statement.Rollback
without_text (statement.Savepoint n) = statement.Savepoint n
without_text (statement.BackTo n) = statement.BackTo n
without_text (statement.Release n) = statement.Release n
without_text statement.Sync = statement.Sync

-- The statement that a draft is, and the tokens that spell one.
use Rattle.std.specs.Prelude.{◌≡◌, ℕ, List, [], ◌∷◌, length, Option, Some, None, Result, Ok, Err, ⊤}
use Rattle.iq_ast.specs.declared.conditions.Cond.{Cond}
use Rattle.iq_ast.specs.declared.statements.Write.TheVariants as write
use Rattle.iq_ast.specs.declared.statements.Statement.{Statement}
use Rattle.iq_ast.specs.declared.statements.Statement.TheVariants as statement
use Rattle.iq_grammar.specs.declared.faults.ParseFault.{ParseFault}
use Rattle.iq_grammar.specs.declared.faults.ParseFault.TheVariants.{Syntax, NoMemory}
use Rattle.iq_grammar.specs.declared.grammar.Form.{Form}
use Rattle.iq_grammar.specs.declared.grammar.Form.TheVariants as form
use Rattle.iq_grammar.specs.declared.draft.Level.{Level}
use Rattle.iq_grammar.specs.declared.draft.Draft.{Draft}
use Rattle.iq_grammar.specs.Draft.{whole}
use Rattle.iq_tokens.specs.declared.tokens.Lexeme.{Lexeme}
use Rattle.iq_tokens.specs.Tokens.{tokens_of, lexemes}
use Rattle.iq_grammar.specs.Reading.{IsSpelled, IsFaultAt}

-- the condition, if there is one
abbrev pub where_of : List Cond → Level → Option Cond
where_of [] l = None
where_of (c ∷ cs) l = Some (whole l)

abbrev pub form_of : Form → Draft → Statement
form_of form.CreateTable d = statement.Write (write.CreateTable d.table (record { columns = d.columns }))
form_of form.DropTable d = statement.Write (write.DropTable d.table)
form_of form.CreateIndex d = statement.Write (write.CreateIndex d.name d.index d.table d.first d.second)
form_of form.DropIndex d = statement.Write (write.DropIndex d.table d.name)
form_of form.Insert d = statement.Write (write.Insert d.table d.rows)
form_of form.Load d = statement.Write (write.Load d.table d.count [])
form_of form.Delete d = statement.Write (write.Delete d.table (where_of d.level.ands d.level))
form_of form.Update d = statement.Write (write.Update d.table d.changes (where_of d.level.ands d.level))
form_of form.Select d = statement.Select (record { explain = d.explain; items = d.items; table = d.table; cond = where_of d.level.ands d.level; group = d.group; order = d.order })
form_of form.Begin d = statement.Begin
form_of form.Commit d = statement.Commit
form_of form.Rollback d = statement.Rollback
form_of form.Savepoint d = statement.Savepoint d.name
form_of form.BackTo d = statement.BackTo d.name
form_of form.Release d = statement.Release d.name
form_of form.Sync d = statement.Sync

unfoldable pub statement_of : Draft → Statement
statement_of d = form_of d.form d

-- the tokens spell the statement
pub record AreTokensOf (ls : List Lexeme) (s : Statement) : Type 0 where
  pub draft : Draft
  pub spelled : IsSpelled ls draft
  pub is : statement_of draft ≡ s

-- the text spells the statement
abbrev pub IsStatementOf : List ℕ → Statement → Type 0
IsStatementOf text s = AreTokensOf (lexemes (tokens_of text)) s

-- the text's fault is at this place, from 1
abbrev pub IsFaultOf : List ℕ → ℕ → Type 0
IsFaultOf text place = IsFaultAt (length text) (tokens_of text) place

-- what a function returned is the statement, unless memory is wanting
abbrev pub Is : Statement → Result Statement ParseFault → Type 0
Is s (Ok t) = t ≡ s
Is s (Err (Syntax place)) = ⊥
Is s (Err NoMemory) = ⊤

-- The tokens that each statement is printed as, and the text of a statement.
use Rattle.std.specs.Prelude.{ℕ, Bool, true, false, List, [], ◌∷◌, ◌++◌, Option, Some, None, pos}
use Rattle.iq_base.specs.declared.values.Value.{Value}
use Rattle.iq_base.specs.declared.schemas.Column.{Column}
use Rattle.iq_ast.specs.declared.conditions.Cond.{Cond}
use Rattle.iq_ast.specs.declared.statements.Item.{Item}
use Rattle.iq_ast.specs.declared.statements.Order.{Order as TheOrder}
use Rattle.iq_ast.specs.declared.statements.Change.{Change}
use Rattle.iq_ast.specs.declared.statements.Select.{Select as TheSelect}
use Rattle.iq_ast.specs.declared.statements.Write.{Write}
use Rattle.iq_ast.specs.declared.statements.Write.TheVariants as write
use Rattle.iq_ast.specs.declared.statements.Statement.{Statement}
use Rattle.iq_ast.specs.declared.statements.Statement.TheVariants as statement
use Rattle.iq_tokens.specs.declared.tokens.Mark.TheVariants.{Create, Drop, Insert, Into, Values, Load, Table, Rows, Delete, From, Update, Set, Equal, Select, Begin, Transaction, Commit, Rollback, Savepoint, Release, Sync, To, Open, Close, Index, On, Comma, Null, Not, Dot, Star, Group, By, Order, Desc, Where}
use Rattle.iq_tokens.specs.declared.tokens.Lexeme.{Lexeme}
use Rattle.iq_tokens.specs.declared.tokens.Lexeme.TheVariants as lexeme
use Rattle.iq_spelling.specs.Lists.{word, name, literal}
use Rattle.iq_spelling.specs.Texts.{kind_words, index_mark, item_words, explain_words}
use Rattle.iq_token_text.specs.Texts.{tokens_text}
use Rattle.iq_print.specs.Conditions.{listed, value_words, cond_words}

-- ---- parts of statements

abbrev pub name_words : List ℕ → List Lexeme
name_words n = name n ∷ []

-- NOT NULL, where NULL may not stand
abbrev pub nullness_words : Bool → List Lexeme
nullness_words true = []
nullness_words false = word Not ∷ word Null ∷ []

abbrev pub column_words : Column → List Lexeme
column_words c = name c.name ∷ (kind_words c.kind ++ nullness_words c.null)

abbrev pub indexed_words : List ℕ → Option (List ℕ) → List Lexeme
indexed_words c None = name c ∷ []
indexed_words c (Some d) = name c ∷ word Comma ∷ name d ∷ []

abbrev pub tuple_words : List Value → List Lexeme
tuple_words values = word Open ∷ (listed value_words values ++ word Close ∷ [])

abbrev pub change_words : Change → List Lexeme
change_words c = name c.column ∷ word Equal ∷ literal c.value ∷ []

abbrev pub where_words : Option Cond → List Lexeme
where_words None = []
where_words (Some c) = word Where ∷ cond_words c

-- all columns are a star
abbrev pub items_words : List Item → List Lexeme
items_words [] = word Star ∷ []
items_words (i ∷ is) = listed item_words (i ∷ is)

abbrev pub group_words : List (List ℕ) → List Lexeme
group_words [] = []
group_words (n ∷ ns) = word Group ∷ word By ∷ listed name_words (n ∷ ns)

abbrev pub way_words : Bool → List Lexeme
way_words true = word Desc ∷ []
way_words false = []

abbrev pub ordered_words : TheOrder → List Lexeme
ordered_words o = name o.column ∷ way_words o.desc

abbrev pub order_words : List TheOrder → List Lexeme
order_words [] = []
order_words (o ∷ os) = word Order ∷ word By ∷ listed ordered_words (o ∷ os)

-- ---- statements

abbrev pub select_words : TheSelect → List Lexeme
select_words q =
    explain_words q.explain ++ word Select ∷ (items_words q.items ++ word From ∷ name q.table ∷ (where_words q.cond ++ (group_words q.group ++ order_words q.order)))

-- a LOAD without its text
abbrev pub write_words : Write → List Lexeme
write_words (write.CreateTable n schema) = word Create ∷ word Table ∷ name n ∷ word Open ∷ (listed column_words schema.columns ++ word Close ∷ [])
write_words (write.DropTable n) = word Drop ∷ word Table ∷ name n ∷ []
write_words (write.CreateIndex n kind table column second) =
    word Create ∷ word (index_mark kind) ∷ word Index ∷ name n ∷ word On ∷ name table ∷ word Open ∷ (indexed_words column second ++ word Close ∷ [])
write_words (write.DropIndex table n) = word Drop ∷ word Index ∷ name table ∷ word Dot ∷ name n ∷ []
write_words (write.Insert table rows) = word Insert ∷ word Into ∷ name table ∷ word Values ∷ listed tuple_words rows
write_words (write.Load table rows text) = word Load ∷ word Table ∷ name table ∷ word Rows ∷ lexeme.Number (pos rows) ∷ []
write_words (write.Delete table cond) = word Delete ∷ word From ∷ name table ∷ where_words cond
write_words (write.Update table changes cond) = word Update ∷ name table ∷ word Set ∷ (listed change_words changes ++ where_words cond)

abbrev pub statement_words : Statement → List Lexeme
statement_words (statement.Write w) = write_words w
statement_words (statement.Select q) = select_words q
statement_words statement.Begin = word Begin ∷ word Transaction ∷ []
statement_words statement.Commit = word Commit ∷ []
statement_words statement.Rollback = word Rollback ∷ []
statement_words (statement.Savepoint n) = word Savepoint ∷ name n ∷ []
statement_words (statement.BackTo n) = word Rollback ∷ word To ∷ word Savepoint ∷ name n ∷ []
statement_words (statement.Release n) = word Release ∷ word Savepoint ∷ name n ∷ []
statement_words statement.Sync = word Sync ∷ []

-- the bytes that print a statement
abbrev pub statement_text : Statement → List ℕ
statement_text s = tokens_text (statement_words s)

-- The texts of each statement, by cases.
use Rattle.std.specs.Prelude.{◌≡◌, ◌<◌, ◌≤◌, ℕ, Bool, true, false, List, [], ◌∷◌, ◌++◌, length, Option, Some, None, ◌⊎◌, pos, nat_eq, ⊤}
use Rattle.std.specs.Cmp.Lexicographic.{pointwise}
use Rattle.iq_base.specs.declared.values.Value.{Value}
use Rattle.iq_base.specs.declared.values.Kind.{Kind}
use Rattle.iq_base.specs.declared.values.Kind.TheVariants as kind
use Rattle.iq_base.specs.declared.schemas.Column.{Column}
use Rattle.iq_base.specs.declared.schemas.IndexKind.{IndexKind}
use Rattle.iq_base.specs.declared.schemas.IndexKind.TheVariants as index
use Rattle.iq_ast.specs.declared.conditions.Cond.{Cond}
use Rattle.iq_ast.specs.declared.statements.Item.{Item}
use Rattle.iq_ast.specs.declared.statements.Item.TheVariants as item
use Rattle.iq_ast.specs.declared.statements.Order.{Order as TheOrder}
use Rattle.iq_ast.specs.declared.statements.Change.{Change}
use Rattle.iq_ast.specs.declared.statements.Select.{Select as TheSelect}
use Rattle.iq_ast.specs.declared.statements.Write.{Write}
use Rattle.iq_ast.specs.declared.statements.Write.TheVariants as write
use Rattle.iq_ast.specs.declared.statements.Statement.{Statement}
use Rattle.iq_ast.specs.declared.statements.Statement.TheVariants as statement
use Rattle.iq_tokens.specs.declared.tokens.Mark.{Mark}
use Rattle.iq_tokens.specs.declared.tokens.Mark.TheVariants.{Create, Drop, Insert, Into, Values, Load, Table, Rows, Delete, From, Update, Set, Equal, Explain, Select, Begin, Transaction, Commit, Rollback, Savepoint, Release, Sync, To, Open, Close, Lf, Hg, Hng, Cmp, Index, On, Comma, Int, Bigint, Varchar, Null, Not, Dot, Star, Count, Sum, Min, Max, Group, By, Order, Asc, Desc, Where, Semicolon}
use Rattle.iq_tokens.specs.declared.tokens.Lexeme.{Lexeme}
use Rattle.iq_tokens.specs.declared.tokens.Lexeme.TheVariants as lexeme
use Rattle.iq_grammar.specs.Draft.{has_column, has_change}
use Rattle.iq_spelling.specs.Lists.{word, name, literal, IsLiteral, IsName, AreListed, Obey}
use Rattle.iq_spelling.specs.Conditions.{IsCondition}

-- ---- CREATE TABLE

-- INT | INTEGER | BIGINT | VARCHAR ( number ); INTEGER is INT
abbrev pub kind_words : Kind → List Lexeme
kind_words kind.Int = word Int ∷ []
kind_words kind.Big = word Bigint ∷ []
kind_words (kind.Varchar n) = word Varchar ∷ word Open ∷ lexeme.Number (pos n) ∷ word Close ∷ []

-- a length is from 1 to 255
abbrev pub IsKind : Kind → Type 0
IsKind kind.Int = ⊤
IsKind kind.Big = ⊤
IsKind (kind.Varchar n) = (0 < n) × (n ≤ 255)

-- [ NULL | NOT NULL ]
abbrev pub IsNullness : Bool → List Lexeme → Type 0
IsNullness true ls = (ls ≡ []) ⊎ (ls ≡ word Null ∷ [])
IsNullness false ls = ls ≡ word Not ∷ word Null ∷ []

abbrev pub IsColumn : Column → List Lexeme → Type 0
IsColumn c ls = (ns : List Lexeme) × IsKind c.kind × IsNullness c.null ns × (ls ≡ name c.name ∷ (kind_words c.kind ++ ns))

-- a column is one of 32 at most, and none before it has its name
abbrev pub IsNewColumn : List Column → Column → Type 0
IsNewColumn before c = (length before < 32) × (has_column before c.name ≡ false)

-- ---- CREATE INDEX

abbrev pub index_mark : IndexKind → Mark
index_mark index.Lf = Lf
index_mark index.Hg = Hg
index_mark index.Hng = Hng
index_mark index.Cmp = Cmp

-- one column, or the two of a CMP, which differ
abbrev pub AreIndexed : IndexKind → List ℕ → Option (List ℕ) → List Lexeme → Type 0
AreIndexed index.Lf c None ls = ls ≡ name c ∷ []
AreIndexed index.Hg c None ls = ls ≡ name c ∷ []
AreIndexed index.Hng c None ls = ls ≡ name c ∷ []
AreIndexed index.Cmp c None ls = ⊥
AreIndexed index.Lf c (Some d) ls = ⊥
AreIndexed index.Hg c (Some d) ls = ⊥
AreIndexed index.Hng c (Some d) ls = ⊥
AreIndexed index.Cmp c (Some d) ls = (pointwise nat_eq c d ≡ false) × (ls ≡ name c ∷ word Comma ∷ name d ∷ [])

-- ---- INSERT and UPDATE

abbrev pub IsTuple : List Value → List Lexeme → Type 0
IsTuple values ls = (vs : List Lexeme) × AreListed IsLiteral values vs × (ls ≡ word Open ∷ (vs ++ word Close ∷ []))

abbrev pub IsChange : Change → List Lexeme → Type 0
IsChange c ls = ls ≡ name c.column ∷ word Equal ∷ literal c.value ∷ []

-- no change before it is of its column
abbrev pub IsNewChange : List Change → Change → Type 0
IsNewChange before c = has_change before c.column ≡ false

-- [ WHERE cond ]
abbrev pub IsWhere : Option Cond → List Lexeme → Type 0
IsWhere None ls = ls ≡ []
IsWhere (Some c) ls = (cs : List Lexeme) × IsCondition c cs × (ls ≡ word Where ∷ cs)

-- ---- SELECT

abbrev pub item_words : Item → List Lexeme
item_words (item.Plain n) = name n ∷ []
item_words item.CountAll = word Count ∷ word Open ∷ word Star ∷ word Close ∷ []
item_words (item.Count n) = word Count ∷ word Open ∷ name n ∷ word Close ∷ []
item_words (item.Sum n) = word Sum ∷ word Open ∷ name n ∷ word Close ∷ []
item_words (item.Min n) = word Min ∷ word Open ∷ name n ∷ word Close ∷ []
item_words (item.Max n) = word Max ∷ word Open ∷ name n ∷ word Close ∷ []

abbrev pub IsItem : Item → List Lexeme → Type 0
IsItem i ls = ls ≡ item_words i

-- * | item { , item }
abbrev pub AreItems : List Item → List Lexeme → Type 0
AreItems [] ls = ls ≡ word Star ∷ []
AreItems (i ∷ is) ls = AreListed IsItem (i ∷ is) ls

-- [ EXPLAIN ]
abbrev pub explain_words : Bool → List Lexeme
explain_words true = word Explain ∷ []
explain_words false = []

-- [ GROUP BY name { , name } ]
abbrev pub IsGroup : List (List ℕ) → List Lexeme → Type 0
IsGroup [] ls = ls ≡ []
IsGroup (n ∷ ns) ls = (names : List Lexeme) × AreListed IsName (n ∷ ns) names × (ls ≡ word Group ∷ word By ∷ names)

-- name [ ASC | DESC ]
abbrev pub IsWay : Bool → List Lexeme → Type 0
IsWay true ls = ls ≡ word Desc ∷ []
IsWay false ls = (ls ≡ []) ⊎ (ls ≡ word Asc ∷ [])

abbrev pub IsOrdered : TheOrder → List Lexeme → Type 0
IsOrdered o ls = (ws : List Lexeme) × IsWay o.desc ws × (ls ≡ name o.column ∷ ws)

-- [ ORDER BY name [ ASC | DESC ] { , name [ ASC | DESC ] } ]
abbrev pub IsOrder : List TheOrder → List Lexeme → Type 0
IsOrder [] ls = ls ≡ []
IsOrder (o ∷ os) ls = (orders : List Lexeme) × AreListed IsOrdered (o ∷ os) orders × (ls ≡ word Order ∷ word By ∷ orders)

-- the parts of a SELECT behind its word
pub record IsQuery (q : TheSelect) (ls : List Lexeme) : Type 0 where
  pub items : List Lexeme
  pub where_words : List Lexeme
  pub group : List Lexeme
  pub order : List Lexeme
  pub are_items : AreItems q.items items
  pub is_where : IsWhere q.cond where_words
  pub is_group : IsGroup q.group group
  pub is_order : IsOrder q.order order
  pub is : ls ≡ explain_words q.explain ++ word Select ∷ (items ++ word From ∷ name q.table ∷ (where_words ++ (group ++ order)))

-- ---- all statements

abbrev pub IsWrite : Write → List Lexeme → Type 0
IsWrite (write.CreateTable n schema) ls =
    (cs : List Lexeme) × AreListed IsColumn schema.columns cs × Obey IsNewColumn [] schema.columns
    × (ls ≡ word Create ∷ word Table ∷ name n ∷ word Open ∷ (cs ++ word Close ∷ []))
IsWrite (write.DropTable n) ls = ls ≡ word Drop ∷ word Table ∷ name n ∷ []
IsWrite (write.CreateIndex n kind table column second) ls =
    (cs : List Lexeme) × AreIndexed kind column second cs
    × (ls ≡ word Create ∷ word (index_mark kind) ∷ word Index ∷ name n ∷ word On ∷ name table ∷ word Open ∷ (cs ++ word Close ∷ []))
IsWrite (write.DropIndex table n) ls = ls ≡ word Drop ∷ word Index ∷ name table ∷ word Dot ∷ name n ∷ []
IsWrite (write.Insert table rows) ls =
    (rs : List Lexeme) × AreListed IsTuple rows rs × (ls ≡ word Insert ∷ word Into ∷ name table ∷ word Values ∷ rs)
IsWrite (write.Load table rows text) ls =
    (text ≡ []) × (0 < rows) × (rows ≤ 1000000) × (ls ≡ word Load ∷ word Table ∷ name table ∷ word Rows ∷ lexeme.Number (pos rows) ∷ [])
IsWrite (write.Delete table cond) ls =
    (ws : List Lexeme) × IsWhere cond ws × (ls ≡ word Delete ∷ word From ∷ name table ∷ ws)
IsWrite (write.Update table changes cond) ls =
    (cs : List Lexeme) × (ws : List Lexeme) × AreListed IsChange changes cs × Obey IsNewChange [] changes × IsWhere cond ws
    × (ls ≡ word Update ∷ name table ∷ word Set ∷ (cs ++ ws))

abbrev pub IsStatement : Statement → List Lexeme → Type 0
IsStatement (statement.Write w) ls = IsWrite w ls
IsStatement (statement.Select q) ls = IsQuery q ls
IsStatement statement.Begin ls = ls ≡ word Begin ∷ word Transaction ∷ []
IsStatement statement.Commit ls = ls ≡ word Commit ∷ []
IsStatement statement.Rollback ls = ls ≡ word Rollback ∷ []
IsStatement (statement.Savepoint n) ls = ls ≡ word Savepoint ∷ name n ∷ []
IsStatement (statement.BackTo n) ls = ls ≡ word Rollback ∷ word To ∷ word Savepoint ∷ name n ∷ []
IsStatement (statement.Release n) ls = ls ≡ word Release ∷ word Savepoint ∷ name n ∷ []
IsStatement statement.Sync ls = ls ≡ word Sync ∷ []

-- nothing, or a semicolon
abbrev pub IsEnd : List Lexeme → Type 0
IsEnd ls = (ls ≡ []) ⊎ (ls ≡ word Semicolon ∷ [])

-- the tokens are a text of the statement
pub record IsText (s : Statement) (text : List Lexeme) : Type 0 where
  pub words : List Lexeme
  pub end : List Lexeme
  pub says : IsStatement s words
  pub ends : IsEnd end
  pub is : text ≡ words ++ end

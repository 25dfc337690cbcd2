-- Statements that the grammar by cases spells are spellable.
use Rattle.std.proofs.Common.{◌<◌, ℕ, Bool, true, false, List, [], ◌∷◌, ◌++◌, length, Option, Some, None, refl, subst}
use Rattle.iq_base.specs.declared.values.Value.{Value}
use Rattle.iq_base.specs.declared.schemas.Column.{Column}
use Rattle.iq_base.specs.declared.schemas.IndexKind.{IndexKind}
use Rattle.iq_base.specs.declared.schemas.IndexKind.TheVariants as index
use Rattle.iq_ast.specs.declared.conditions.Cond.{Cond}
use Rattle.iq_ast.specs.declared.statements.Item.{Item}
use Rattle.iq_ast.specs.declared.statements.Order.{Order as TheOrder}
use Rattle.iq_ast.specs.declared.statements.Change.{Change}
use Rattle.iq_ast.specs.declared.statements.Select.{Select as TheSelect}
use Rattle.iq_ast.specs.declared.statements.Write.{Write}
use Rattle.iq_ast.specs.declared.statements.Write.TheVariants as write
use Rattle.iq_ast.specs.declared.statements.Statement.{Statement}
use Rattle.iq_ast.specs.declared.statements.Statement.TheVariants as statement
use Rattle.iq_tokens.specs.declared.tokens.Mark.TheVariants.{Create, Insert, Into, Values, Table, Delete, From, Update, Set, Select, Open, Close, Index, On, Comma, Group, By, Order, Where}
use Rattle.iq_tokens.specs.declared.tokens.Lexeme.{Lexeme}
use Rattle.iq_spelling.specs.Lists.{word, name, IsName, IsLiteral, AreListed}
use Rattle.iq_spelling.specs.Texts.{kind_words, IsKind, IsNullness, IsColumn, index_mark, AreIndexed, IsTuple, IsChange, IsWhere, item_words, IsItem, AreItems, explain_words, IsGroup, IsWay, IsOrdered, IsOrder, IsQuery, IsWrite, IsStatement, IsText}
use Rattle.iq_token_text.specs.Tokens.{AreLexemes}
use Rattle.iq_print.specs.Conditions.{listed, value_words}
use Rattle.iq_print.specs.Words.{name_words, nullness_words, column_words, indexed_words, tuple_words, change_words, where_words, items_words, group_words, way_words, ordered_words, order_words, statement_words}
use Rattle.iq_print.specs.Spellable.{AreIndexed as IndexOfRules, IsWhere as WhereOfRules, IsOfRules, IsSpellable}
use Rattle.iq_print.proofs.CondsSpelled.{left, right, both, inside, behind, members, some, joined_real, comma_real, values_real, condition_can}

-- a list by its members
listed_real : {A : Type 0} (P : A → List Lexeme → Type 0) (f : A → List Lexeme) → ((x : A) (ls : List Lexeme) → P x ls → AreLexemes ls → AreLexemes (f x)) → (xs : List A) (ls : List Lexeme)
    → AreListed P xs ls → AreLexemes ls → AreLexemes (listed f xs)
listed_real {A = A} P f real xs ls are all = joined_real Comma f comma_real xs (members Comma P (λ (x : A). AreLexemes (f x)) real xs ls are all)

-- ---- parts

nullness_real : (null : Bool) (ns : List Lexeme) → IsNullness null ns → AreLexemes ns → AreLexemes (nullness_words null)
nullness_real true ns is all = tt
nullness_real false ns is all = subst AreLexemes is all

column_real : (c : Column) (ls : List Lexeme) → IsColumn c ls → AreLexemes ls → AreLexemes (column_words c)
column_real c ls (ns, kinds, null, is) all = behind (name c.name ∷ kind_words c.kind) ns (nullness_words c.null) (nullness_real c.null ns null) (subst AreLexemes is all)

kinds_of : (c : Column) (ls : List Lexeme) → IsColumn c ls → AreLexemes ls → IsKind c.kind
kinds_of c ls is all = is.1

indexed_real : (kind : IndexKind) (c : List ℕ) (second : Option (List ℕ)) (ls : List Lexeme) → AreIndexed kind c second ls → (AreLexemes ls → AreLexemes (indexed_words c second)) × IndexOfRules kind c second
indexed_real index.Lf c None ls is = (λ all. subst AreLexemes is all, refl)
indexed_real index.Hg c None ls is = (λ all. subst AreLexemes is all, refl)
indexed_real index.Hng c None ls is = (λ all. subst AreLexemes is all, refl)
indexed_real index.Cmp c None ls is = absurd is
indexed_real index.Lf c (Some d) ls is = absurd is
indexed_real index.Hg c (Some d) ls is = absurd is
indexed_real index.Hng c (Some d) ls is = absurd is
indexed_real index.Cmp c (Some d) ls (differ, is) = (λ all. subst AreLexemes is all, differ)

tuple_real : (values : List Value) (ls : List Lexeme) → IsTuple values ls → AreLexemes ls → AreLexemes (tuple_words values)
tuple_real values ls (vs, are, is) all = inside (word Open ∷ []) vs (listed value_words values) (word Close ∷ []) (values_real values vs are) (subst AreLexemes is all)

tuple_some : (values : List Value) (ls : List Lexeme) → IsTuple values ls → AreLexemes ls → 0 < length values
tuple_some values ls (vs, are, is) all = some Comma IsLiteral values vs are

change_real : (c : Change) (ls : List Lexeme) → IsChange c ls → AreLexemes ls → AreLexemes (change_words c)
change_real c ls is all = subst AreLexemes is all

where_real : (cond : Option Cond) (ls : List Lexeme) → IsWhere cond ls → AreLexemes ls → AreLexemes (where_words cond)
where_real None ls is all = tt
where_real (Some c) ls (cs, says, is) all =
    let here : AreLexemes (word Where ∷ cs) = subst AreLexemes is all in
    (here.0, (condition_can c cs says here.1).1)

where_rule : (cond : Option Cond) (ls : List Lexeme) → IsWhere cond ls → AreLexemes ls → WhereOfRules cond
where_rule None ls is all = tt
where_rule (Some c) ls (cs, says, is) all =
    let here : AreLexemes (word Where ∷ cs) = subst AreLexemes is all in
    (condition_can c cs says here.1).0

item_real : (i : Item) (ls : List Lexeme) → IsItem i ls → AreLexemes ls → AreLexemes (item_words i)
item_real i ls is all = subst AreLexemes is all

items_real : (is : List Item) (ls : List Lexeme) → AreItems is ls → AreLexemes ls → AreLexemes (items_words is)
items_real [] ls are all = subst AreLexemes are all
items_real (i ∷ is) ls are all = listed_real IsItem item_words item_real (i ∷ is) ls are all

name_real : (n : List ℕ) (ls : List Lexeme) → IsName n ls → AreLexemes ls → AreLexemes (name_words n)
name_real n ls is all = subst AreLexemes is all

group_real : (ns : List (List ℕ)) (ls : List Lexeme) → IsGroup ns ls → AreLexemes ls → AreLexemes (group_words ns)
group_real [] ls is all = tt
group_real (n ∷ ns) ls (names, are, is) all = behind (word Group ∷ word By ∷ []) names (listed name_words (n ∷ ns)) (listed_real IsName name_words name_real (n ∷ ns) names are) (subst AreLexemes is all)

way_real : (desc : Bool) (ws : List Lexeme) → IsWay desc ws → AreLexemes ws → AreLexemes (way_words desc)
way_real true ws is all = subst AreLexemes is all
way_real false ws is all = tt

ordered_real : (o : TheOrder) (ls : List Lexeme) → IsOrdered o ls → AreLexemes ls → AreLexemes (ordered_words o)
ordered_real o ls (ws, way, is) all = behind (name o.column ∷ []) ws (way_words o.desc) (way_real o.desc ws way) (subst AreLexemes is all)

order_real : (os : List TheOrder) (ls : List Lexeme) → IsOrder os ls → AreLexemes ls → AreLexemes (order_words os)
order_real [] ls is all = tt
order_real (o ∷ os) ls (orders, are, is) all = behind (word Order ∷ word By ∷ []) orders (listed ordered_words (o ∷ os)) (listed_real IsOrdered ordered_words ordered_real (o ∷ os) orders are) (subst AreLexemes is all)

-- ---- statements

-- its printed tokens are real, and it is of the rules
abbrev Can : Statement → Type 0
Can s = AreLexemes (statement_words s) × IsOfRules s

select_can : (q : TheSelect) (ls : List Lexeme) → IsQuery q ls → AreLexemes ls → Can (statement.Select q)
select_can q ls query all =
    let front = explain_words q.explain ++ word Select ∷ [] in
    let rest = query.where_words ++ (query.group ++ query.order) in
    let here : AreLexemes (explain_words q.explain ++ (word Select ∷ (query.items ++ word From ∷ name q.table ∷ rest))) = subst AreLexemes query.is all in
    let behind_explain = right (explain_words q.explain) (word Select ∷ (query.items ++ word From ∷ name q.table ∷ rest)) here in
    let items = left query.items (word From ∷ name q.table ∷ rest) behind_explain.1 in
    let from = right query.items (word From ∷ name q.table ∷ rest) behind_explain.1 in
    let filtered = left query.where_words (query.group ++ query.order) from.1.1 in
    let sorted = right query.where_words (query.group ++ query.order) from.1.1 in
    let orders = both (group_words q.group) (order_words q.order) (group_real q.group query.group query.is_group (left query.group query.order sorted)) (order_real q.order query.order query.is_order (right query.group query.order sorted)) in
    let clauses = both (where_words q.cond) (group_words q.group ++ order_words q.order) (where_real q.cond query.where_words query.is_where filtered) orders in (
      both (explain_words q.explain) (word Select ∷ (items_words q.items ++ word From ∷ name q.table ∷ (where_words q.cond ++ (group_words q.group ++ order_words q.order))))
          (left (explain_words q.explain) (word Select ∷ (query.items ++ word From ∷ name q.table ∷ rest)) here) (
            behind_explain.0,
            both (items_words q.items) (word From ∷ name q.table ∷ (where_words q.cond ++ (group_words q.group ++ order_words q.order)))
                (items_real q.items query.items query.are_items items) (from.0, (from.1.0, clauses)),
          ),
      where_rule q.cond query.where_words query.is_where filtered,
    )

write_can : (w : Write) (ls : List Lexeme) → IsWrite w ls → AreLexemes ls → Can (statement.Write w)
write_can (write.CreateTable n schema) ls (cs, are, new, is) all =
    let here : AreLexemes ((word Create ∷ word Table ∷ name n ∷ word Open ∷ []) ++ (cs ++ word Close ∷ [])) = subst AreLexemes is all in
    let columns = left cs (word Close ∷ []) (right (word Create ∷ word Table ∷ name n ∷ word Open ∷ []) (cs ++ word Close ∷ []) here) in (
      inside (word Create ∷ word Table ∷ name n ∷ word Open ∷ []) cs (listed column_words schema.columns) (word Close ∷ []) (listed_real IsColumn column_words column_real schema.columns cs are) here,
      record { some = some Comma IsColumn schema.columns cs are; kinds = members Comma IsColumn (λ (c : Column). IsKind c.kind) kinds_of schema.columns cs are columns; new = new },
    )
write_can (write.DropTable n) ls is all = (subst AreLexemes is all, tt)
write_can (write.CreateIndex n kind table column second) ls (cs, are, is) all =
    let here = indexed_real kind column second cs are in
    (inside (word Create ∷ word (index_mark kind) ∷ word Index ∷ name n ∷ word On ∷ name table ∷ word Open ∷ []) cs (indexed_words column second) (word Close ∷ []) here.0 (subst AreLexemes is all), here.1)
write_can (write.DropIndex table n) ls is all = (subst AreLexemes is all, tt)
write_can (write.Insert table rows) ls (rs, are, is) all =
    let here : AreLexemes ((word Insert ∷ word Into ∷ name table ∷ word Values ∷ []) ++ rs) = subst AreLexemes is all in
    let tuples = right (word Insert ∷ word Into ∷ name table ∷ word Values ∷ []) rs here in (
      behind (word Insert ∷ word Into ∷ name table ∷ word Values ∷ []) rs (listed tuple_words rows) (listed_real IsTuple tuple_words tuple_real rows rs are) here,
      record { some = some Comma IsTuple rows rs are; each = members Comma IsTuple (λ (values : List Value). 0 < length values) tuple_some rows rs are tuples },
    )
write_can (write.Load table rows text) ls (none, low, high, is) all = (subst AreLexemes is all, (none, low, high))
write_can (write.Delete table cond) ls (ws, says, is) all =
    let here : AreLexemes ((word Delete ∷ word From ∷ name table ∷ []) ++ ws) = subst AreLexemes is all in (
      behind (word Delete ∷ word From ∷ name table ∷ []) ws (where_words cond) (where_real cond ws says) here,
      where_rule cond ws says (right (word Delete ∷ word From ∷ name table ∷ []) ws here),
    )
write_can (write.Update table changes cond) ls (cs, ws, are, new, says, is) all =
    let here : AreLexemes ((word Update ∷ name table ∷ word Set ∷ []) ++ (cs ++ ws)) = subst AreLexemes is all in
    let parts = right (word Update ∷ name table ∷ word Set ∷ []) (cs ++ ws) here in (
      behind (word Update ∷ name table ∷ word Set ∷ []) (cs ++ ws) (listed change_words changes ++ where_words cond)
          (λ (p : AreLexemes (cs ++ ws)). both (listed change_words changes) (where_words cond) (listed_real IsChange change_words change_real changes cs are (left cs ws p)) (where_real cond ws says (right cs ws p))) here,
      (some Comma IsChange changes cs are, new, where_rule cond ws says (right cs ws parts)),
    )

statement_can : (s : Statement) (ls : List Lexeme) → IsStatement s ls → AreLexemes ls → Can s
statement_can (statement.Write w) ls is all = write_can w ls is all
statement_can (statement.Select q) ls is all = select_can q ls is all
statement_can statement.Begin ls is all = (subst AreLexemes is all, tt)
statement_can statement.Commit ls is all = (subst AreLexemes is all, tt)
statement_can statement.Rollback ls is all = (subst AreLexemes is all, tt)
statement_can (statement.Savepoint n) ls is all = (subst AreLexemes is all, tt)
statement_can (statement.BackTo n) ls is all = (subst AreLexemes is all, tt)
statement_can (statement.Release n) ls is all = (subst AreLexemes is all, tt)
statement_can statement.Sync ls is all = (subst AreLexemes is all, tt)

pub text_can : (s : Statement) (text : List Lexeme) → IsText s text → AreLexemes text → IsSpellable s
text_can s text says all =
    let here = statement_can s says.words says.says (left says.words says.end (subst AreLexemes says.is all)) in
    record { tokens = here.0; rules = here.1 }

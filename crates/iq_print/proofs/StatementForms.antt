-- The tokens that a statement is printed as are a text of it.
use Rattle.std.proofs.Common.{◌≡◌, ◌<◌, ℕ, Bool, true, false, List, [], ◌∷◌, length, Option, Some, None, refl, sym, ap, subst, ◌∙◌, inl, append-nil, arith}
use Rattle.std.specs.List.{AllByRecursion}
use Rattle.iq_base.specs.declared.values.Value.{Value}
use Rattle.iq_base.specs.declared.schemas.Column.{Column}
use Rattle.iq_base.specs.declared.schemas.IndexKind.{IndexKind}
use Rattle.iq_base.specs.declared.schemas.IndexKind.TheVariants as index
use Rattle.iq_ast.specs.declared.conditions.Cond.{Cond}
use Rattle.iq_ast.specs.declared.statements.Item.{Item}
use Rattle.iq_ast.specs.declared.statements.Order.{Order as TheOrder}
use Rattle.iq_ast.specs.declared.statements.Change.{Change}
use Rattle.iq_ast.specs.declared.statements.Select.{Select as TheSelect}
use Rattle.iq_ast.specs.declared.statements.Write.{Write}
use Rattle.iq_ast.specs.declared.statements.Write.TheVariants as write
use Rattle.iq_ast.specs.declared.statements.Statement.{Statement}
use Rattle.iq_ast.specs.declared.statements.Statement.TheVariants as statement
use Rattle.iq_tokens.specs.declared.tokens.Mark.TheVariants.{Comma}
use Rattle.iq_tokens.specs.declared.tokens.Lexeme.{Lexeme}
use Rattle.iq_grammar.specs.Statements.{AreTokensOf, IsStatementOf}
use Rattle.iq_spelling.specs.Lists.{IsName, IsLiteral}
use Rattle.iq_spelling.specs.Texts.{IsKind, IsNullness, IsColumn, AreIndexed, IsTuple, IsChange, IsWhere, item_words, IsItem, AreItems, IsGroup, IsWay, IsOrdered, IsOrder, IsQuery, IsWrite, IsStatement, IsText}
use Rattle.iq_spelling.proofs.Whole.{text_reads}
use Rattle.iq_token_text.specs.Texts.{tokens_text}
use Rattle.iq_token_text.proofs.Cutting.{printed_cut}
use Rattle.iq_print.specs.Conditions.{listed, value_words, cond_words}
use Rattle.iq_print.specs.Words.{name_words, nullness_words, column_words, indexed_words, tuple_words, change_words, where_words, items_words, group_words, way_words, ordered_words, order_words, select_words, write_words, statement_words, statement_text}
use Rattle.iq_print.specs.Spellable.{AreIndexed as IndexOfRules, IsWhere as WhereOfRules, IsWriteOfRules, IsOfRules, IsSpellable, without_text}
use Rattle.iq_print.proofs.CondForms.{are_joined, all_literals, holds}

-- ---- parts

nullness_is : (null : Bool) → IsNullness null (nullness_words null)
nullness_is true = inl refl
nullness_is false = refl

all_columns : (cs : List Column) → AllByRecursion (λ (c : Column). IsKind c.kind) cs → AllByRecursion (λ (c : Column). IsColumn c (column_words c)) cs
all_columns [] kinds = tt
all_columns (c ∷ cs) kinds = ((nullness_words c.null, kinds.0, nullness_is c.null, refl), all_columns cs kinds.1)

indexed_is : (kind : IndexKind) (c : List ℕ) (second : Option (List ℕ)) → IndexOfRules kind c second → AreIndexed kind c second (indexed_words c second)
indexed_is index.Lf c None rule = refl
indexed_is index.Hg c None rule = refl
indexed_is index.Hng c None rule = refl
indexed_is index.Cmp c None rule = rule
indexed_is index.Lf c (Some d) rule = absurd cc
indexed_is index.Hg c (Some d) rule = absurd cc
indexed_is index.Hng c (Some d) rule = absurd cc
indexed_is index.Cmp c (Some d) rule = (rule, refl)

all_tuples : (rows : List (List Value)) → AllByRecursion (λ (values : List Value). 0 < length values) rows → AllByRecursion (λ (values : List Value). IsTuple values (tuple_words values)) rows
all_tuples [] some = tt
all_tuples (values ∷ rows) some =
    ((listed value_words values, are_joined Comma IsLiteral value_words values some.0 (all_literals values), refl), all_tuples rows some.1)

all_changes : (cs : List Change) → AllByRecursion (λ (c : Change). IsChange c (change_words c)) cs
all_changes [] = tt
all_changes (c ∷ cs) = (refl, all_changes cs)

where_is : (cond : Option Cond) → WhereOfRules cond → IsWhere cond (where_words cond)
where_is None rule = refl
where_is (Some c) rule = (cond_words c, (holds c rule.members).disjunction 64 rule.shallow, refl)

all_items : (is : List Item) → AllByRecursion (λ (i : Item). IsItem i (item_words i)) is
all_items [] = tt
all_items (i ∷ is) = (refl, all_items is)

items_are : (is : List Item) → AreItems is (items_words is)
items_are [] = refl
items_are (i ∷ is) = are_joined Comma IsItem item_words (i ∷ is) (omega arith) (all_items (i ∷ is))

all_names : (ns : List (List ℕ)) → AllByRecursion (λ (n : List ℕ). IsName n (name_words n)) ns
all_names [] = tt
all_names (n ∷ ns) = (refl, all_names ns)

group_is : (ns : List (List ℕ)) → IsGroup ns (group_words ns)
group_is [] = refl
group_is (n ∷ ns) = (listed name_words (n ∷ ns), are_joined Comma IsName name_words (n ∷ ns) (omega arith) (all_names (n ∷ ns)), refl)

way_is : (desc : Bool) → IsWay desc (way_words desc)
way_is true = refl
way_is false = inl refl

all_ordered : (os : List TheOrder) → AllByRecursion (λ (o : TheOrder). IsOrdered o (ordered_words o)) os
all_ordered [] = tt
all_ordered (o ∷ os) = ((way_words o.desc, way_is o.desc, refl), all_ordered os)

order_is : (os : List TheOrder) → IsOrder os (order_words os)
order_is [] = refl
order_is (o ∷ os) = (listed ordered_words (o ∷ os), are_joined Comma IsOrdered ordered_words (o ∷ os) (omega arith) (all_ordered (o ∷ os)), refl)

-- ---- statements

select_is : (q : TheSelect) → WhereOfRules q.cond → IsQuery q (select_words q)
select_is q rule = record {
  items = items_words q.items;
  where_words = where_words q.cond;
  group = group_words q.group;
  order = order_words q.order;
  are_items = items_are q.items;
  is_where = where_is q.cond rule;
  is_group = group_is q.group;
  is_order = order_is q.order;
  is = refl;
}

write_is : (w : Write) → IsWriteOfRules w → IsWrite w (write_words w)
write_is (write.CreateTable n schema) rule =
    (listed column_words schema.columns, are_joined Comma IsColumn column_words schema.columns rule.some (all_columns schema.columns rule.kinds), rule.new, refl)
write_is (write.DropTable n) rule = refl
write_is (write.CreateIndex n kind table column second) rule = (indexed_words column second, indexed_is kind column second rule, refl)
write_is (write.DropIndex table n) rule = refl
write_is (write.Insert table rows) rule = (listed tuple_words rows, are_joined Comma IsTuple tuple_words rows rule.some (all_tuples rows rule.each), refl)
write_is (write.Load table rows text) rule = (rule.0, rule.1, rule.2, refl)
write_is (write.Delete table cond) rule = (where_words cond, where_is cond rule, refl)
write_is (write.Update table changes cond) rule =
    (listed change_words changes, where_words cond, are_joined Comma IsChange change_words changes rule.0 (all_changes changes), rule.1, where_is cond rule.2, refl)

statement_is : (s : Statement) → IsOfRules s → IsStatement s (statement_words s)
statement_is (statement.Write w) rule = write_is w rule
statement_is (statement.Select q) rule = select_is q rule
statement_is statement.Begin rule = refl
statement_is statement.Commit rule = refl
statement_is statement.Rollback rule = refl
statement_is (statement.Savepoint n) rule = refl
statement_is (statement.BackTo n) rule = refl
statement_is (statement.Release n) rule = refl
statement_is statement.Sync rule = refl

pub text_is : (s : Statement) → IsSpellable s → IsText s (statement_words s)
text_is s can = record { words = statement_words s; end = []; says = statement_is s can.rules; ends = inl refl; is = sym (append-nil (statement_words s)) }

pub text_is_read : (s : Statement) → IsSpellable s → IsStatementOf (statement_text s) s
text_is_read s can = subst (λ (ls : List Lexeme). AreTokensOf ls s) (sym (printed_cut (statement_words s) can.tokens)) (text_reads s (statement_words s) (text_is s can))

-- a LOAD is printed without its text
same_words : (s : Statement) → statement_words (without_text s) ≡ statement_words s
same_words (statement.Write (write.CreateTable n schema)) = refl
same_words (statement.Write (write.DropTable n)) = refl
same_words (statement.Write (write.CreateIndex n kind table column second)) = refl
same_words (statement.Write (write.DropIndex table n)) = refl
same_words (statement.Write (write.Insert table rows)) = refl
same_words (statement.Write (write.Load table rows text)) = refl
same_words (statement.Write (write.Delete table cond)) = refl
same_words (statement.Write (write.Update table changes cond)) = refl
same_words (statement.Select q) = refl
same_words statement.Begin = refl
same_words statement.Commit = refl
same_words statement.Rollback = refl
same_words (statement.Savepoint n) = refl
same_words (statement.BackTo n) = refl
same_words (statement.Release n) = refl
same_words statement.Sync = refl

pub printed_spells : (s : Statement) (text : List ℕ) → text ≡ statement_text s → IsSpellable (without_text s) → IsStatementOf text (without_text s)
printed_spells s text is can =
    subst (λ (l : List ℕ). IsStatementOf l (without_text s)) (ap tokens_text (same_words s) ∙ sym is) (text_is_read (without_text s) can)

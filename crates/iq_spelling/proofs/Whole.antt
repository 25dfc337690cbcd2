-- Each text of a statement is read as that statement.
use Rattle.std.proofs.Common.{◌≡◌, ◌<◌, ◌≤◌, ℕ, Bool, true, false, List, [], ◌∷◌, ◌++◌, Option, Some, None, Result, Ok, refl, sym, ap, subst, ◌∙◌, append_assoc, inl, inr, pos, arith}
use Rattle.std.specs.Prelude.{nat_eq, nat_lt, nat_le}
use Rattle.std.specs.Cmp.Lexicographic.{pointwise}
use Rattle.std.proofs.lemmas.Bool.Decides.{nat_tests}
use Rattle.iq_base.specs.declared.values.Value.{Value}
use Rattle.iq_base.specs.declared.schemas.Column.{Column}
use Rattle.iq_base.specs.declared.schemas.IndexKind.{IndexKind}
use Rattle.iq_base.specs.declared.schemas.IndexKind.TheVariants as index
use Rattle.iq_ast.specs.declared.conditions.Cond.{Cond}
use Rattle.iq_ast.specs.declared.statements.Item.{Item}
use Rattle.iq_ast.specs.declared.statements.Change.{Change}
use Rattle.iq_ast.specs.declared.statements.Select.{Select as TheSelect}
use Rattle.iq_ast.specs.declared.statements.Write.{Write}
use Rattle.iq_ast.specs.declared.statements.Write.TheVariants as write
use Rattle.iq_ast.specs.declared.statements.Statement.{Statement}
use Rattle.iq_ast.specs.declared.statements.Statement.TheVariants as statement
use Rattle.iq_tokens.specs.declared.tokens.Mark.TheVariants.{Create, Drop, Insert, Into, Values, Load, Table, Rows, Delete, From, Update, Set, Equal, Select, Begin, Transaction, Commit, Rollback, Savepoint, Release, Sync, To, Open, Close, Index, On, Comma, Dot, Star, Semicolon, Where, Group, Order as OrderMark}
use Rattle.iq_tokens.specs.declared.tokens.Lexeme.{Lexeme}
use Rattle.iq_tokens.specs.declared.tokens.Lexeme.TheVariants as lexeme
use Rattle.iq_tokens.specs.declared.tokens.Kind.TheVariants.{Name}
use Rattle.iq_tokens.specs.Kinds.{same, same_mark}
use Rattle.iq_grammar.specs.declared.grammar.Form.TheVariants as form
use Rattle.iq_grammar.specs.declared.grammar.Part.TheVariants as part
use Rattle.iq_grammar.specs.declared.grammar.Role.TheVariants as role
use Rattle.iq_grammar.specs.declared.grammar.Symbol.TheVariants.{Word, Go}
use Rattle.iq_grammar.specs.declared.draft.Draft.{Draft}
use Rattle.iq_grammar.specs.Grammar.{lines, may_lack, after, can_end, word as passed}
use Rattle.iq_grammar.specs.Draft.{put, empty}
use Rattle.iq_grammar.specs.Reading.{run, next, statement as whole_statement, IsSpelled}
use Rattle.iq_grammar.specs.Statements.{statement_of, AreTokensOf}
use Rattle.iq_grammar.proofs.Sound.{follow, marks_behind}
use Rattle.iq_grammar.proofs.Laws.{placed, lexemes-placed, run_found}
use Rattle.iq_spelling.specs.Lists.{word, name, AreListed, Obey}
use Rattle.iq_spelling.specs.Texts.{IsColumn, IsNewColumn, index_mark, AreIndexed, IsTuple, IsChange, IsNewChange, IsWhere, AreItems, explain_words, IsQuery, IsWrite, IsStatement, IsEnd, IsText}
use Rattle.iq_spelling.proofs.Parts.{reads, Behind, skip}
use Rattle.iq_spelling.proofs.Items.{columns_read, tuples_read, changes_read, items_read}
use Rattle.iq_spelling.proofs.Clauses.{IsBehind, behind_end, behind_order, behind_group, behind_where, where_reads, group_reads, order_reads}

-- the tokens are read as the statement
record Reaches (ls : List Lexeme) (s : Statement) : Type 0 where
  draft : Draft
  goes : reads empty whole_statement ls ≡ Ok draft
  is : statement_of draft ≡ s

-- where nothing but the end is left
abbrev ends_at : Draft → List Lexeme → Result Draft ℕ
ends_at d end = reads d (Go part.End ∷ []) end

end_reads : (d : Draft) (end : List Lexeme) → IsEnd end → ends_at d end ≡ Ok d
unfolding run next after lines may_lack same same_mark put can_end
end_reads d end (inl none) = ap (λ (l : List Lexeme). ends_at d l) none
end_reads d end (inr is) = ap (λ (l : List Lexeme). ends_at d l) is

reaches : (ls us end : List Lexeme) (d : Draft) (s : Statement) → ls ≡ us → reads empty whole_statement us ≡ ends_at d end → IsEnd end → statement_of d ≡ s → Reaches ls s
reaches ls us end d s text goes ends is = record { draft = d; goes = ap (λ (l : List Lexeme). reads empty whole_statement l) text ∙ goes ∙ end_reads d end ends; is = is }

-- ---- statements of a few words

short_reads : (n : List ℕ) (end : List Lexeme)
    → (reads empty whole_statement (word Begin ∷ word Transaction ∷ end) ≡ ends_at (record empty { form = form.Begin }) end)
    × (reads empty whole_statement (word Commit ∷ end) ≡ ends_at (record empty { form = form.Commit }) end)
    × (reads empty whole_statement (word Savepoint ∷ name n ∷ end) ≡ ends_at (record empty { form = form.Savepoint; name = n }) end)
    × (reads empty whole_statement (word Rollback ∷ word To ∷ word Savepoint ∷ name n ∷ end) ≡ ends_at (record empty { form = form.BackTo; name = n }) end)
    × (reads empty whole_statement (word Release ∷ word Savepoint ∷ name n ∷ end) ≡ ends_at (record empty { form = form.Release; name = n }) end)
    × (reads empty whole_statement (word Sync ∷ end) ≡ ends_at (record empty { form = form.Sync }) end)
    × (reads empty whole_statement (word Rollback ∷ end) ≡ reads (record empty { form = form.Rollback }) (Go part.BackTo ∷ Go part.End ∷ []) end)
    × (reads empty whole_statement (word Drop ∷ word Table ∷ name n ∷ end) ≡ ends_at (record empty { form = form.DropTable; table = n }) end)
unfolding run next after lines may_lack same same_mark put
short_reads n end = (refl, refl, refl, refl, refl, refl, refl, refl)

drop_index_reads : (t n : List ℕ) (end : List Lexeme)
    → reads empty whole_statement (word Drop ∷ word Index ∷ name t ∷ word Dot ∷ name n ∷ end) ≡ ends_at (record empty { form = form.DropIndex; table = t; name = n }) end
unfolding run next after lines may_lack same same_mark put
drop_index_reads t n end = refl

load_reads : (t : List ℕ) (rows : ℕ) (end : List Lexeme) → 0 < rows → rows ≤ 1000000
    → reads empty whole_statement (word Load ∷ word Table ∷ name t ∷ word Rows ∷ lexeme.Number (pos rows) ∷ end) ≡ ends_at (record empty { form = form.Load; table = t; count = rows }) end
unfolding run next after lines may_lack same same_mark put
load_reads t rows end some few =
    let more : nat_lt 0 rows ≡ true = grind (arith, nat_tests) in
    let most : nat_le rows 1000000 ≡ true = grind (arith, nat_tests) in
    rw (more, most) refl

-- the semicolon may stand behind each part that ends a statement
semicolon_behind : IsBehind part.BackTo Semicolon × IsBehind part.MoreTuples Semicolon × IsBehind part.Where Semicolon × IsBehind part.MoreAnd Semicolon × IsBehind part.MoreOr Semicolon × IsBehind part.MoreChanges Semicolon
unfolding follow marks_behind same same_mark
semicolon_behind = (refl, refl, refl, refl, refl, refl)

-- ---- CREATE TABLE

abbrev create_table : List ℕ → List Column → Draft
create_table n cs = record empty { form = form.CreateTable; table = n; columns = cs }

create_table_begins : (n : List ℕ) (ts : List Lexeme)
    → reads empty whole_statement (word Create ∷ word Table ∷ name n ∷ word Open ∷ ts) ≡ reads (create_table n []) (Go part.Column ∷ Go part.MoreColumns ∷ passed Close ∷ Go part.End ∷ []) ts
unfolding run next after lines may_lack same same_mark put
create_table_begins n ts = refl

create_table_ends : (n : List ℕ) (cs : List Column) (end : List Lexeme)
    → reads (create_table n cs) (Go part.MoreColumns ∷ passed Close ∷ Go part.End ∷ []) (word Close ∷ end) ≡ ends_at (create_table n cs) end
unfolding run next after lines may_lack same same_mark put
create_table_ends n cs end = refl

close_behind : (end : List Lexeme) → Behind part.Nullness (word Close ∷ end)
unfolding follow marks_behind same same_mark
close_behind end = refl

create_table_reads : (n : List ℕ) (columns : List Column) (cs end : List Lexeme) → AreListed IsColumn columns cs → Obey IsNewColumn [] columns
    → reads empty whole_statement (word Create ∷ word Table ∷ name n ∷ word Open ∷ (cs ++ (word Close ∷ end))) ≡ ends_at (create_table n columns) end
create_table_reads n columns cs end are obey =
    create_table_begins n (cs ++ (word Close ∷ end))
    ∙ columns_read (create_table n []) columns cs (passed Close ∷ Go part.End ∷ []) (word Close ∷ end) are obey (close_behind end)
    ∙ create_table_ends n columns end

-- ---- CREATE INDEX

abbrev compared : List ℕ → List ℕ → List ℕ → Draft
compared n t c = record empty { form = form.CreateIndex; name = n; index = index.Cmp; table = t; first = c }

compare_begins : (n t c : List ℕ) (ts : List Lexeme)
    → reads empty whole_statement (word Create ∷ word (index_mark index.Cmp) ∷ word Index ∷ name n ∷ word On ∷ name t ∷ word Open ∷ name c ∷ word Comma ∷ ts)
    ≡ reads (compared n t c) (Word Name role.Second ∷ passed Close ∷ Go part.End ∷ []) ts
unfolding run next after lines may_lack same same_mark put
compare_begins n t c ts = refl

second_reads : (d : Draft) (m : List ℕ) (end : List Lexeme) → pointwise nat_eq d.first m ≡ false
    → reads d (Word Name role.Second ∷ passed Close ∷ Go part.End ∷ []) (name m ∷ word Close ∷ end) ≡ ends_at (record d { second = Some m }) end
unfolding run next after lines may_lack same same_mark put
second_reads d m end differ = rw differ refl

create_index_reads : (n : List ℕ) (kind : IndexKind) (t c : List ℕ) (second : Option (List ℕ)) (cs end : List Lexeme) → AreIndexed kind c second cs
    → reads empty whole_statement (word Create ∷ word (index_mark kind) ∷ word Index ∷ name n ∷ word On ∷ name t ∷ word Open ∷ (cs ++ (word Close ∷ end)))
    ≡ ends_at (record empty { form = form.CreateIndex; name = n; index = kind; table = t; first = c; second = second }) end
unfolding run next after lines may_lack same same_mark put
create_index_reads n index.Lf t c None cs end is = ap (λ (l : List Lexeme). reads empty whole_statement (word Create ∷ word (index_mark index.Lf) ∷ word Index ∷ name n ∷ word On ∷ name t ∷ word Open ∷ (l ++ (word Close ∷ end)))) is
create_index_reads n index.Hg t c None cs end is = ap (λ (l : List Lexeme). reads empty whole_statement (word Create ∷ word (index_mark index.Hg) ∷ word Index ∷ name n ∷ word On ∷ name t ∷ word Open ∷ (l ++ (word Close ∷ end)))) is
create_index_reads n index.Hng t c None cs end is = ap (λ (l : List Lexeme). reads empty whole_statement (word Create ∷ word (index_mark index.Hng) ∷ word Index ∷ name n ∷ word On ∷ name t ∷ word Open ∷ (l ++ (word Close ∷ end)))) is
create_index_reads n index.Cmp t c None cs end none = absurd none
create_index_reads n index.Lf t c (Some d) cs end none = absurd none
create_index_reads n index.Hg t c (Some d) cs end none = absurd none
create_index_reads n index.Hng t c (Some d) cs end none = absurd none
create_index_reads n index.Cmp t c (Some d) cs end (differ, is) =
    ap (λ (l : List Lexeme). reads empty whole_statement (word Create ∷ word (index_mark index.Cmp) ∷ word Index ∷ name n ∷ word On ∷ name t ∷ word Open ∷ (l ++ (word Close ∷ end)))) is
    ∙ compare_begins n t c (name d ∷ word Close ∷ end) ∙ second_reads (compared n t c) d end differ

-- ---- INSERT, DELETE and UPDATE

abbrev insert : List ℕ → List (List Value) → Draft
insert t rows = record empty { form = form.Insert; table = t; rows = rows }

insert_begins : (t : List ℕ) (ts : List Lexeme)
    → reads empty whole_statement (word Insert ∷ word Into ∷ name t ∷ word Values ∷ ts) ≡ reads (insert t []) (Go part.Tuple ∷ Go part.MoreTuples ∷ Go part.End ∷ []) ts
unfolding run next after lines may_lack same same_mark put
insert_begins t ts = refl

insert_reads : (t : List ℕ) (rows : List (List Value)) (rs end : List Lexeme) → AreListed IsTuple rows rs → IsEnd end
    → reads empty whole_statement (word Insert ∷ word Into ∷ name t ∷ word Values ∷ (rs ++ end)) ≡ ends_at (insert t rows) end
unfolding may_lack
insert_reads t rows rs end are ends =
    insert_begins t (rs ++ end) ∙ tuples_read (insert t []) rows rs (Go part.End ∷ []) end are
    ∙ skip part.MoreTuples _ (Go part.End ∷ []) end refl (behind_end part.MoreTuples end semicolon_behind.1 ends)

delete_begins : (t : List ℕ) (ts : List Lexeme)
    → reads empty whole_statement (word Delete ∷ word From ∷ name t ∷ ts) ≡ reads (record empty { form = form.Delete; table = t }) (Go part.Where ∷ Go part.End ∷ []) ts
unfolding run next after lines may_lack same same_mark put
delete_begins t ts = refl

delete_reads : (t : List ℕ) (c : Option Cond) (ws end : List Lexeme) → IsWhere c ws → IsEnd end
    → Reaches (word Delete ∷ word From ∷ name t ∷ (ws ++ end)) (statement.Write (write.Delete t c))
unfolding statement_of
delete_reads t c ws end says ends =
    let d = record empty { form = form.Delete; table = t } in
    let here = where_reads d c ws (Go part.End ∷ []) end says refl (behind_end part.Where end semicolon_behind.2 ends) (behind_end part.MoreAnd end semicolon_behind.3 ends) (behind_end part.MoreOr end semicolon_behind.4 ends) in
    record {
      draft = record d { level = here.level; column = here.scratch.column; op = here.scratch.op; negated = here.scratch.negated; low = here.scratch.low; row = here.scratch.row };
      goes = delete_begins t (ws ++ end) ∙ here.goes ∙ end_reads _ end ends;
      is = ap (λ (x : Option Cond). statement.Write (write.Delete t x)) here.is;
    }

update_begins : (t : List ℕ) (ts : List Lexeme)
    → reads empty whole_statement (word Update ∷ name t ∷ word Set ∷ ts)
    ≡ reads (record empty { form = form.Update; table = t }) (Word Name role.Changed ∷ passed Equal ∷ Go part.NewValue ∷ Go part.MoreChanges ∷ Go part.Where ∷ Go part.End ∷ []) ts
unfolding run next after lines may_lack same same_mark put
update_begins t ts = refl

where_behind : IsBehind part.MoreChanges Where
unfolding follow marks_behind same same_mark
where_behind = refl

update_reads : (t : List ℕ) (changes : List Change) (c : Option Cond) (cs ws end : List Lexeme) → AreListed IsChange changes cs → Obey IsNewChange [] changes → IsWhere c ws → IsEnd end
    → Reaches (word Update ∷ name t ∷ word Set ∷ (cs ++ (ws ++ end))) (statement.Write (write.Update t changes c))
unfolding statement_of may_lack
update_reads t changes c cs ws end are obey says ends =
    let d = record empty { form = form.Update; table = t } in
    let set = changes_read d [] changes cs (Go part.Where ∷ Go part.End ∷ []) (ws ++ end) are obey in
    let e = record d { changed = set.0; changes = changes } in
    let here = where_reads e c ws (Go part.End ∷ []) end says refl (behind_end part.Where end semicolon_behind.2 ends) (behind_end part.MoreAnd end semicolon_behind.3 ends) (behind_end part.MoreOr end semicolon_behind.4 ends) in
    record {
      draft = record e { level = here.level; column = here.scratch.column; op = here.scratch.op; negated = here.scratch.negated; low = here.scratch.low; row = here.scratch.row };
      goes = update_begins t (cs ++ (ws ++ end)) ∙ set.1
          ∙ skip part.MoreChanges e (Go part.Where ∷ Go part.End ∷ []) (ws ++ end) refl (behind_where part.MoreChanges c ws end where_behind semicolon_behind.5 says ends)
          ∙ here.goes ∙ end_reads _ end ends;
      is = ap (λ (x : Option Cond). statement.Write (write.Update t changes x)) here.is;
    }

-- ---- SELECT

select_begins : (b : Bool) (ts : List Lexeme)
    → reads empty whole_statement (explain_words b ++ word Select ∷ ts) ≡ reads (record empty { form = form.Select; explain = b }) (Go part.Query ∷ Go part.End ∷ []) ts
unfolding run next after lines may_lack same same_mark put
select_begins true ts = refl
select_begins false ts = refl

star_reads : (d : Draft) (t : List ℕ) (ts : List Lexeme)
    → reads d (Go part.Query ∷ Go part.End ∷ []) (word Star ∷ word From ∷ name t ∷ ts) ≡ reads (record d { table = t }) (Go part.Where ∷ Go part.GroupBy ∷ Go part.OrderBy ∷ Go part.End ∷ []) ts
unfolding run next after lines may_lack same same_mark put
star_reads d t ts = refl

from_reads : (d : Draft) (t : List ℕ) (ts : List Lexeme)
    → reads d (Go part.MoreItems ∷ Go part.From ∷ Go part.End ∷ []) (word From ∷ name t ∷ ts) ≡ reads (record d { table = t }) (Go part.Where ∷ Go part.GroupBy ∷ Go part.OrderBy ∷ Go part.End ∷ []) ts
unfolding run next after lines may_lack same same_mark put
from_reads d t ts = refl

-- the items and the table; an aggregate may stay behind
list_reads : (d : Draft) (is : List Item) (t : List ℕ) (ls ts : List Lexeme) → d.items ≡ [] → AreItems is ls
    → (g : _) × (reads d (Go part.Query ∷ Go part.End ∷ []) (ls ++ word From ∷ name t ∷ ts) ≡ reads (record d { aggregate = g; items = is; table = t }) (Go part.Where ∷ Go part.GroupBy ∷ Go part.OrderBy ∷ Go part.End ∷ []) ts)
list_reads d [] t ls ts no_items is = (
  d.aggregate,
  ap (λ (l : List Lexeme). reads d (Go part.Query ∷ Go part.End ∷ []) (l ++ word From ∷ name t ∷ ts)) is ∙ star_reads d t ts
      ∙ ap (λ (l : List Item). reads (record d { items = l; table = t }) (Go part.Where ∷ Go part.GroupBy ∷ Go part.OrderBy ∷ Go part.End ∷ []) ts) no_items,
)
list_reads d (i ∷ is) t ls ts no_items are =
    let here = items_read d d.aggregate (i ∷ is) ls (Go part.End ∷ []) (word From ∷ name t ∷ ts) are in (
      here.0,
      ap (λ (l : List Item). reads (record d { items = l }) (Go part.Query ∷ Go part.End ∷ []) (ls ++ word From ∷ name t ∷ ts)) no_items ∙ here.1
          ∙ from_reads (record d { aggregate = here.0; items = i ∷ is }) t ts,
    )

query_behind : (IsBehind part.Where Group × IsBehind part.Where OrderMark × IsBehind part.Where Semicolon)
    × (IsBehind part.MoreAnd Group × IsBehind part.MoreAnd OrderMark × IsBehind part.MoreAnd Semicolon)
    × (IsBehind part.MoreOr Group × IsBehind part.MoreOr OrderMark × IsBehind part.MoreOr Semicolon)
    × (IsBehind part.GroupBy OrderMark × IsBehind part.GroupBy Semicolon × IsBehind part.MoreGroups OrderMark × IsBehind part.MoreGroups Semicolon)
    × (IsBehind part.OrderBy Semicolon × IsBehind part.MoreOrders Semicolon × IsBehind part.Way Semicolon)
unfolding follow marks_behind same same_mark
query_behind = ((refl, refl, refl), (refl, refl, refl), (refl, refl, refl), (refl, refl, refl, refl), (refl, refl, refl))

-- the words of a SELECT, and what is behind them
pub query_text : (b : Bool) (items : List Lexeme) (t : List ℕ) (ws gs os end : List Lexeme)
    → (explain_words b ++ word Select ∷ (items ++ word From ∷ name t ∷ (ws ++ (gs ++ os)))) ++ end ≡ explain_words b ++ word Select ∷ (items ++ word From ∷ name t ∷ (ws ++ (gs ++ (os ++ end))))
query_text b items t ws gs os end = simp append_assoc

query_reads : (q : TheSelect) (ls end : List Lexeme) → IsQuery q ls → IsEnd end → Reaches (ls ++ end) (statement.Select q)
unfolding statement_of
query_reads q ls end says ends =
    let ws = says.where_words in
    let gs = says.group in
    let os = says.order in
    let d = record empty { form = form.Select; explain = q.explain } in
    let listed = list_reads d q.items q.table says.items (ws ++ (gs ++ (os ++ end))) refl says.are_items in
    let e = record d { aggregate = listed.0; items = q.items; table = q.table } in
    let here = where_reads e q.cond ws (Go part.GroupBy ∷ Go part.OrderBy ∷ Go part.End ∷ []) (gs ++ (os ++ end)) says.is_where refl
    (behind_group part.Where q.group q.order gs os end query_behind.0.0 query_behind.0.1 query_behind.0.2 says.is_group says.is_order ends)
    (behind_group part.MoreAnd q.group q.order gs os end query_behind.1.0 query_behind.1.1 query_behind.1.2 says.is_group says.is_order ends)
    (behind_group part.MoreOr q.group q.order gs os end query_behind.2.0 query_behind.2.1 query_behind.2.2 says.is_group says.is_order ends) in
    let f = record e { level = here.level; column = here.scratch.column; op = here.scratch.op; negated = here.scratch.negated; low = here.scratch.low; row = here.scratch.row } in
    let text : ls ++ end ≡ explain_words q.explain ++ word Select ∷ (says.items ++ word From ∷ name q.table ∷ (ws ++ (gs ++ (os ++ end)))) =
    ap (λ (l : List Lexeme). l ++ end) says.is ∙ query_text q.explain says.items q.table ws gs os end in
    record {
      draft = record f { group = q.group; order = q.order };
      goes = ap (λ (l : List Lexeme). reads empty whole_statement l) text ∙ select_begins q.explain (says.items ++ word From ∷ name q.table ∷ (ws ++ (gs ++ (os ++ end)))) ∙ listed.1 ∙ here.goes
          ∙ group_reads f q.group gs (Go part.OrderBy ∷ Go part.End ∷ []) (os ++ end) says.is_group refl
          (behind_order part.GroupBy q.order os end query_behind.3.0 query_behind.3.1 says.is_order ends) (behind_order part.MoreGroups q.order os end query_behind.3.2 query_behind.3.3 says.is_order ends)
          ∙ order_reads (record f { group = q.group }) q.order os (Go part.End ∷ []) end says.is_order refl
          (behind_end part.OrderBy end query_behind.4.0 ends) (behind_end part.MoreOrders end query_behind.4.1 ends) (behind_end part.Way end query_behind.4.2 ends)
          ∙ end_reads _ end ends;
      is = ap (λ (x : Option Cond). statement.Select (record q { cond = x })) here.is;
    }

-- ---- all statements

write_reads : (w : Write) (ls end : List Lexeme) → IsWrite w ls → IsEnd end → Reaches (ls ++ end) (statement.Write w)
unfolding statement_of
write_reads (write.CreateTable n schema) ls end (cs, are, obey, is) ends =
    let text = ap (λ (l : List Lexeme). l ++ end) is ∙ ap (λ (l : List Lexeme). word Create ∷ word Table ∷ name n ∷ word Open ∷ l) (append_assoc cs (word Close ∷ []) end) in
    reaches (ls ++ end) _ end (create_table n schema.columns) _ text (create_table_reads n schema.columns cs end are obey) ends refl
write_reads (write.DropTable n) ls end is ends = reaches (ls ++ end) _ end _ _ (ap (λ (l : List Lexeme). l ++ end) is) (short_reads n end).7 ends refl
write_reads (write.CreateIndex n kind t c second) ls end (cs, are, is) ends =
    let text = ap (λ (l : List Lexeme). l ++ end) is ∙ ap (λ (l : List Lexeme). word Create ∷ word (index_mark kind) ∷ word Index ∷ name n ∷ word On ∷ name t ∷ word Open ∷ l) (append_assoc cs (word Close ∷ []) end) in
    reaches (ls ++ end) _ end _ _ text (create_index_reads n kind t c second cs end are) ends refl
write_reads (write.DropIndex t n) ls end is ends = reaches (ls ++ end) _ end _ _ (ap (λ (l : List Lexeme). l ++ end) is) (drop_index_reads t n end) ends refl
write_reads (write.Insert t rows) ls end (rs, are, is) ends = reaches (ls ++ end) _ end _ _ (ap (λ (l : List Lexeme). l ++ end) is) (insert_reads t rows rs end are ends) ends refl
write_reads (write.Load t rows text) ls end (no_text, some, few, is) ends =
    reaches (ls ++ end) _ end _ _ (ap (λ (l : List Lexeme). l ++ end) is) (load_reads t rows end some few) ends (ap (λ (x : List ℕ). statement.Write (write.Load t rows x)) (sym no_text))
write_reads (write.Delete t c) ls end (ws, says, is) ends = subst (λ (l : List Lexeme). Reaches l (statement.Write (write.Delete t c))) (sym (ap (λ (l : List Lexeme). l ++ end) is)) (delete_reads t c ws end says ends)
write_reads (write.Update t changes c) ls end (cs, ws, are, obey, says, is) ends =
    let text : ls ++ end ≡ word Update ∷ name t ∷ word Set ∷ (cs ++ (ws ++ end)) = ap (λ (l : List Lexeme). l ++ end) is ∙ ap (λ (l : List Lexeme). word Update ∷ name t ∷ word Set ∷ l) (append_assoc cs ws end) in
    subst (λ (l : List Lexeme). Reaches l (statement.Write (write.Update t changes c))) (sym text) (update_reads t changes c cs ws end are obey says ends)

statement_reads : (s : Statement) (ls end : List Lexeme) → IsStatement s ls → IsEnd end → Reaches (ls ++ end) s
unfolding statement_of may_lack
statement_reads (statement.Write w) ls end says ends = write_reads w ls end says ends
statement_reads (statement.Select q) ls end says ends = query_reads q ls end says ends
statement_reads statement.Begin ls end is ends = reaches (ls ++ end) _ end _ _ (ap (λ (l : List Lexeme). l ++ end) is) (short_reads [] end).0 ends refl
statement_reads statement.Commit ls end is ends = reaches (ls ++ end) _ end _ _ (ap (λ (l : List Lexeme). l ++ end) is) (short_reads [] end).1 ends refl
statement_reads statement.Rollback ls end is ends =
    reaches (ls ++ end) _ end _ _ (ap (λ (l : List Lexeme). l ++ end) is)
    ((short_reads [] end).6 ∙ skip part.BackTo (record empty { form = form.Rollback }) (Go part.End ∷ []) end refl (behind_end part.BackTo end semicolon_behind.0 ends)) ends refl
statement_reads (statement.Savepoint n) ls end is ends = reaches (ls ++ end) _ end _ _ (ap (λ (l : List Lexeme). l ++ end) is) (short_reads n end).2 ends refl
statement_reads (statement.BackTo n) ls end is ends = reaches (ls ++ end) _ end _ _ (ap (λ (l : List Lexeme). l ++ end) is) (short_reads n end).3 ends refl
statement_reads (statement.Release n) ls end is ends = reaches (ls ++ end) _ end _ _ (ap (λ (l : List Lexeme). l ++ end) is) (short_reads n end).4 ends refl
statement_reads statement.Sync ls end is ends = reaches (ls ++ end) _ end _ _ (ap (λ (l : List Lexeme). l ++ end) is) (short_reads [] end).5 ends refl

pub text_reads : (s : Statement) (text : List Lexeme) → IsText s text → AreTokensOf text s
text_reads s text says =
    let here = statement_reads s says.words says.end says.says says.ends in
    let goes : reads empty whole_statement text ≡ Ok here.draft = ap (λ (l : List Lexeme). reads empty whole_statement l) says.is ∙ here.goes in
    record {
      draft = here.draft;
      spelled = subst (λ (l : List Lexeme). IsSpelled l here.draft) (lexemes-placed text) (run_found 0 (placed text) empty whole_statement here.draft goes);
      is = here.is;
    }

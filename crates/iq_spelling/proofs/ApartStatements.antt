-- Each text that is read as a statement is a text of it.
use Rattle.std.proofs.Common.{◌≡◌, ◌<◌, ◌≤◌, ℕ, ℤ, pos, negsuc, Bool, true, false, List, [], ◌∷◌, ◌++◌, Option, Some, None, refl, sym, ap, subst, ◌∙◌, append_assoc, inl, inr}
use Rattle.std.specs.Prelude.{nat_eq, if◌then◌else◌}
use Rattle.std.specs.Cmp.Lexicographic.{pointwise}
use Rattle.iq_base.specs.declared.schemas.IndexKind.{IndexKind}
use Rattle.iq_base.specs.declared.schemas.IndexKind.TheVariants as index
use Rattle.iq_ast.specs.declared.conditions.Cond.{Cond}
use Rattle.iq_ast.specs.declared.statements.Write.TheVariants as write
use Rattle.iq_ast.specs.declared.statements.Statement.{Statement}
use Rattle.iq_ast.specs.declared.statements.Statement.TheVariants as statement
use Rattle.iq_tokens.specs.declared.tokens.Mark.TheVariants.{Create, Drop, Insert, Into, Values, Load, Table, Rows, Delete, From, Update, Set, Equal, Select, Begin, Transaction, Commit, Rollback, Savepoint, Release, Sync, To, Open, Close, Index, On, Comma, Dot, Cmp, Semicolon}
use Rattle.iq_tokens.specs.declared.tokens.Lexeme.{Lexeme}
use Rattle.iq_tokens.specs.declared.tokens.Lexeme.TheVariants as lexeme
use Rattle.iq_grammar.specs.declared.grammar.Form.TheVariants as form
use Rattle.iq_grammar.specs.declared.grammar.Part.TheVariants as part
use Rattle.iq_grammar.specs.declared.grammar.Symbol.TheVariants.{Go}
use Rattle.iq_grammar.specs.declared.draft.Draft.{Draft}
use Rattle.iq_grammar.specs.Grammar.{lines, may_lack, word as passed}
use Rattle.iq_grammar.specs.Draft.{◌>>=◌, put, empty, count_in}
use Rattle.iq_grammar.specs.Reading.{Spells, statement as whole_statement}
use Rattle.iq_grammar.specs.Statements.{statement_of, AreTokensOf}
use Rattle.iq_grammar.proofs.Laws.{spells_one}
use Rattle.iq_spelling.specs.Lists.{word, name}
use Rattle.iq_spelling.specs.Texts.{index_mark, AreIndexed, explain_words, IsStatement, IsEnd, IsText}
use Rattle.iq_spelling.proofs.Whole.{query_text, text_reads}
use Rattle.iq_spelling.proofs.Apart.{◌&◌, Made, cases, words, unless_made, spells_none, bounded_made}
use Rattle.iq_spelling.proofs.ApartWrites.{columns_apart, tuples_apart, changes_apart}
use Rattle.iq_spelling.proofs.ApartQueries.{query_apart, group_apart, order_apart}
use Rattle.iq_spelling.proofs.ApartConditions.{where_apart}

-- ---- the end

-- the end of a text, with or without a semicolon
end_apart : (d : Draft) (ls : List Lexeme) (e : Draft) → Spells d (Go part.End ∷ []) ls e → IsEnd ls × (d ≡ e)
unfolding lines may_lack put
end_apart d ls e sp =
    cases part.End _ [] ls e _ (
    (λ left. let none = spells_none d ls e left in (inl none.0, none.1))
    & (λ (us, is, left). let none = spells_none d us e left in (inr (is ∙ ap (λ (x : List Lexeme). word Semicolon ∷ x) none.0), none.1))
    & tt
    ) sp

-- the tokens are a text of what the draft is
abbrev Told : List Lexeme → Draft → Type 0
Told ls e = IsText (statement_of e) ls

-- where nothing but the end is left
ends : (d : Draft) (words : List Lexeme) (ls us : List Lexeme) (e : Draft) → IsStatement (statement_of d) words → ls ≡ words ++ us → Spells d (Go part.End ∷ []) us e → Told ls e
ends d words ls us e says is sp =
    let end = end_apart d us e sp in
    subst (λ (x : Draft). Told ls x) end.1 (record { words = words; end = us; says = says; ends = end.0; is = is })

-- ---- CREATE and DROP

-- CREATE TABLE from its first column on
create_table : (n : List ℕ) (ls us : List Lexeme) (e : Draft) → ls ≡ word Create ∷ word Table ∷ name n ∷ word Open ∷ us
    → Spells (record empty { form = form.CreateTable; table = n }) (Go part.Column ∷ Go part.MoreColumns ∷ passed Close ∷ Go part.End ∷ []) us e → Told ls e
unfolding put statement_of
create_table n ls us e is sp =
    let cs = columns_apart (record empty { form = form.CreateTable; table = n }) (passed Close ∷ Go part.End ∷ []) us e sp in
    let close = words _ (passed Close ∷ []) (Go part.End ∷ []) cs.front.rest e cs.front.left in
    ends _ (word Create ∷ word Table ∷ name n ∷ word Open ∷ (cs.front.text ++ word Close ∷ [])) ls close.0 e (cs.front.text, cs.front.says, cs.rules, refl)
    (is ∙ ap (λ (x : List Lexeme). word Create ∷ word Table ∷ name n ∷ word Open ∷ x) (cs.front.is ∙ ap (λ (x : List Lexeme). cs.front.text ++ x) close.1 ∙ sym (append_assoc cs.front.text (word Close ∷ []) close.0)))
    close.2

-- an index of one column
one_column : (k : IndexKind) (ls us : List Lexeme) (e : Draft) → ((c : List ℕ) → AreIndexed k c None (name c ∷ [])) → ls ≡ word Create ∷ word (index_mark k) ∷ us
    → Spells (record empty { form = form.CreateIndex; index = k }) (Go part.OneColumn ∷ Go part.End ∷ []) us e → Told ls e
unfolding lines may_lack put statement_of
one_column k ls us e indexed is sp =
    cases part.OneColumn _ (Go part.End ∷ []) us e _ (
    tt
    & (λ (n, (t, (c, (vs, text, left)))). ends _ (word Create ∷ word (index_mark k) ∷ word Index ∷ name n ∷ word On ∷ name t ∷ word Open ∷ name c ∷ word Close ∷ []) ls vs e (name c ∷ [], indexed c, refl)
    (is ∙ ap (λ (x : List Lexeme). word Create ∷ word (index_mark k) ∷ x) text) left)
    & tt
    ) sp

-- behind CREATE
created : (ls us : List Lexeme) (e : Draft) → ls ≡ word Create ∷ us → Spells empty (Go part.Created ∷ Go part.End ∷ []) us e → Told ls e
unfolding lines may_lack put statement_of
created ls us e is sp =
    cases part.Created _ (Go part.End ∷ []) us e _ (
    tt
    & (λ (n, (vs, text, left)). create_table n ls vs e (is ∙ ap (λ (x : List Lexeme). word Create ∷ x) text) left)
    & (λ (vs, text, left). one_column index.Lf ls vs e (λ c. refl) (is ∙ ap (λ (x : List Lexeme). word Create ∷ x) text) left)
    & (λ (vs, text, left). one_column index.Hg ls vs e (λ c. refl) (is ∙ ap (λ (x : List Lexeme). word Create ∷ x) text) left)
    & (λ (vs, text, left). one_column index.Hng ls vs e (λ c. refl) (is ∙ ap (λ (x : List Lexeme). word Create ∷ x) text) left)
    & (λ (n, (t, (c, (m, made)))). compared n t c m made)
    & tt
    ) sp
  where
    compared : (n t c m : List ℕ)
        → Made (if pointwise nat_eq c m then None else Some (record empty { form = form.CreateIndex; name = n; index = index.Cmp; table = t; first = c; second = Some m }))
        (λ (d : Draft). (vs : List Lexeme) × (us ≡ word Cmp ∷ word Index ∷ name n ∷ word On ∷ name t ∷ word Open ∷ name c ∷ word Comma ∷ name m ∷ word Close ∷ vs) × Spells d (Go part.End ∷ []) vs e)
        → Told ls e
    compared n t c m made =
        let given = unless_made (pointwise nat_eq c m) _ _ made in
        ends _ (word Create ∷ word Cmp ∷ word Index ∷ name n ∷ word On ∷ name t ∷ word Open ∷ name c ∷ word Comma ∷ name m ∷ word Close ∷ []) ls given.1.0 e
        (name c ∷ word Comma ∷ name m ∷ [], (given.0, refl), refl) (is ∙ ap (λ (x : List Lexeme). word Create ∷ x) given.1.1) given.1.2

-- behind DROP
dropped : (ls us : List Lexeme) (e : Draft) → ls ≡ word Drop ∷ us → Spells empty (Go part.Dropped ∷ Go part.End ∷ []) us e → Told ls e
unfolding lines may_lack put statement_of
dropped ls us e is sp =
    cases part.Dropped _ (Go part.End ∷ []) us e _ (
    tt
    & (λ (n, (vs, text, left)). ends _ (word Drop ∷ word Table ∷ name n ∷ []) ls vs e refl (is ∙ ap (λ (x : List Lexeme). word Drop ∷ x) text) left)
    & (λ (t, (n, (vs, text, left))). ends _ (word Drop ∷ word Index ∷ name t ∷ word Dot ∷ name n ∷ []) ls vs e refl (is ∙ ap (λ (x : List Lexeme). word Drop ∷ x) text) left)
    & tt
    ) sp

-- ---- writes

inserted : (t : List ℕ) (ls us : List Lexeme) (e : Draft) → ls ≡ word Insert ∷ word Into ∷ name t ∷ word Values ∷ us
    → Spells (record empty { form = form.Insert; table = t }) (Go part.Tuple ∷ Go part.MoreTuples ∷ Go part.End ∷ []) us e → Told ls e
unfolding statement_of
inserted t ls us e is sp =
    let rs = tuples_apart (record empty { form = form.Insert; table = t }) (Go part.End ∷ []) us e sp in
    ends _ (word Insert ∷ word Into ∷ name t ∷ word Values ∷ rs.front.text) ls rs.front.rest e (rs.front.text, rs.front.says, refl)
    (is ∙ ap (λ (x : List Lexeme). word Insert ∷ word Into ∷ name t ∷ word Values ∷ x) rs.front.is) rs.front.left

-- a count of rows is from 1 to 1,000,000
count_made : (v : ℤ) (f : ℕ → Option Draft) (P : Draft → Type 0) → Made (count_in v >>= f) P → (n : ℕ) × (v ≡ pos n) × (0 < n) × (n ≤ 1000000) × Made (f n) P
count_made (pos n) f P m = let b = bounded_made 1000000 n f P m in (n, refl, b.0, b.1, b.2)
count_made (negsuc n) f P m = absurd m

loaded : (t : List ℕ) (v : ℤ) (ls : List Lexeme) (e : Draft)
    → Made (count_in v >>= λ (n : ℕ). Some (record empty { form = form.Load; table = t; count = n }))
    (λ (d : Draft). (us : List Lexeme) × (ls ≡ word Load ∷ word Table ∷ name t ∷ word Rows ∷ lexeme.Number v ∷ us) × Spells d (Go part.End ∷ []) us e)
    → Told ls e
unfolding statement_of
loaded t v ls e m =
    let c = count_made v _ _ m in
    ends _ (word Load ∷ word Table ∷ name t ∷ word Rows ∷ lexeme.Number (pos c.0) ∷ []) ls c.4.0 e (refl, c.2, c.3, refl) (c.4.1 ∙ ap (λ (x : ℤ). word Load ∷ word Table ∷ name t ∷ word Rows ∷ lexeme.Number x ∷ c.4.0) c.1) c.4.2

deleted : (t : List ℕ) (ls us : List Lexeme) (e : Draft) → ls ≡ word Delete ∷ word From ∷ name t ∷ us
    → Spells (record empty { form = form.Delete; table = t }) (Go part.Where ∷ Go part.End ∷ []) us e → Told ls e
unfolding statement_of
deleted t ls us e is sp =
    let c = where_apart (record empty { form = form.Delete; table = t }) (Go part.End ∷ []) us e sp in
    ends _ (word Delete ∷ word From ∷ name t ∷ c.front.text) ls c.front.rest e
    (subst (λ (x : Option Cond). IsStatement (statement.Write (write.Delete t x)) (word Delete ∷ word From ∷ name t ∷ c.front.text)) (sym c.is) (c.front.text, c.front.says, refl))
    (is ∙ ap (λ (x : List Lexeme). word Delete ∷ word From ∷ name t ∷ x) c.front.is) c.front.left

updated : (t m : List ℕ) (ls us : List Lexeme) (e : Draft) → ls ≡ word Update ∷ name t ∷ word Set ∷ name m ∷ word Equal ∷ us
    → Spells (record empty { form = form.Update; table = t; changed = m }) (Go part.NewValue ∷ Go part.MoreChanges ∷ Go part.Where ∷ Go part.End ∷ []) us e → Told ls e
unfolding statement_of
updated t m ls us e is sp =
    let d = record empty { form = form.Update; table = t } in
    let cs = changes_apart d m (Go part.Where ∷ Go part.End ∷ []) us e sp in
    let c = where_apart (record d { changed = cs.beside; changes = cs.members }) (Go part.End ∷ []) cs.front.rest e cs.front.left in
    ends _ (word Update ∷ name t ∷ word Set ∷ (cs.front.text ++ c.front.text)) ls c.front.rest e
    (subst (λ (x : Option Cond). IsStatement (statement.Write (write.Update t cs.members x)) (word Update ∷ name t ∷ word Set ∷ (cs.front.text ++ c.front.text))) (sym c.is)
    (cs.front.text, c.front.text, cs.front.says, cs.rules, c.front.says, refl))
    (is ∙ ap (λ (x : List Lexeme). word Update ∷ name t ∷ word Set ∷ x) (cs.front.is ∙ ap (λ (x : List Lexeme). cs.front.text ++ x) c.front.is ∙ sym (append_assoc cs.front.text c.front.text c.front.rest))) c.front.left

-- ---- SELECT

-- the parts of a SELECT, put together
query_words : (b : Bool) (t : List ℕ) (ls us asked after_from after_where after_group items ws gs os end : List Lexeme) → ls ≡ explain_words b ++ word Select ∷ us → us ≡ asked ++ after_from
    → asked ≡ items ++ word From ∷ name t ∷ [] → after_from ≡ ws ++ after_where → after_where ≡ gs ++ after_group → after_group ≡ os ++ end
    → ls ≡ (explain_words b ++ word Select ∷ (items ++ word From ∷ name t ∷ (ws ++ (gs ++ os)))) ++ end
query_words b t ls us asked after_from after_where after_group items ws gs os end is query from filter groups orders =
    is
    ∙ ap (λ (x : List Lexeme). explain_words b ++ word Select ∷ x) (
    query ∙ ap (λ (x : List Lexeme). x ++ after_from) from ∙ append_assoc items (word From ∷ name t ∷ []) after_from
    ∙ ap (λ (x : List Lexeme). items ++ word From ∷ name t ∷ x) (filter ∙ ap (λ (x : List Lexeme). ws ++ x) (groups ∙ ap (λ (x : List Lexeme). gs ++ x) orders))
    )
    ∙ sym (query_text b items t ws gs os end)

-- a SELECT from its items on
asked : (b : Bool) (ls us : List Lexeme) (e : Draft) → ls ≡ explain_words b ++ word Select ∷ us → Spells (record empty { form = form.Select; explain = b }) (Go part.Query ∷ Go part.End ∷ []) us e → Told ls e
unfolding statement_of
asked b ls us e is sp =
    let d = record empty { form = form.Select; explain = b } in
    let q = query_apart d (Go part.End ∷ []) us e sp in
    let f = record d { aggregate = q.aggregate; items = q.items; table = q.table } in
    let c = where_apart f (Go part.GroupBy ∷ Go part.OrderBy ∷ Go part.End ∷ []) q.front.rest e q.front.left in
    let g = record f { level = c.level; column = c.scratch.column; op = c.scratch.op; negated = c.scratch.negated; low = c.scratch.low; row = c.scratch.row } in
    let ns = group_apart g (Go part.OrderBy ∷ Go part.End ∷ []) c.front.rest e c.front.left in
    let os = order_apart (record g { group = ns.0 }) (Go part.End ∷ []) ns.1.rest e ns.1.left in
    let items = q.front.says.0 in
    let text : List Lexeme = explain_words b ++ word Select ∷ (items ++ word From ∷ name q.table ∷ (c.front.text ++ (ns.1.text ++ os.1.text))) in
    let says : IsStatement (statement.Select (record { explain = b; items = q.items; table = q.table; cond = c.condition; group = ns.0; order = os.0 })) text =
    record { items = items; where_words = c.front.text; group = ns.1.text; order = os.1.text; are_items = q.front.says.1; is_where = c.front.says; is_group = ns.1.says; is_order = os.1.says; is = refl } in
    ends _ text ls os.1.rest e
    (subst (λ (x : Option Cond). IsStatement (statement.Select (record { explain = b; items = q.items; table = q.table; cond = x; group = ns.0; order = os.0 })) text) (sym c.is) says)
    (query_words b q.table ls us q.front.text q.front.rest c.front.rest ns.1.rest items c.front.text ns.1.text os.1.text os.1.rest is q.front.is q.front.says.2 c.front.is ns.1.is os.1.is) os.1.left

-- ---- all statements

-- behind ROLLBACK
rolled_back : (ls us : List Lexeme) (e : Draft) → ls ≡ word Rollback ∷ us → Spells (record empty { form = form.Rollback }) (Go part.BackTo ∷ Go part.End ∷ []) us e → Told ls e
unfolding lines may_lack put statement_of
rolled_back ls us e is sp =
    cases part.BackTo _ (Go part.End ∷ []) us e _ (
    (λ left. ends _ (word Rollback ∷ []) ls us e refl is left)
    & (λ (n, (vs, text, left)). ends _ (word Rollback ∷ word To ∷ word Savepoint ∷ name n ∷ []) ls vs e refl (is ∙ ap (λ (x : List Lexeme). word Rollback ∷ x) text) left)
    & tt
    ) sp

-- all lines of a statement
told : (ls : List Lexeme) (e : Draft) → Spells empty whole_statement ls e → Told ls e
unfolding lines may_lack put statement_of
told ls e sp =
    cases part.Statement _ (Go part.End ∷ []) ls e _ (
    tt
    & (λ (us, is, left). created ls us e is left)
    & (λ (us, is, left). dropped ls us e is left)
    & (λ (t, (us, is, left)). inserted t ls us e is left)
    & (λ (t, (v, m)). loaded t v ls e m)
    & (λ (t, (us, is, left)). deleted t ls us e is left)
    & (λ (t, (m, (us, is, left))). updated t m ls us e is left)
    & (λ (us, is, left). asked true ls us e is left)
    & (λ (us, is, left). asked false ls us e is left)
    & (λ (us, is, left). ends _ (word Begin ∷ word Transaction ∷ []) ls us e refl is left)
    & (λ (us, is, left). ends _ (word Commit ∷ []) ls us e refl is left)
    & (λ (us, is, left). rolled_back ls us e is left)
    & (λ (n, (us, is, left)). ends _ (word Savepoint ∷ name n ∷ []) ls us e refl is left)
    & (λ (n, (us, is, left)). ends _ (word Release ∷ word Savepoint ∷ name n ∷ []) ls us e refl is left)
    & (λ (us, is, left). ends _ (word Sync ∷ []) ls us e refl is left)
    & tt
    ) sp

-- what is read as a statement is a text of it
pub text_told : (s : Statement) (text : List Lexeme) → AreTokensOf text s → IsText s text
text_told s text are = subst (λ (x : Statement). IsText x text) are.is (told text are.draft are.spelled)

-- a text is of one statement at most
pub one_told : (s t : Statement) (text : List Lexeme) → IsText s text → IsText t text → s ≡ t
one_told s t text says_s says_t =
    let a = text_reads s text says_s in
    let b = text_reads t text says_t in
    sym a.is ∙ ap statement_of (spells_one text a.draft b.draft a.spelled b.spelled) ∙ b.is

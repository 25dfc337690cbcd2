-- Reading columns, tuples, changes, items, groups and orders.
use Rattle.std.proofs.Common.{◌≡◌, ◌<◌, ℕ, Bool, true, false, List, [], ◌∷◌, ◌++◌, length, refl, ap, ◌∙◌, append_assoc, inl, inr, arith}
use Rattle.std.specs.Prelude.{⊤, nat_lt, nat_le}
use Rattle.std.proofs.lemmas.Bool.Decides.{nat_tests}
use Rattle.iq_base.specs.declared.values.Value.{Value}
use Rattle.iq_base.specs.declared.values.Value.TheVariants as value
use Rattle.iq_base.specs.declared.values.Kind.{Kind}
use Rattle.iq_base.specs.declared.values.Kind.TheVariants as kind
use Rattle.iq_base.specs.declared.schemas.Column.{Column}
use Rattle.iq_ast.specs.declared.statements.Item.{Item}
use Rattle.iq_ast.specs.declared.statements.Item.TheVariants as item
use Rattle.iq_ast.specs.declared.statements.Order.{Order}
use Rattle.iq_ast.specs.declared.statements.Change.{Change}
use Rattle.iq_tokens.specs.declared.tokens.Mark.TheVariants.{Comma, Open, Close, Equal, Group, By, Order as OrderMark}
use Rattle.iq_tokens.specs.declared.tokens.Lexeme.{Lexeme}
use Rattle.iq_tokens.specs.Kinds.{same, same_mark}
use Rattle.iq_grammar.specs.declared.grammar.Aggregate.{Aggregate}
use Rattle.iq_grammar.specs.declared.grammar.Aggregate.TheVariants as aggregate
use Rattle.iq_grammar.specs.declared.grammar.Part.TheVariants as part
use Rattle.iq_grammar.specs.declared.grammar.Symbol.{Symbol}
use Rattle.iq_grammar.specs.declared.grammar.Symbol.TheVariants.{Word, Go}
use Rattle.iq_tokens.specs.declared.tokens.Kind.TheVariants.{Name}
use Rattle.iq_grammar.proofs.Sound.{follow, marks_behind}
use Rattle.iq_grammar.specs.declared.draft.Draft.{Draft}
use Rattle.iq_grammar.specs.Grammar.{lines, may_lack, after, acts, word as word_symbol}
use Rattle.iq_grammar.specs.declared.grammar.Role.TheVariants as role
use Rattle.iq_grammar.specs.Draft.{put, change_last, has_column, has_change}
use Rattle.iq_grammar.specs.Reading.{run, next}
use Rattle.iq_grammar.proofs.Lists.{change_last_end}
use Rattle.iq_spelling.specs.Lists.{word, name, literal, IsLiteral, IsName, AreListed, Obey}
use Rattle.iq_spelling.specs.Texts.{kind_words, IsKind, IsNullness, IsColumn, IsNewColumn, IsTuple, IsChange, IsNewChange, item_words, IsItem, IsWay, IsOrdered}
use Rattle.iq_spelling.proofs.Parts.{reads, Behind, skip, more_reads, listed_reads, Free, all_free, Any, any, behind_member}

-- ---- columns

abbrev pub with_columns : Draft → List Column → Draft
with_columns d cs = record d { columns = cs }

abbrev pub column : List ℕ → Kind → Bool → Column
column n k b = record { name = n; kind = k; null = b }

named_column : (d : Draft) (cs : List Column) (n : List ℕ) (ss : List Symbol) (ts : List Lexeme) → length cs < 32 → has_column cs n ≡ false
    → reads (with_columns d cs) (Go part.Column ∷ ss) (name n ∷ ts) ≡ reads (with_columns d (cs ++ column n kind.Int true ∷ [])) (Go part.Kind ∷ Go part.Nullness ∷ ss) ts
unfolding run next after lines may_lack same same_mark put
named_column d cs n ss ts few new = let less : nat_lt (length cs) 32 ≡ true = grind (arith, nat_tests) in rw (less, new) refl

column_kind : (d : Draft) (cs : List Column) (k : Kind) (ss : List Symbol) (ts : List Lexeme) → IsKind k
    → reads (with_columns d cs) (Go part.Kind ∷ ss) (kind_words k ++ ts) ≡ reads (with_columns d (change_last (λ (c : Column). record c { kind = k }) cs)) ss ts
unfolding run next after lines may_lack same same_mark put
column_kind d cs kind.Int ss ts is = refl
column_kind d cs kind.Big ss ts is = refl
column_kind d cs (kind.Varchar n) ss ts is =
    let some : nat_lt 0 n ≡ true = grind (arith, nat_tests) in
    let short : nat_le n 255 ≡ true = grind (arith, nat_tests) in
    rw (some, short) refl

column_null : (d : Draft) (cs : List Column) (n : List ℕ) (k : Kind) (b : Bool) (ns : List Lexeme) (ss : List Symbol) (ts : List Lexeme) → IsNullness b ns → Behind part.Nullness ts
    → reads (with_columns d (cs ++ column n k true ∷ [])) (Go part.Nullness ∷ ss) (ns ++ ts) ≡ reads (with_columns d (cs ++ column n k b ∷ [])) ss ts
unfolding run next after lines may_lack same same_mark put
column_null d cs n k true ns ss ts (inl none) behind =
    ap (λ (l : List Lexeme). reads (with_columns d (cs ++ column n k true ∷ [])) (Go part.Nullness ∷ ss) (l ++ ts)) none ∙ skip part.Nullness _ ss ts refl behind
column_null d cs n k true ns ss ts (inr is) behind = ap (λ (l : List Lexeme). reads (with_columns d (cs ++ column n k true ∷ [])) (Go part.Nullness ∷ ss) (l ++ ts)) is
column_null d cs n k false ns ss ts is behind =
    ap (λ (l : List Lexeme). reads (with_columns d (cs ++ column n k true ∷ [])) (Go part.Nullness ∷ ss) (l ++ ts)) is
    ∙ ap (λ (l : List Column). reads (with_columns d l) ss ts) (change_last_end (λ (c : Column). record c { null = false }) cs (column n k true))

pub column_reads : (d : Draft) (cs : List Column) (c : Column) (a : List Lexeme) (ss : List Symbol) (ts : List Lexeme) → IsColumn c a → IsNewColumn cs c → Behind part.Nullness ts
    → reads (with_columns d cs) (Go part.Column ∷ ss) (a ++ ts) ≡ reads (with_columns d (cs ++ c ∷ [])) ss ts
column_reads d cs c a ss ts (ns, length_fits, nullness, is) (few, new) behind =
    let text : a ++ ts ≡ name c.name ∷ (kind_words c.kind ++ (ns ++ ts)) = ap (λ (l : List Lexeme). l ++ ts) is ∙ ap (λ (l : List Lexeme). name c.name ∷ l) (append_assoc (kind_words c.kind) ns ts) in
    ap (λ (l : List Lexeme). reads (with_columns d cs) (Go part.Column ∷ ss) l) text
    ∙ named_column d cs c.name ss (kind_words c.kind ++ (ns ++ ts)) few new
    ∙ column_kind d (cs ++ column c.name kind.Int true ∷ []) c.kind (Go part.Nullness ∷ ss) (ns ++ ts) length_fits
    ∙ ap (λ (l : List Column). reads (with_columns d l) (Go part.Nullness ∷ ss) (ns ++ ts)) (change_last_end (λ (x : Column). record x { kind = c.kind }) cs (column c.name kind.Int true))
    ∙ column_null d cs c.name c.kind c.null ns ss ts nullness behind

-- ---- values, tuples and changes

pub value_reads : (d : Draft) (vs : List Value) (v : Value) (ss : List Symbol) (ts : List Lexeme)
    → reads (record d { row = vs }) (Go part.Value ∷ ss) (literal v ∷ ts) ≡ reads (record d { row = vs ++ v ∷ [] }) ss ts
unfolding run next after lines may_lack same same_mark put
value_reads d vs value.Null ss ts = refl
value_reads d vs (value.Int n) ss ts = refl
value_reads d vs (value.Text t) ss ts = refl

pub member_reads : (d : Draft) (vs : List Value) (v : Value) (ss : List Symbol) (ts : List Lexeme)
    → reads (record d { row = vs }) (Go part.Member ∷ ss) (literal v ∷ ts) ≡ reads (record d { row = vs ++ v ∷ [] }) ss ts
unfolding run next after lines may_lack same same_mark put
member_reads d vs value.Null ss ts = refl
member_reads d vs (value.Int n) ss ts = refl
member_reads d vs (value.Text t) ss ts = refl

comma_value : (d : Draft) (ss : List Symbol) (ts : List Lexeme) → reads d (Go part.MoreValues ∷ ss) (word Comma ∷ ts) ≡ reads d (Go part.Value ∷ Go part.MoreValues ∷ ss) ts
unfolding run next after lines may_lack same same_mark put
comma_value d ss ts = refl

comma_member : (d : Draft) (ss : List Symbol) (ts : List Lexeme) → reads d (Go part.MoreMembers ∷ ss) (word Comma ∷ ts) ≡ reads d (Go part.Member ∷ Go part.MoreMembers ∷ ss) ts
unfolding run next after lines may_lack same same_mark put
comma_member d ss ts = refl

pub values_read : (d : Draft) (vs : List Value) (ls : List Lexeme) (ss : List Symbol) (ts : List Lexeme) → AreListed IsLiteral vs ls
    → reads (record d { row = [] }) (Go part.Value ∷ Go part.MoreValues ∷ ss) (ls ++ ts) ≡ reads (record d { row = vs }) (Go part.MoreValues ∷ ss) ts
values_read d vs ls ss ts are =
    (listed_reads {S = ⊤} Comma IsLiteral part.MoreValues (Go part.Value ∷ Go part.MoreValues ∷ ss) ss (record d { row = [] }) (λ s xs. record d { row = xs }) Free Any any
    (λ v a us is free b. (tt, ap (λ (l : List Lexeme). reads (record d { row = [] }) (Go part.Value ∷ Go part.MoreValues ∷ ss) (l ++ us)) is ∙ value_reads d [] v (Go part.MoreValues ∷ ss) us))
    (λ s xs v a us is free b. (tt, ap (λ (l : List Lexeme). reads (record d { row = xs }) (Go part.MoreValues ∷ ss) (word Comma ∷ (l ++ us))) is ∙ comma_value (record d { row = xs }) ss (literal v ∷ us) ∙ value_reads d xs v (Go part.MoreValues ∷ ss) us))
    vs ls ts are (all_free [] vs) tt).1

pub members_read : (d : Draft) (vs : List Value) (ls : List Lexeme) (ss : List Symbol) (ts : List Lexeme) → AreListed IsLiteral vs ls
    → reads (record d { row = [] }) (Go part.Member ∷ Go part.MoreMembers ∷ ss) (ls ++ ts) ≡ reads (record d { row = vs }) (Go part.MoreMembers ∷ ss) ts
members_read d vs ls ss ts are =
    (listed_reads {S = ⊤} Comma IsLiteral part.MoreMembers (Go part.Member ∷ Go part.MoreMembers ∷ ss) ss (record d { row = [] }) (λ s xs. record d { row = xs }) Free Any any
    (λ v a us is free b. (tt, ap (λ (l : List Lexeme). reads (record d { row = [] }) (Go part.Member ∷ Go part.MoreMembers ∷ ss) (l ++ us)) is ∙ member_reads d [] v (Go part.MoreMembers ∷ ss) us))
    (λ s xs v a us is free b. (tt, ap (λ (l : List Lexeme). reads (record d { row = xs }) (Go part.MoreMembers ∷ ss) (word Comma ∷ (l ++ us))) is ∙ comma_member (record d { row = xs }) ss (literal v ∷ us) ∙ member_reads d xs v (Go part.MoreMembers ∷ ss) us))
    vs ls ts are (all_free [] vs) tt).1

abbrev pub with_rows : Draft → List (List Value) → Draft
with_rows d rs = record d { rows = rs; row = [] }

tuple_begins : (d : Draft) (rs : List (List Value)) (ss : List Symbol) (ts : List Lexeme)
    → reads (with_rows d rs) (Go part.Tuple ∷ ss) (word Open ∷ ts) ≡ reads (with_rows d rs) (Go part.Value ∷ Go part.MoreValues ∷ acts Close role.Row ∷ ss) ts
unfolding run next after lines may_lack same same_mark put
tuple_begins d rs ss ts = refl

tuple_ends : (d : Draft) (rs : List (List Value)) (vs : List Value) (ss : List Symbol) (ts : List Lexeme)
    → reads (record d { rows = rs; row = vs }) (Go part.MoreValues ∷ acts Close role.Row ∷ ss) (word Close ∷ ts) ≡ reads (with_rows d (rs ++ vs ∷ [])) ss ts
unfolding run next after lines may_lack same same_mark put
tuple_ends d rs vs ss ts = refl

tuple_reads : (d : Draft) (rs : List (List Value)) (vs : List Value) (a : List Lexeme) (ss : List Symbol) (ts : List Lexeme) → IsTuple vs a
    → reads (with_rows d rs) (Go part.Tuple ∷ ss) (a ++ ts) ≡ reads (with_rows d (rs ++ vs ∷ [])) ss ts
tuple_reads d rs vs a ss ts (ls, are, is) =
    let text : a ++ ts ≡ word Open ∷ (ls ++ (word Close ∷ ts)) = ap (λ (l : List Lexeme). l ++ ts) is ∙ ap (λ (l : List Lexeme). word Open ∷ l) (append_assoc ls (word Close ∷ []) ts) in
    ap (λ (l : List Lexeme). reads (with_rows d rs) (Go part.Tuple ∷ ss) l) text
    ∙ tuple_begins d rs ss (ls ++ (word Close ∷ ts))
    ∙ values_read (record d { rows = rs }) vs ls (acts Close role.Row ∷ ss) (word Close ∷ ts) are
    ∙ tuple_ends d rs vs ss ts

comma_tuple : (d : Draft) (ss : List Symbol) (ts : List Lexeme) → reads d (Go part.MoreTuples ∷ ss) (word Comma ∷ ts) ≡ reads d (Go part.Tuple ∷ Go part.MoreTuples ∷ ss) ts
unfolding run next after lines may_lack same same_mark put
comma_tuple d ss ts = refl

pub tuples_read : (d : Draft) (rs : List (List Value)) (ls : List Lexeme) (ss : List Symbol) (ts : List Lexeme) → AreListed IsTuple rs ls
    → reads (with_rows d []) (Go part.Tuple ∷ Go part.MoreTuples ∷ ss) (ls ++ ts) ≡ reads (with_rows d rs) (Go part.MoreTuples ∷ ss) ts
tuples_read d rs ls ss ts are =
    (listed_reads {S = ⊤} Comma IsTuple part.MoreTuples (Go part.Tuple ∷ Go part.MoreTuples ∷ ss) ss (with_rows d []) (λ s xs. with_rows d xs) Free Any any
    (λ v a us is free b. (tt, tuple_reads d [] v a (Go part.MoreTuples ∷ ss) us is))
    (λ s xs v a us is free b. (tt, comma_tuple (with_rows d xs) ss (a ++ us) ∙ tuple_reads d xs v a (Go part.MoreTuples ∷ ss) us is))
    rs ls ts are (all_free [] rs) tt).1

comma_column : (d : Draft) (ss : List Symbol) (ts : List Lexeme) → reads d (Go part.MoreColumns ∷ ss) (word Comma ∷ ts) ≡ reads d (Go part.Column ∷ Go part.MoreColumns ∷ ss) ts
unfolding run next after lines may_lack same same_mark put
comma_column d ss ts = refl

-- what stands behind a change: a comma, or what a change may be followed by
abbrev pub with_changes : Draft → List ℕ → List Change → Draft
with_changes d n cs = record d { changed = n; changes = cs }

change_next : (d : Draft) (n : List ℕ) (cs : List Change) (m : List ℕ) (v : Value) (ss : List Symbol) (ts : List Lexeme) → has_change cs m ≡ false
    → reads (with_changes d n cs) (Go part.MoreChanges ∷ ss) (word Comma ∷ name m ∷ word Equal ∷ literal v ∷ ts)
    ≡ reads (with_changes d m (cs ++ record { column = m; value = v } ∷ [])) (Go part.MoreChanges ∷ ss) ts
unfolding run next after lines may_lack same same_mark put
change_next d n cs m value.Null ss ts new = rw new refl
change_next d n cs m (value.Int v) ss ts new = rw new refl
change_next d n cs m (value.Text t) ss ts new = rw new refl

first_change : (d : Draft) (n m : List ℕ) (v : Value) (ss : List Symbol) (ts : List Lexeme) → has_change [] m ≡ false
    → reads (with_changes d n []) (Word Name role.Changed ∷ word_symbol Equal ∷ Go part.NewValue ∷ Go part.MoreChanges ∷ ss) (name m ∷ word Equal ∷ literal v ∷ ts)
    ≡ reads (with_changes d m (record { column = m; value = v } ∷ [])) (Go part.MoreChanges ∷ ss) ts
unfolding run next after lines may_lack same same_mark put
first_change d n m value.Null ss ts new = refl
first_change d n m (value.Int v) ss ts new = refl
first_change d n m (value.Text t) ss ts new = refl

change_reads : (d : Draft) (n : List ℕ) (cs : List Change) (c : Change) (a : List Lexeme) (ss : List Symbol) (ts : List Lexeme) → IsChange c a → IsNewChange cs c
    → reads (with_changes d n cs) (Go part.MoreChanges ∷ ss) (word Comma ∷ (a ++ ts)) ≡ reads (with_changes d c.column (cs ++ c ∷ [])) (Go part.MoreChanges ∷ ss) ts
change_reads d n cs c a ss ts is new =
    ap (λ (l : List Lexeme). reads (with_changes d n cs) (Go part.MoreChanges ∷ ss) (word Comma ∷ (l ++ ts))) is ∙ change_next d n cs c.column c.value ss ts new

-- ---- items

-- an aggregate of a draft may stay behind
abbrev pub with_items : Draft → Aggregate → List Item → Draft
with_items d g is = record d { aggregate = g; items = is }

item_reads : (d : Draft) (g : Aggregate) (is : List Item) (i : Item) (ss : List Symbol) (ts : List Lexeme)
    → (h : Aggregate) × (reads (with_items d g is) (Go part.MoreItems ∷ ss) (word Comma ∷ (item_words i ++ ts)) ≡ reads (with_items d h (is ++ i ∷ [])) (Go part.MoreItems ∷ ss) ts)
unfolding run next after lines may_lack same same_mark put
item_reads d g is (item.Plain n) ss ts = (g, refl)
item_reads d g is item.CountAll ss ts = (aggregate.Count, refl)
item_reads d g is (item.Count n) ss ts = (aggregate.Count, refl)
item_reads d g is (item.Sum n) ss ts = (aggregate.Sum, refl)
item_reads d g is (item.Min n) ss ts = (aggregate.Min, refl)
item_reads d g is (item.Max n) ss ts = (aggregate.Max, refl)

first_item : (d : Draft) (g : Aggregate) (i : Item) (ss : List Symbol) (ts : List Lexeme)
    → (h : Aggregate) × (reads (with_items d g []) (Go part.Query ∷ ss) (item_words i ++ ts) ≡ reads (with_items d h (i ∷ [])) (Go part.MoreItems ∷ Go part.From ∷ ss) ts)
unfolding run next after lines may_lack same same_mark put
first_item d g (item.Plain n) ss ts = (g, refl)
first_item d g item.CountAll ss ts = (aggregate.Count, refl)
first_item d g (item.Count n) ss ts = (aggregate.Count, refl)
first_item d g (item.Sum n) ss ts = (aggregate.Sum, refl)
first_item d g (item.Min n) ss ts = (aggregate.Min, refl)
first_item d g (item.Max n) ss ts = (aggregate.Max, refl)

pub items_read : (d : Draft) (g : Aggregate) (is : List Item) (ls : List Lexeme) (ss : List Symbol) (ts : List Lexeme) → AreListed IsItem is ls
    → (h : Aggregate) × (reads (with_items d g []) (Go part.Query ∷ ss) (ls ++ ts) ≡ reads (with_items d h is) (Go part.MoreItems ∷ Go part.From ∷ ss) ts)
items_read d g is ls ss ts are =
    listed_reads {S = Aggregate} Comma IsItem part.MoreItems (Go part.Query ∷ ss) (Go part.From ∷ ss) (with_items d g []) (λ h xs. with_items d h xs) Free Any any
    (λ i a us say free b. let f = first_item d g i ss us in (f.0, ap (λ (l : List Lexeme). reads (with_items d g []) (Go part.Query ∷ ss) (l ++ us)) say ∙ f.1))
    (λ h xs i a us say free b. let f = item_reads d h xs i (Go part.From ∷ ss) us in (f.0, ap (λ (l : List Lexeme). reads (with_items d h xs) (Go part.MoreItems ∷ Go part.From ∷ ss) (word Comma ∷ (l ++ us))) say ∙ f.1))
    is ls ts are (all_free [] is) tt

-- ---- groups and orders

abbrev pub with_group : Draft → List (List ℕ) → Draft
with_group d ns = record d { group = ns }

group_first : (d : Draft) (n : List ℕ) (ss : List Symbol) (ts : List Lexeme)
    → reads (with_group d []) (Go part.GroupBy ∷ ss) (word Group ∷ word By ∷ name n ∷ ts) ≡ reads (with_group d (n ∷ [])) (Go part.MoreGroups ∷ ss) ts
unfolding run next after lines may_lack same same_mark put
group_first d n ss ts = refl

group_next : (d : Draft) (ns : List (List ℕ)) (n : List ℕ) (ss : List Symbol) (ts : List Lexeme)
    → reads (with_group d ns) (Go part.MoreGroups ∷ ss) (word Comma ∷ name n ∷ ts) ≡ reads (with_group d (ns ++ n ∷ [])) (Go part.MoreGroups ∷ ss) ts
unfolding run next after lines may_lack same same_mark put
group_next d ns n ss ts = refl

pub groups_read : (d : Draft) (n : List ℕ) (ns : List (List ℕ)) (ls : List Lexeme) (ss : List Symbol) (ts : List Lexeme) → AreListed IsName (n ∷ ns) ls
    → reads (with_group d []) (Go part.GroupBy ∷ ss) (word Group ∷ word By ∷ (ls ++ ts)) ≡ reads (with_group d (n ∷ ns)) (Go part.MoreGroups ∷ ss) ts
groups_read d n ns ls ss ts (a, b, first, more, is) =
    let text : ls ++ ts ≡ name n ∷ (b ++ ts) = ap (λ (l : List Lexeme). l ++ ts) is ∙ append_assoc a b ts ∙ ap (λ (l : List Lexeme). l ++ (b ++ ts)) first in
    ap (λ (l : List Lexeme). reads (with_group d []) (Go part.GroupBy ∷ ss) (word Group ∷ word By ∷ l)) text
    ∙ group_first d n ss (b ++ ts)
    ∙ (more_reads {S = ⊤} Comma IsName part.MoreGroups ss (λ s xs. with_group d xs) Free Any any
    (λ s xs x c us say free b. (tt, ap (λ (l : List Lexeme). reads (with_group d xs) (Go part.MoreGroups ∷ ss) (word Comma ∷ (l ++ us))) say ∙ group_next d xs x ss us))
    tt (n ∷ []) ns b ts more (all_free (n ∷ []) ns) tt).1

abbrev pub with_order : Draft → List Order → Draft
with_order d os = record d { order = os }

abbrev pub ordered : List ℕ → Bool → Order
ordered n b = record { column = n; desc = b }

order_first : (d : Draft) (n : List ℕ) (ss : List Symbol) (ts : List Lexeme)
    → reads (with_order d []) (Go part.OrderBy ∷ ss) (word OrderMark ∷ word By ∷ name n ∷ ts) ≡ reads (with_order d (ordered n false ∷ [])) (Go part.Way ∷ Go part.MoreOrders ∷ ss) ts
unfolding run next after lines may_lack same same_mark put
order_first d n ss ts = refl

order_next : (d : Draft) (os : List Order) (n : List ℕ) (ss : List Symbol) (ts : List Lexeme)
    → reads (with_order d os) (Go part.MoreOrders ∷ ss) (word Comma ∷ name n ∷ ts) ≡ reads (with_order d (os ++ ordered n false ∷ [])) (Go part.Way ∷ Go part.MoreOrders ∷ ss) ts
unfolding run next after lines may_lack same same_mark put
order_next d os n ss ts = refl

way_reads : (d : Draft) (os : List Order) (n : List ℕ) (b : Bool) (ws : List Lexeme) (ss : List Symbol) (ts : List Lexeme) → IsWay b ws → Behind part.Way ts
    → reads (with_order d (os ++ ordered n false ∷ [])) (Go part.Way ∷ ss) (ws ++ ts) ≡ reads (with_order d (os ++ ordered n b ∷ [])) ss ts
unfolding run next after lines may_lack same same_mark put
way_reads d os n true ws ss ts is behind =
    ap (λ (l : List Lexeme). reads (with_order d (os ++ ordered n false ∷ [])) (Go part.Way ∷ ss) (l ++ ts)) is
    ∙ ap (λ (l : List Order). reads (with_order d l) ss ts) (change_last_end (λ (o : Order). record o { desc = true }) os (ordered n false))
way_reads d os n false ws ss ts (inl none) behind =
    ap (λ (l : List Lexeme). reads (with_order d (os ++ ordered n false ∷ [])) (Go part.Way ∷ ss) (l ++ ts)) none ∙ skip part.Way _ ss ts refl behind
way_reads d os n false ws ss ts (inr is) behind = ap (λ (l : List Lexeme). reads (with_order d (os ++ ordered n false ∷ [])) (Go part.Way ∷ ss) (l ++ ts)) is

comma_nullness : (us : List Lexeme) → Behind part.Nullness (word Comma ∷ us)
unfolding follow marks_behind same same_mark
comma_nullness us = refl

comma_way : (us : List Lexeme) → Behind part.Way (word Comma ∷ us)
unfolding follow marks_behind same same_mark
comma_way us = refl

pub columns_read : (d : Draft) (cs : List Column) (ls : List Lexeme) (ss : List Symbol) (ts : List Lexeme) → AreListed IsColumn cs ls → Obey IsNewColumn [] cs → Behind part.Nullness ts
    → reads (with_columns d []) (Go part.Column ∷ Go part.MoreColumns ∷ ss) (ls ++ ts) ≡ reads (with_columns d cs) (Go part.MoreColumns ∷ ss) ts
columns_read d cs ls ss ts are obey behind =
    (listed_reads {S = ⊤} Comma IsColumn part.MoreColumns (Go part.Column ∷ Go part.MoreColumns ∷ ss) ss (with_columns d []) (λ s xs. with_columns d xs) IsNewColumn (Behind part.Nullness) comma_nullness
    (λ c a us is new b. (tt, column_reads d [] c a (Go part.MoreColumns ∷ ss) us is new b))
    (λ s xs c a us is new b. (tt, comma_column (with_columns d xs) ss (a ++ us) ∙ column_reads d xs c a (Go part.MoreColumns ∷ ss) us is new b))
    cs ls ts are obey behind).1

pub changes_read : (d : Draft) (n : List ℕ) (cs : List Change) (ls : List Lexeme) (ss : List Symbol) (ts : List Lexeme) → AreListed IsChange cs ls → Obey IsNewChange [] cs
    → (m : List ℕ) × (reads (with_changes d n []) (Word Name role.Changed ∷ word_symbol Equal ∷ Go part.NewValue ∷ Go part.MoreChanges ∷ ss) (ls ++ ts) ≡ reads (with_changes d m cs) (Go part.MoreChanges ∷ ss) ts)
changes_read d n cs ls ss ts are obey =
    listed_reads {S = List ℕ} Comma IsChange part.MoreChanges (Word Name role.Changed ∷ word_symbol Equal ∷ Go part.NewValue ∷ Go part.MoreChanges ∷ ss) ss (with_changes d n []) (λ s xs. with_changes d s xs) IsNewChange Any any
    (λ c a us is new b. (c.column, ap (λ (l : List Lexeme). reads (with_changes d n []) (Word Name role.Changed ∷ word_symbol Equal ∷ Go part.NewValue ∷ Go part.MoreChanges ∷ ss) (l ++ us)) is ∙ first_change d n c.column c.value ss us new))
    (λ s xs c a us is new b. (c.column, change_reads d s xs c a ss us is new))
    cs ls ts are obey tt

pub orders_read : (d : Draft) (o : Order) (os : List Order) (ls : List Lexeme) (ss : List Symbol) (ts : List Lexeme) → AreListed IsOrdered (o ∷ os) ls → Behind part.Way ts
    → reads (with_order d []) (Go part.OrderBy ∷ ss) (word OrderMark ∷ word By ∷ (ls ++ ts)) ≡ reads (with_order d (o ∷ os)) (Go part.MoreOrders ∷ ss) ts
orders_read d o os ls ss ts (a, b, (ws, way, is_a), more, is) behind =
    let text : ls ++ ts ≡ name o.column ∷ (ws ++ (b ++ ts)) = ap (λ (l : List Lexeme). l ++ ts) is ∙ append_assoc a b ts ∙ ap (λ (l : List Lexeme). l ++ (b ++ ts)) is_a in
    let behind_first = behind_member Comma IsOrdered (Behind part.Way) comma_way os b ts more behind in
    ap (λ (l : List Lexeme). reads (with_order d []) (Go part.OrderBy ∷ ss) (word OrderMark ∷ word By ∷ l)) text
    ∙ order_first d o.column ss (ws ++ (b ++ ts))
    ∙ way_reads d [] o.column o.desc ws (Go part.MoreOrders ∷ ss) (b ++ ts) way behind_first
    ∙ (more_reads {S = ⊤} Comma IsOrdered part.MoreOrders ss (λ s xs. with_order d xs) Free (Behind part.Way) comma_way
    (λ s xs x c us say free behind. (tt, next_order d xs x c ss us say behind))
    tt (o ∷ []) os b ts more (all_free (o ∷ []) os) behind).1
  where
    next_order : (d : Draft) (xs : List Order) (x : Order) (c : List Lexeme) (ss : List Symbol) (us : List Lexeme) → IsOrdered x c → Behind part.Way us
        → reads (with_order d xs) (Go part.MoreOrders ∷ ss) (word Comma ∷ (c ++ us)) ≡ reads (with_order d (xs ++ x ∷ [])) (Go part.MoreOrders ∷ ss) us
    next_order d xs x c ss us (ws, way, is) behind =
        ap (λ (l : List Lexeme). reads (with_order d xs) (Go part.MoreOrders ∷ ss) (word Comma ∷ (l ++ us))) is
        ∙ order_next d xs x.column ss (ws ++ us)
        ∙ way_reads d xs x.column x.desc ws (Go part.MoreOrders ∷ ss) us way behind

-- Items, groups and orders that are spelled, taken apart.
use Rattle.std.proofs.Common.{◌≡◌, ℕ, Bool, true, false, List, [], ◌∷◌, ◌++◌, refl, sym, ap, subst, ◌∙◌, append_assoc, inl, inr}
use Rattle.iq_ast.specs.declared.statements.Item.{Item}
use Rattle.iq_ast.specs.declared.statements.Item.TheVariants as item
use Rattle.iq_ast.specs.declared.statements.Order.{Order}
use Rattle.iq_tokens.specs.declared.tokens.Mark.TheVariants.{Comma, Open, Close, Group, By, From, Star, Count, Asc, Desc, Order as OrderMark}
use Rattle.iq_tokens.specs.declared.tokens.Lexeme.{Lexeme}
use Rattle.iq_grammar.specs.declared.grammar.Aggregate.{Aggregate}
use Rattle.iq_grammar.specs.declared.grammar.Aggregate.TheVariants as aggregate
use Rattle.iq_grammar.specs.declared.grammar.Part.TheVariants as part
use Rattle.iq_grammar.specs.declared.grammar.Symbol.{Symbol}
use Rattle.iq_grammar.specs.declared.grammar.Symbol.TheVariants.{Go}
use Rattle.iq_grammar.specs.declared.draft.Draft.{Draft}
use Rattle.iq_grammar.specs.Grammar.{lines, may_lack, word as passed}
use Rattle.iq_grammar.specs.Draft.{put}
use Rattle.iq_grammar.specs.Reading.{Spells}
use Rattle.iq_grammar.proofs.Lists.{change_last_end}
use Rattle.iq_spelling.specs.Lists.{word, name, IsName, AreListed}
use Rattle.iq_spelling.specs.Texts.{item_words, IsItem, AreItems, IsGroup, IsWay, IsOrdered, IsOrder}
use Rattle.iq_spelling.proofs.Parts.{Free}
use Rattle.iq_spelling.proofs.Items.{with_items, with_group, with_order, ordered}
use Rattle.iq_spelling.proofs.Apart.{◌&◌, Each, each_to, cases, words, Front, exactly}
use Rattle.iq_spelling.proofs.ApartWrites.{plain}
use Rattle.iq_spelling.proofs.Members.{Listing, Next, marked, listed, next_member, Steps}

-- ---- items

abbrev pub items_of : Draft → Listing Item
items_of d = record { mark = Comma; Says = IsItem; Rule = Free {A = Item}; Beside = λ xs. Aggregate; draft = λ xs g. with_items d g xs }

abbrev NextItem : Draft → List Item → List Symbol → List Lexeme → Draft → Type 0
NextItem d xs ss ls e = Next (items_of d) xs IsItem ss ls e

-- an item whose words are known
an_item : (d : Draft) (xs : List Item) (i : Item) (g : Aggregate) (ss : List Symbol) (ls us : List Lexeme) (e : Draft) → ls ≡ item_words i ++ us → Spells (with_items d g (xs ++ i ∷ [])) ss us e → NextItem d xs ss ls e
an_item d xs i g ss ls us e is left = record { member = i; beside = g; rule = tt; front = exactly (item_words i) _ ss ls us e is left }

-- COUNT from its bracket on
counted_apart : (d : Draft) (xs : List Item) (ss : List Symbol) (ls us : List Lexeme) (e : Draft) → ls ≡ word Count ∷ word Open ∷ us
    → Spells (with_items d aggregate.Count xs) (Go part.Counted ∷ passed Close ∷ ss) us e → NextItem d xs ss ls e
unfolding lines may_lack put
counted_apart d xs ss ls us e is sp =
    cases part.Counted _ (passed Close ∷ ss) us e _ (
    tt
    & (λ (vs, star, left). closed item.CountAll (word Star) vs star (words _ (passed Close ∷ []) ss vs e left) refl)
    & (λ (n, (vs, named, left)). closed (item.Count n) (name n) vs named (words _ (passed Close ∷ []) ss vs e left) refl)
    & tt
    ) sp
  where
    closed : (i : Item) (l : Lexeme) (vs : List Lexeme) → us ≡ l ∷ vs → (ws : List Lexeme) × (vs ≡ word Close ∷ ws) × Spells (with_items d aggregate.Count (xs ++ i ∷ [])) ss ws e
        → item_words i ≡ word Count ∷ word Open ∷ l ∷ word Close ∷ [] → NextItem d xs ss ls e
    closed i l vs first (ws, close, left) of_item =
        an_item d xs i aggregate.Count ss ls ws e
        (is ∙ ap (λ (x : List Lexeme). word Count ∷ word Open ∷ x) (first ∙ ap (λ (x : List Lexeme). l ∷ x) close) ∙ ap (λ (x : List Lexeme). x ++ ws) (sym of_item)) left

-- the lines of an item, wherever they stand
item_lines : (d : Draft) (g : Aggregate) (xs : List Item) (ss : List Symbol) (ls : List Lexeme) (e : Draft) → Each (with_items d g xs) (lines part.Item) ss ls e (NextItem d xs ss ls e)
unfolding lines put
item_lines d g xs ss ls e =
    (λ (n, (us, is, left)). an_item d xs (item.Plain n) g ss ls us e is left)
    & (λ (us, is, left). counted_apart d xs ss ls us e is left)
    & (λ (n, (us, is, left)). an_item d xs (item.Sum n) aggregate.Sum ss ls us e is left)
    & (λ (n, (us, is, left)). an_item d xs (item.Min n) aggregate.Min ss ls us e is left)
    & (λ (n, (us, is, left)). an_item d xs (item.Max n) aggregate.Max ss ls us e is left)
    & tt

next_item : (d : Draft) (ss : List Symbol) (e : Draft) → Steps (items_of d) part.MoreItems ss e
unfolding lines may_lack
next_item d ss e =
    next_member (items_of d) part.MoreItems part.Item ss e (refl, refl) (λ xs g ls sp. cases part.Item _ (Go part.MoreItems ∷ ss) ls e _ (tt & item_lines d g xs (Go part.MoreItems ∷ ss) ls e) sp)

-- the items and the table
abbrev pub IsFrom : List Item → List ℕ → List Lexeme → Type 0
IsFrom is t ls = (items : List Lexeme) × AreItems is items × (ls ≡ items ++ word From ∷ name t ∷ [])

-- the draft of these
abbrev pub asked : Draft → Aggregate → List Item → List ℕ → Draft
asked d g is t = record d { aggregate = g; items = is; table = t }

-- the tokens begin with the items and the table of a query
pub record Asked (d : Draft) (ss : List Symbol) (ls : List Lexeme) (e : Draft) : Type 0 where
  pub items : List Item
  pub table : List ℕ
  pub aggregate : Aggregate
  pub front : Front (IsFrom items table) (asked d aggregate items table) (Go part.Where ∷ Go part.GroupBy ∷ Go part.OrderBy ∷ ss) ls e

-- the table behind the items
from_apart : (d : Draft) (g : Aggregate) (is : List Item) (items us : List Lexeme) (ss : List Symbol) (ls : List Lexeme) (e : Draft) → AreItems is items → ls ≡ items ++ us
    → Spells (with_items d g is) (Go part.From ∷ ss) us e → Asked d ss ls e
unfolding lines may_lack put
from_apart d g is items us ss ls e are text sp =
    cases part.From _ ss us e _ (
    tt
    & (λ (t, (vs, from, left)). record {
      items = is;
      table = t;
      aggregate = g;
      front = record {
        text = items ++ word From ∷ name t ∷ [];
        rest = vs;
        says = (items, are, refl);
        is = text ∙ ap (λ (x : List Lexeme). items ++ x) from ∙ sym (append_assoc items (word From ∷ name t ∷ []) vs);
        left = left;
      };
    })
    & tt
    ) sp

listed_items : (is : List Item) (ls : List Lexeme) → AreListed IsItem is ls → AreItems is ls
listed_items [] ls none = absurd none
listed_items (i ∷ is) ls are = are

pub query_apart : (d : Draft) (ss : List Symbol) (ls : List Lexeme) (e : Draft) → Spells (record d { items = [] }) (Go part.Query ∷ ss) ls e → Asked d ss ls e
unfolding lines may_lack put
query_apart d ss ls e sp =
    cases part.Query _ ss ls e _ (
    tt
    & (λ (us, is, left). from_apart d d.aggregate [] (word Star ∷ []) us ss ls e refl is left)
    & each_to (with_items d d.aggregate []) (lines part.Item) (Go part.MoreItems ∷ Go part.From ∷ ss) ls e (NextItem d [] (Go part.MoreItems ∷ Go part.From ∷ ss) ls e) (Asked d ss ls e) all
    (item_lines d d.aggregate [] (Go part.MoreItems ∷ Go part.From ∷ ss) ls e)
    ) sp
  where
    all : Next (items_of d) [] IsItem (Go part.MoreItems ∷ Go part.From ∷ ss) ls e → Asked d ss ls e
    all first =
        let is = listed (items_of d) part.MoreItems (Go part.From ∷ ss) ls e (next_item d (Go part.From ∷ ss) e) first in
        from_apart d is.beside is.members is.front.text is.front.rest ss ls e (listed_items is.members is.front.text is.front.says) is.front.is is.front.left

-- ---- groups and orders

abbrev groups_of : Draft → Listing (List ℕ)
groups_of d = plain IsName (λ ns. with_group d ns)

next_group : (d : Draft) (ss : List Symbol) (e : Draft) → Steps (groups_of d) part.MoreGroups ss e
unfolding lines may_lack put
next_group d ss e xs s ls sp =
    cases part.MoreGroups _ ss ls e _ (
    (λ left. inl left)
    & (λ (n, (us, is, left)). inr (marked (groups_of d) xs (Go part.MoreGroups ∷ ss) ls (name n ∷ us) e is (record { member = n; beside = tt; rule = tt; front = exactly (name n ∷ []) _ (Go part.MoreGroups ∷ ss) (name n ∷ us) us e refl left })))
    & tt
    ) sp

listed_groups : (ns : List (List ℕ)) (names : List Lexeme) → AreListed IsName ns names → IsGroup ns (word Group ∷ word By ∷ names)
listed_groups [] names none = absurd none
listed_groups (n ∷ ns) names are = (names, are, refl)

pub group_apart : (d : Draft) (ss : List Symbol) (ls : List Lexeme) (e : Draft) → Spells (with_group d []) (Go part.GroupBy ∷ ss) ls e → (ns : List (List ℕ)) × Front (IsGroup ns) (with_group d ns) ss ls e
unfolding lines may_lack put
group_apart d ss ls e sp =
    cases part.GroupBy _ ss ls e _ (
    (λ left. ([], record { text = []; rest = ls; says = refl; is = refl; left = left }))
    & (λ (n, (us, is, left)). grouped n us is left)
    & tt
    ) sp
  where
    grouped : (n : List ℕ) (us : List Lexeme) → ls ≡ word Group ∷ word By ∷ name n ∷ us → Spells (with_group d (n ∷ [])) (Go part.MoreGroups ∷ ss) us e → (ns : List (List ℕ)) × Front (IsGroup ns) (with_group d ns) ss ls e
    grouped n us is left =
        let all = listed (groups_of d) part.MoreGroups ss (name n ∷ us) e (next_group d ss e) (record { member = n; beside = tt; rule = tt; front = exactly (name n ∷ []) _ (Go part.MoreGroups ∷ ss) (name n ∷ us) us e refl left }) in (
          all.members,
          record {
            text = word Group ∷ word By ∷ all.front.text;
            rest = all.front.rest;
            says = listed_groups all.members all.front.text all.front.says;
            is = is ∙ ap (λ (x : List Lexeme). word Group ∷ word By ∷ x) all.front.is;
            left = all.front.left;
          },
        )

abbrev orders_of : Draft → Listing Order
orders_of d = plain IsOrdered (λ os. with_order d os)

way_apart : (d : Draft) (os : List Order) (n : List ℕ) (ss : List Symbol) (ls : List Lexeme) (e : Draft) → Spells (with_order d (os ++ ordered n false ∷ [])) (Go part.Way ∷ ss) ls e
    → (b : Bool) × Front (IsWay b) (with_order d (os ++ ordered n b ∷ [])) ss ls e
unfolding lines may_lack put
way_apart d os n ss ls e sp =
    cases part.Way _ ss ls e _ (
    (λ left. (false, record { text = []; rest = ls; says = inl refl; is = refl; left = left }))
    & (λ (us, is, left). (false, record { text = word Asc ∷ []; rest = us; says = inr refl; is = is; left = left }))
    & (λ (us, is, left). (true, exactly (word Desc ∷ []) _ ss ls us e is (subst (λ (l : List Order). Spells (with_order d l) ss us e) (change_last_end (λ (o : Order). record o { desc = true }) os (ordered n false)) left)))
    & tt
    ) sp

-- an order from its name on
order_named : (d : Draft) (os : List Order) (n : List ℕ) (ss : List Symbol) (us : List Lexeme) (e : Draft) → Spells (with_order d (os ++ ordered n false ∷ [])) (Go part.Way ∷ ss) us e
    → Next (orders_of d) os IsOrdered ss (name n ∷ us) e
order_named d os n ss us e sp =
    let way = way_apart d os n ss us e sp in
    record {
      member = ordered n way.0;
      beside = tt;
      rule = tt;
      front = record { text = name n ∷ way.1.text; rest = way.1.rest; says = (way.1.text, way.1.says, refl); is = ap (λ (x : List Lexeme). name n ∷ x) way.1.is; left = way.1.left };
    }

next_order : (d : Draft) (ss : List Symbol) (e : Draft) → Steps (orders_of d) part.MoreOrders ss e
unfolding lines may_lack put
next_order d ss e xs s ls sp =
    cases part.MoreOrders _ ss ls e _ (
    (λ left. inl left)
    & (λ (n, (us, is, left)). inr (marked (orders_of d) xs (Go part.MoreOrders ∷ ss) ls (name n ∷ us) e is (order_named d xs n (Go part.MoreOrders ∷ ss) us e left)))
    & tt
    ) sp

listed_orders : (os : List Order) (orders : List Lexeme) → AreListed IsOrdered os orders → IsOrder os (word OrderMark ∷ word By ∷ orders)
listed_orders [] orders none = absurd none
listed_orders (o ∷ os) orders are = (orders, are, refl)

pub order_apart : (d : Draft) (ss : List Symbol) (ls : List Lexeme) (e : Draft) → Spells (with_order d []) (Go part.OrderBy ∷ ss) ls e → (os : List Order) × Front (IsOrder os) (with_order d os) ss ls e
unfolding lines may_lack put
order_apart d ss ls e sp =
    cases part.OrderBy _ ss ls e _ (
    (λ left. ([], record { text = []; rest = ls; says = refl; is = refl; left = left }))
    & (λ (n, (us, is, left)). all_orders n us is left)
    & tt
    ) sp
  where
    all_orders : (n : List ℕ) (us : List Lexeme) → ls ≡ word OrderMark ∷ word By ∷ name n ∷ us → Spells (with_order d (ordered n false ∷ [])) (Go part.Way ∷ Go part.MoreOrders ∷ ss) us e
        → (os : List Order) × Front (IsOrder os) (with_order d os) ss ls e
    all_orders n us is left =
        let all = listed (orders_of d) part.MoreOrders ss (name n ∷ us) e (next_order d ss e) (order_named d [] n (Go part.MoreOrders ∷ ss) us e left) in (
          all.members,
          record {
            text = word OrderMark ∷ word By ∷ all.front.text;
            rest = all.front.rest;
            says = listed_orders all.members all.front.text all.front.says;
            is = is ∙ ap (λ (x : List Lexeme). word OrderMark ∷ word By ∷ x) all.front.is;
            left = all.front.left;
          },
        )

-- Walks over columns and over the members of a list.
use Rattle.std.proofs.Common.{◌≡◌, ◌<◌, ℕ, zero, suc, ◌+◌, List, [], ◌∷◌, ◌++◌, length, map, take, drop, get_or, refl, sym, ◌∙◌, ap, subst, arith, Option, Some}
use Rattle.std.specs.List.{cons_option, filter_map, AllByRecursion}
use Rattle.std.proofs.lemmas.List.{take_more, drop_more, length-map, take-map}
use Rattle.std.proofs.lemmas.List.Elements.{filter_map-append}
use Rattle.iq_base.specs.declared.schemas.Column.{Column}
use Rattle.iq_ast.specs.declared.statements.Item.{Item}
use Rattle.iq_ast.specs.declared.statements.Item.TheVariants as items
use Rattle.iq_conditions.specs.Servers.{column_place}
use Rattle.iq_statements.specs.Checks.{first_found}
use Rattle.iq_statements.specs.Named.{item_column, no_column}
use Rattle.iq_query.specs.Simple.{IsColumnItem}
use Rattle.iq_query.specs.Calls.{item_place, AreWithin}

-- what is found in the first, so many, and in one more
next_found : {X Y : Type 0} (h : X → Option Y) (xs : List X) (i : ℕ) (x : X) (o : Option Y) → i < length xs → x ≡ get_or xs i x → h x ≡ o → filter_map h (take (i + 1) xs) ≡ filter_map h (take i xs) ++ cons_option o []
next_found h xs i x o less is gives =
    ap (filter_map h) (take_more xs i x less)
    ∙ filter_map-append h (take i xs) (get_or xs i x ∷ [])
    ∙ ap (λ z. filter_map h (take i xs) ++ cons_option (h z) []) (sym is)
    ∙ ap (λ p. filter_map h (take i xs) ++ cons_option p []) gives

-- the places of some columns and one more
pub place_next : (columns : List Column) (xs : List Item) (i : ℕ) (x : Item) (p : ℕ) (places places' : List ℕ) → i < length xs → x ≡ get_or xs i x → item_place columns x ≡ Some p
    → places ≡ filter_map (item_place columns) (take i xs) → places' ≡ places ++ p ∷ [] → places' ≡ filter_map (item_place columns) (take (i + 1) xs)
place_next columns xs i x p places places' less is at are more = more ∙ ap (λ (ps : List ℕ). ps ++ p ∷ []) are ∙ sym (next_found (item_place columns) xs i x (Some p) less is at)

-- the columns as members of a list
abbrev pub all_members : List Column → List Item
all_members columns = map (λ (column : Column). items.Plain column.name) columns

members_take : (columns : List Column) (i : ℕ) → take i (all_members columns) ≡ all_members (take i columns)
members_take columns i = take-map (λ (column : Column). items.Plain column.name) i columns

member_at : (columns : List Column) (i : ℕ) (x : Column) → i < length columns → x ≡ get_or columns i x → items.Plain x.name ≡ get_or (all_members columns) i (items.Plain x.name)
member_at [] i x less is = absurd (omega (arith, less))
member_at (c ∷ cs) zero x less is = ap (λ (column : Column). items.Plain column.name) is
member_at (c ∷ cs) (suc i) x less is = member_at cs i x (omega (arith, less)) is

-- the places of the first columns, so many, and of one more, which has one or none
pub own_next : (all columns : List Column) (i : ℕ) (x : Column) (o : Option ℕ) (places : List ℕ) → i < length columns → x ≡ get_or columns i x → column_place all x.name ≡ o
    → places ≡ filter_map (item_place all) (all_members (take i columns)) → filter_map (item_place all) (all_members (take (i + 1) columns)) ≡ places ++ cons_option o []
own_next all columns i x o places less is at are =
    ap (filter_map (item_place all)) (sym (members_take columns (i + 1)))
    ∙ next_found (item_place all) (all_members columns) i (items.Plain x.name) o (omega (arith, less, length-map columns (λ (column : Column). items.Plain column.name))) (member_at columns i x less is) at
    ∙ ap (λ (ms : List Item). filter_map (item_place all) ms ++ cons_option o []) (members_take columns i)
    ∙ ap (λ (ps : List ℕ). ps ++ cons_option o []) (sym are)

-- one place more
pub within_more : (n : ℕ) (xs : List ℕ) (y : ℕ) → y < n → AreWithin n xs → AreWithin n (xs ++ y ∷ [])
within_more n [] y less w zero h = less
within_more n [] y less w (suc i) h = absurd (omega (arith, h))
within_more n (x ∷ xs) y less w zero h = w 0 (omega arith)
within_more n (x ∷ xs) y less w (suc i) h = within_more n xs y less (λ j l. w (suc j) (omega (arith, l))) i (omega (arith, h))

-- a member that has a place is refused for nothing
granted : (columns : List Column) (item : Item) (rest : List Item) (p : ℕ) → item_place columns item ≡ Some p → first_found (no_column columns) (filter_map item_column (item ∷ rest)) ≡ first_found (no_column columns) (filter_map item_column rest)
granted columns (items.Plain name) rest p at = rw at refl
granted columns items.CountAll rest p at = refl
granted columns (items.Count name) rest p at = rw at refl
granted columns (items.Sum name) rest p at = rw at refl
granted columns (items.Min name) rest p at = rw at refl
granted columns (items.Max name) rest p at = rw at refl

pub granted_next : (columns : List Column) (xs : List Item) (i : ℕ) (x : Item) (p : ℕ) → i < length xs → x ≡ get_or xs i x → item_place columns x ≡ Some p
    → first_found (no_column columns) (filter_map item_column (drop i xs)) ≡ first_found (no_column columns) (filter_map item_column (drop (i + 1) xs))
granted_next columns xs i x p less is at =
    ap (λ (ys : List Item). first_found (no_column columns) (filter_map item_column ys)) (drop_more xs i x less ∙ ap (λ (z : Item). z ∷ drop (i + 1) xs) (sym is))
    ∙ granted columns x (drop (i + 1) xs) p at

pub plain_next : (xs : List Item) (i : ℕ) (x : Item) → i < length xs → AllByRecursion IsColumnItem (drop i xs) → AllByRecursion IsColumnItem (drop (i + 1) xs)
plain_next xs i x less plain = (subst (AllByRecursion IsColumnItem) (drop_more xs i x less) plain).1

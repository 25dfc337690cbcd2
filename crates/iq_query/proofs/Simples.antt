-- What a simple query answers, and what its tests find.
use Rattle.std.proofs.Common.{◌≡◌, ◌<◌, ℕ, zero, suc, ◌+◌, Bool, true, false, List, [], ◌∷◌, ◌++◌, length, map, filter, refl, sym, ◌∙◌, ap, ap₂, subst, arith, Option, Some, None, cond, append-nil, append_assoc, not}
use Rattle.std.specs.List.{slice_get, list_any, filter_map, position_or_len, AllByRecursion}
use Rattle.std.specs.Option.{option_or}
use Rattle.std.specs.Prelude.{nat_lt, is_none}
use Rattle.std.proofs.lemmas.Bool.Decides.{nat_tests}
use Rattle.iq_base.specs.Shorts.{Name}
use Rattle.iq_base.specs.declared.values.Value.{Value}
use Rattle.iq_base.specs.declared.schemas.Column.{Column}
use Rattle.iq_base.specs.declared.refusals.Refusal.{Refusal}
use Rattle.iq_base.specs.declared.refusals.Refusal.TheVariants as refusals
use Rattle.iq_ast.specs.declared.conditions.Test.{Test}
use Rattle.iq_ast.specs.declared.conditions.Cond.{Cond}
use Rattle.iq_ast.specs.declared.conditions.Cond as conds
use Rattle.iq_truth.specs.declared.truth.Side.TheVariants as sides
use Rattle.iq_truth.specs.declared.truth.Truth.{Truth}
use Rattle.iq_truth.specs.declared.truth.Truth.TheVariants as truths
use Rattle.iq_truth.specs.Sides.{is_on}
use Rattle.iq_truth.specs.Tests.{test_truth}
use Rattle.iq_ast.specs.declared.statements.Item.{Item}
use Rattle.iq_ast.specs.declared.statements.Item.TheVariants as items
use Rattle.iq_ast.specs.declared.statements.Select.{Select}
use Rattle.iq_cells.specs.Packed.{value_at as value_in}
use Rattle.iq_table.specs.Table.{values_at}
use Rattle.iq_model.specs.declared.answers.Answer.TheVariants as answers
use Rattle.iq_model.specs.declared.answers.Out.{Out}
use Rattle.iq_model.specs.Outs.{out_of, outs_of}
use Rattle.iq_conditions.specs.Conditions.{test_names}
use Rattle.iq_conditions.specs.Servers.{same_name, column_place}
use Rattle.iq_statements.specs.Checks.{first_refusal, first_found, found_if}
use Rattle.iq_statements.specs.Rows.{value_named, is_true, kept_rows, value_or_null, put_in, in_order}
use Rattle.iq_statements.specs.Named.{item_column, no_column, members_of, not_grouped, select_checks, is_aggregate}
use Rattle.iq_statements.specs.Fits.{item_mismatch, test_mismatch}
use Rattle.iq_statements.specs.Answers.{answer_at, rows_at, projected, alone, group_order}
use Rattle.iq_statements.specs.Tables.{Table, content}
use Rattle.iq_database.proofs.Names.{same_name-refl}
use Rattle.iq_query.specs.Simple.{IsColumnItem, IsSimple, IsSimpleList, IsSimpleCondition}
use Rattle.iq_query.specs.Calls.{item_place, places_of, counts_rows, counted_rows, test_in, is_kept, chosen, test_refusal}

-- THE ROWS THAT ARE KEPT, IN THEIR ORDER

on_true : (truth : Truth) → is_on sides.True truth ≡ is_true truth
on_true truths.False = refl
on_true truths.Unknown = refl
on_true truths.True = refl

kept_by : (columns : List Column) (test : Test) (rows : List (List Value)) → filter (is_kept columns (Some test)) rows ≡ kept_rows columns (Some (conds.Test test)) rows
kept_by columns test [] = refl
kept_by columns test (row ∷ rows) =
    ap₂ (λ (b : Bool) (rs : List (List Value)). cond b (row ∷ rs) rs) (on_true (test_truth (value_named columns row) test)) (kept_by columns test rows)

pub kept_is : (condition : Option Cond) (t : Table) → IsSimpleCondition condition → chosen (test_in condition) t ≡ kept_rows t.columns condition (content t)
kept_is None t simple = refl
kept_is (Some (conds.Test test)) t simple = kept_by t.columns test (content t)
kept_is (Some (conds.Not' shape members)) t simple = absurd simple
kept_is (Some (conds.And' shape members)) t simple = absurd simple
kept_is (Some (conds.Or' shape members)) t simple = absurd simple

order_none : (columns : List Column) (groups : List (List (List Value))) → in_order (group_order columns []) groups ≡ groups
order_none columns [] = refl
order_none columns (g ∷ gs) = ap (put_in (group_order columns []) g) (order_none columns gs) ∙ first gs
  where
    first : (gs : List (List (List Value))) → put_in (group_order columns []) g gs ≡ g ∷ gs
    first [] = refl
    first (h ∷ hs) = refl

-- LISTS OF COLUMNS

-- no member of a list of columns counts
none_counts : (members : List Item) → AllByRecursion IsColumnItem members → list_any is_aggregate members ≡ false
none_counts [] plain = refl
none_counts (items.Plain name ∷ members) plain = none_counts members plain.1
none_counts (items.CountAll ∷ members) plain = absurd plain.0
none_counts (items.Count name ∷ members) plain = absurd plain.0
none_counts (items.Sum name ∷ members) plain = absurd plain.0
none_counts (items.Min name ∷ members) plain = absurd plain.0
none_counts (items.Max name ∷ members) plain = absurd plain.0

-- a member that names a column, which has a place
abbrev pub IsPlacedItem : List Column → Item → Type 0
IsPlacedItem columns item = (name : Name) × (item ≡ items.Plain name) × ((p : ℕ) × (column_place columns name ≡ Some p))

abbrev pub HavePlaces : List Column → List Item → Type 0
HavePlaces columns members = AllByRecursion (IsPlacedItem columns) members

out_at : (row : List Value) (p : ℕ) → out_of (value_in p row) ≡ out_of (value_or_null (slice_get row p))
out_at [] p = refl
out_at (v ∷ row) zero = refl
out_at (v ∷ row) (suc p) = out_at row p

-- so a row is answered by the values at these places
one_row : (columns : List Column) (members : List Item) (row : List Value) → HavePlaces columns members → outs_of (values_at (filter_map (item_place columns) members) row) ≡ projected columns members (alone row)
one_row columns [] row placed = refl
one_row columns (item ∷ members) row placed = by_name item placed.0.0 placed.0.1 placed.0.2.0 placed.0.2.1 (one_row columns members row placed.1)
  where
    by_name : (item : Item) (name : Name) → item ≡ items.Plain name → (p : ℕ) → column_place columns name ≡ Some p
        → outs_of (values_at (filter_map (item_place columns) members) row) ≡ projected columns members (alone row)
        → outs_of (values_at (filter_map (item_place columns) (item ∷ members)) row) ≡ projected columns (item ∷ members) (alone row)
    by_name item name is p at rest =
        rw (is, at)
        (ap (λ (o : Out). o ∷ outs_of (values_at (filter_map (item_place columns) members) row)) (out_at row p)
        ∙ ap (λ (os : List Out). out_of (value_or_null (slice_get row p)) ∷ os) rest)

all_rows : (columns : List Column) (members : List Item) (rows : List (List Value)) → HavePlaces columns members → map outs_of (map (values_at (filter_map (item_place columns) members)) rows) ≡ map (projected columns members) (map alone rows)
all_rows columns members [] placed = refl
all_rows columns members (row ∷ rows) placed =
    ap (λ (r : List Out). r ∷ map outs_of (map (values_at (filter_map (item_place columns) members)) rows)) (one_row columns members row placed)
    ∙ ap (λ (rs : List (List Out)). projected columns members (alone row) ∷ rs) (all_rows columns members rows placed)

none_left : (a b : Option Refusal) → option_or a b ≡ None → a ≡ None
none_left None b h = refl
none_left (Some x) b h = cc

none_right : (a b : Option Refusal) → option_or a b ≡ None → b ≡ None
none_right None b h = h
none_right (Some x) b h = cc

-- a name that nothing refuses has a place
placed_name : (columns : List Column) (name : Name) (o : Option ℕ) → column_place columns name ≡ o → found_if (is_none o) (refusals.NoColumn name) ≡ None → (p : ℕ) × (column_place columns name ≡ Some p)
placed_name columns name None is h = cc
placed_name columns name (Some p) is h = (p, is)

have_places : (columns : List Column) (members : List Item) → AllByRecursion IsColumnItem members → first_found (no_column columns) (filter_map item_column members) ≡ None → HavePlaces columns members
have_places columns [] plain h = tt
have_places columns (items.Plain name ∷ members) plain h = (
  (name, refl, placed_name columns name (column_place columns name) refl (none_left (no_column columns name) (first_found (no_column columns) (filter_map item_column members)) h)),
  have_places columns members plain.1 (none_right (no_column columns name) (first_found (no_column columns) (filter_map item_column members)) h),
)
have_places columns (items.CountAll ∷ members) plain h = absurd plain.0
have_places columns (items.Count name ∷ members) plain h = absurd plain.0
have_places columns (items.Sum name ∷ members) plain h = absurd plain.0
have_places columns (items.Min name ∷ members) plain h = absurd plain.0
have_places columns (items.Max name ∷ members) plain h = absurd plain.0

-- every column has a place
own_place : (columns before : List Column) (column : Column) (more : List Column) → columns ≡ before ++ (column ∷ more) → (p : ℕ) × (column_place columns column.name ≡ Some p)
own_place columns before column more is =
    let less : position_or_len (λ (c : Column). same_name c.name column.name) (before ++ (column ∷ more)) < length (before ++ (column ∷ more)) = short before in
    let here : nat_lt (position_or_len (λ (c : Column). same_name c.name column.name) columns) (length columns) ≡ true = rw is (yes _ _ less) in
    (position_or_len (λ (c : Column). same_name c.name column.name) columns, rw here refl)
  where
    yes : (a b : ℕ) → a < b → nat_lt a b ≡ true
    yes a b h = grind (arith, nat_tests)

    short : (before : List Column) → position_or_len (λ (c : Column). same_name c.name column.name) (before ++ (column ∷ more)) < length (before ++ (column ∷ more))
    short [] = rw (same_name-refl column.name) (omega arith)
    short (c ∷ cs) = either (same_name c.name column.name) (short cs)
      where
        either : (b : Bool) → position_or_len (λ (c : Column). same_name c.name column.name) (cs ++ (column ∷ more)) < length (cs ++ (column ∷ more))
            → cond (not b) (1 + position_or_len (λ (c : Column). same_name c.name column.name) (cs ++ (column ∷ more))) 0 < suc (length (cs ++ (column ∷ more)))
        either true h = omega arith
        either false h = omega (arith, h)

all_have_places : (columns before rest : List Column) → columns ≡ before ++ rest → HavePlaces columns (map (λ (column : Column). items.Plain column.name) rest)
all_have_places columns before [] is = tt
all_have_places columns before (column ∷ rest) is = (
  (column.name, refl, own_place columns before column rest is),
  all_have_places columns (before ++ column ∷ []) rest (is ∙ sym (append_assoc before (column ∷ []) rest)),
)

-- WHAT THE TESTS FIND

fit_simple : (columns : List Column) (members : List Item) → IsSimpleList members → first_found (item_mismatch columns) members ≡ None
fit_simple columns [] simple = refl
fit_simple columns (items.Plain name ∷ members) simple = fit_plain columns members simple
  where
    fit_plain : (columns : List Column) (members : List Item) → AllByRecursion IsColumnItem members → first_found (item_mismatch columns) members ≡ None
    fit_plain columns [] plain = refl
    fit_plain columns (items.Plain name ∷ members) plain = fit_plain columns members plain.1
    fit_plain columns (items.CountAll ∷ members) plain = absurd plain.0
    fit_plain columns (items.Count name ∷ members) plain = absurd plain.0
    fit_plain columns (items.Sum name ∷ members) plain = absurd plain.0
    fit_plain columns (items.Min name ∷ members) plain = absurd plain.0
    fit_plain columns (items.Max name ∷ members) plain = absurd plain.0
fit_simple columns (items.CountAll ∷ members) simple = rw simple refl
fit_simple columns (items.Count name ∷ members) simple = absurd simple
fit_simple columns (items.Sum name ∷ members) simple = absurd simple
fit_simple columns (items.Min name ∷ members) simple = absurd simple
fit_simple columns (items.Max name ∷ members) simple = absurd simple

-- a simple query as it is: everything but its list, its table and its condition is as said
abbrev pub simple_of : Select → Select
simple_of select = record select { explain = false; group = []; order = [] }

pub is_simple : (select : Select) → IsSimple select → simple_of select ≡ select
is_simple select s = rw (sym s.answered, sym s.not_grouped, sym s.not_ordered) refl

grouped_none : (columns : List Column) (select : Select) → IsSimpleList select.items → not_grouped columns (simple_of select) ≡ None
grouped_none columns select simple = by_list select.items simple
  where
    by_list : (members : List Item) → IsSimpleList members → not_grouped columns (record (simple_of select) { items = members }) ≡ None
    by_list [] simple = refl
    by_list (items.Plain name ∷ members) simple = rw (none_counts members simple) refl
    by_list (items.CountAll ∷ members) simple = rw simple refl
    by_list (items.Count name ∷ members) simple = absurd simple
    by_list (items.Sum name ∷ members) simple = absurd simple
    by_list (items.Min name ∷ members) simple = absurd simple
    by_list (items.Max name ∷ members) simple = absurd simple

-- the first of two lists
found_append : {X : Type 0} (f : X → Option Refusal) (xs ys : List X) → first_found f (xs ++ ys) ≡ option_or (first_found f xs) (first_found f ys)
found_append f [] ys = refl
found_append f (x ∷ xs) ys = first (f x) (found_append f xs ys)
  where
    first : (o : Option Refusal) → first_found f (xs ++ ys) ≡ option_or (first_found f xs) (first_found f ys) → option_or o (first_found f (xs ++ ys)) ≡ option_or (option_or o (first_found f xs)) (first_found f ys)
    first None more = more
    first (Some r) more = refl

or_three : (a b d : Option Refusal) → option_or (option_or a b) (option_or (option_or d None) None) ≡ option_or a (option_or b d)
or_three None None None = refl
or_three None None (Some r) = refl
or_three None (Some r) d = refl
or_three (Some r) b d = refl

-- a simple query is refused for the first name of its list that is no column, and then for its test
pub checks_are : (select : Select) (t : Table) → IsSimple select
    → first_refusal (select_checks select t) ≡ option_or (first_found (no_column t.columns) (filter_map item_column select.items)) (test_refusal t.columns (test_in select.cond))
checks_are select t s =
    subst (λ (q : Select). first_refusal (select_checks q t) ≡ option_or (first_found (no_column t.columns) (filter_map item_column q.items)) (test_refusal t.columns (test_in q.cond))) (is_simple select s)
    (here select.cond s.condition)
  where
    named : List Name
    named = filter_map item_column select.items

    here : (condition : Option Cond) → IsSimpleCondition condition
        → first_refusal (select_checks (record (simple_of select) { cond = condition }) t) ≡ option_or (first_found (no_column t.columns) named) (test_refusal t.columns (test_in condition))
    here None simple =
        rw (append-nil named, append-nil named, append-nil named, fit_simple t.columns select.items s.list, grouped_none t.columns (record select { cond = None }) s.list)
        refl
    here (Some (conds.Test test)) simple =
        let names : ((named ++ (test_names test ++ [])) ++ []) ++ [] ≡ named ++ test_names test =
        append-nil ((named ++ (test_names test ++ [])) ++ []) ∙ append-nil (named ++ (test_names test ++ [])) ∙ ap (λ (ns : List Name). named ++ ns) (append-nil (test_names test)) in
        rw (names, found_append (no_column t.columns) named (test_names test), fit_simple t.columns select.items s.list, grouped_none t.columns (record select { cond = Some (conds.Test test) }) s.list)
        (or_three (first_found (no_column t.columns) named) (first_found (no_column t.columns) (test_names test)) (test_mismatch t.columns test))
    here (Some (conds.Not' shape members)) simple = absurd simple
    here (Some (conds.And' shape members)) simple = absurd simple
    here (Some (conds.Or' shape members)) simple = absurd simple

-- what is found of its list, of its test, and of neither
pub list_refused : (select : Select) (t : Table) (columns : List Column) (cause : Refusal) → IsSimple select → columns ≡ t.columns → first_found (no_column columns) (filter_map item_column select.items) ≡ Some cause
    → first_refusal (select_checks select t) ≡ Some cause
list_refused select t columns cause s are found =
    checks_are select t s ∙ ap (λ (o : Option Refusal). option_or o (test_refusal t.columns (test_in select.cond))) (ap (λ (cs : List Column). first_found (no_column cs) (filter_map item_column select.items)) (sym are) ∙ found)

pub test_refused : (select : Select) (t : Table) (columns : List Column) (found : Option Refusal) → IsSimple select → columns ≡ t.columns → first_found (no_column columns) (filter_map item_column select.items) ≡ None
    → test_refusal columns (test_in select.cond) ≡ found → first_refusal (select_checks select t) ≡ found
test_refused select t columns found s are granted refused =
    checks_are select t s
    ∙ ap (λ (o : Option Refusal). option_or o (test_refusal t.columns (test_in select.cond))) (ap (λ (cs : List Column). first_found (no_column cs) (filter_map item_column select.items)) (sym are) ∙ granted)
    ∙ ap (λ (cs : List Column). test_refusal cs (test_in select.cond)) (sym are) ∙ refused

-- WHAT IS ANSWERED

pub listed_answer : (select : Select) (t : Table) → IsSimple select → counts_rows select.items ≡ false → first_found (no_column t.columns) (filter_map item_column select.items) ≡ None
    → answers.Rows (map outs_of (map (values_at (places_of t.columns select.items)) (kept_rows t.columns select.cond (content t)))) ≡ answer_at (Some t) select
listed_answer select t s listed granted =
    subst (λ (q : Select). answers.Rows (map outs_of (map (values_at (places_of t.columns q.items)) (kept_rows t.columns q.cond (content t)))) ≡ answer_at (Some t) q) (is_simple select s) (ap answers.Rows (by_list select.items s.list listed granted))
  where
    rows : List (List Value)
    rows = kept_rows t.columns select.cond (content t)

    by_list : (members : List Item) → IsSimpleList members → counts_rows members ≡ false → first_found (no_column t.columns) (filter_map item_column members) ≡ None
        → map outs_of (map (values_at (places_of t.columns members)) rows) ≡ rows_at t (record (simple_of select) { items = members })
    by_list [] simple listed granted =
        rw (order_none t.columns (map alone rows))
        (all_rows t.columns (members_of t.columns []) rows (all_have_places t.columns [] t.columns refl))
    by_list (items.Plain name ∷ members) simple listed granted =
        rw (none_counts members simple, order_none t.columns (map alone rows))
        (all_rows t.columns (items.Plain name ∷ members) rows (have_places t.columns (items.Plain name ∷ members) (tt, simple) granted))
    by_list (items.CountAll ∷ []) simple listed granted = cc
    by_list (items.CountAll ∷ (item ∷ members)) simple listed granted = cc
    by_list (items.Count name ∷ members) simple listed granted = absurd simple
    by_list (items.Sum name ∷ members) simple listed granted = absurd simple
    by_list (items.Min name ∷ members) simple listed granted = absurd simple
    by_list (items.Max name ∷ members) simple listed granted = absurd simple

pub counted_answer : (select : Select) (t : Table) → IsSimple select → counts_rows select.items ≡ true → answers.Rows (counted_rows (kept_rows t.columns select.cond (content t))) ≡ answer_at (Some t) select
counted_answer select t s counts =
    subst (λ (q : Select). answers.Rows (counted_rows (kept_rows t.columns q.cond (content t))) ≡ answer_at (Some t) q) (is_simple select s) (ap answers.Rows (by_list select.items s.list counts))
  where
    by_list : (members : List Item) → IsSimpleList members → counts_rows members ≡ true → counted_rows (kept_rows t.columns select.cond (content t)) ≡ rows_at t (record (simple_of select) { items = members })
    by_list [] simple counts = cc
    by_list (items.Plain name ∷ members) simple counts = cc
    by_list (items.CountAll ∷ []) simple counts = refl
    by_list (items.CountAll ∷ (item ∷ members)) simple counts = cc
    by_list (items.Count name ∷ members) simple counts = absurd simple
    by_list (items.Sum name ∷ members) simple counts = absurd simple
    by_list (items.Min name ∷ members) simple counts = absurd simple
    by_list (items.Max name ∷ members) simple counts = absurd simple

-- what is answered, by whether the number of rows is asked for
pub answered : (select : Select) (t : Table) (columns : List Column) (places : List ℕ) (rows : List (List Out)) → IsSimple select → columns ≡ t.columns → first_found (no_column columns) (filter_map item_column select.items) ≡ None
    → places ≡ places_of columns select.items
    → (counts_rows select.items ≡ true → rows ≡ counted_rows (chosen (test_in select.cond) t))
    → (counts_rows select.items ≡ false → rows ≡ map outs_of (map (values_at places) (chosen (test_in select.cond) t)))
    → answers.Rows rows ≡ answer_at (Some t) select
answered select t columns places rows s are granted at counted listed = by_test (counts_rows select.items) refl
  where
    kept : chosen (test_in select.cond) t ≡ kept_rows t.columns select.cond (content t)
    kept = kept_is select.cond t s.condition

    by_test : (b : Bool) → counts_rows select.items ≡ b → answers.Rows rows ≡ answer_at (Some t) select
    by_test true is = ap answers.Rows (counted is ∙ ap counted_rows kept) ∙ counted_answer select t s is
    by_test false is =
        ap answers.Rows
        (listed is ∙ ap (λ (rs : List (List Value)). map outs_of (map (values_at places) rs)) kept
        ∙ ap (λ (ps : List ℕ). map outs_of (map (values_at ps) (kept_rows t.columns select.cond (content t)))) (at ∙ ap (λ (cs : List Column). places_of cs select.items) are))
        ∙ listed_answer select t s is (subst (λ (cs : List Column). first_found (no_column cs) (filter_map item_column select.items) ≡ None) are granted)

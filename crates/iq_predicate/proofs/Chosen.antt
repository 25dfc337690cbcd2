-- The rows of a column, or of two, as those of slots.
use Rattle.std.proofs.Common.{◌≡◌, ◌<◌, ◌≤◌, ℕ, zero, suc, Bool, List, [], ◌∷◌, Option, Some, None, length, map, refl, sym, ◌∙◌, ap, ap₂, subst, arith, inl, inr}
use Rattle.std.specs.Prelude.{◌&&◌, is_none, unwrap_or, nat_lt}
use Rattle.std.specs.List.{slice_get, position_or_len}
use Rattle.std.proofs.Common.{true, false}
use Rattle.std.proofs.lemmas.Bool.Decides.{nat_tests}
use Rattle.std.proofs.lemmas.List.{length-map}
use Rattle.std.specs.Option.{option_or}
use Rattle.std.specs.Simd.Lanes.{zip2}
use Rattle.iq_base.specs.Shorts.{Name}
use Rattle.iq_base.specs.declared.values.Value.{Value}
use Rattle.iq_base.specs.declared.values.Value.TheVariants.{Null}
use Rattle.iq_base.specs.declared.schemas.Column.{Column}
use Rattle.iq_base.specs.declared.refusals.Refusal.{Refusal}
use Rattle.iq_base.specs.declared.refusals.Refusal.TheVariants as refusals
use Rattle.iq_base.specs.declared.descriptors.ColumnPart.{ColumnPart}
use Rattle.iq_ast.specs.declared.conditions.Op.{Op}
use Rattle.iq_ast.specs.declared.conditions.Test.{Test}
use Rattle.iq_ast.specs.declared.conditions.Test.TheVariants as tests
use Rattle.iq_cells.specs.Packed.{value_at}
use Rattle.iq_truth.specs.declared.truth.Side.{Side}
use Rattle.iq_truth.specs.declared.truth.Truth.{Truth}
use Rattle.iq_truth.specs.Sides.{is_on}
use Rattle.iq_truth.specs.Comparisons.{comparison, between, one_of, is_null}
use Rattle.iq_truth.specs.Truths.{truth_of}
use Rattle.iq_truth.specs.Tests.{test_truth, truth_on, negated_where}
use Rattle.iq_pages.specs.declared.page_faults.PageFault.{PageFault}
use Rattle.iq_pages.specs.declared.page_faults.PageFault.TheVariants.{Failed, BadPage, NoMemory}
use Rattle.iq_pages.specs.Pages.{Pages, Seen}
use Rattle.iq_cells.specs.Tables.{column_of}
use Rattle.iq_fp.specs.declared.fp.Fp.{Fp}
use Rattle.iq_fp.specs.Calls.{HasReadCause}
use Rattle.iq_fp.specs.Scans.{is_hit, is_pair, AreRowsOn, ArePairsOn, HasPairCause}
use Rattle.iq_fp.specs.Stands.{Stands}
use Rattle.iq_table.specs.declared.table.Table.{Table as StoredTable}
use Rattle.iq_table.specs.Limits.{as_columns}
use Rattle.iq_table.specs.Places.{as_column, fp_at}
use Rattle.iq_database.specs.Standing.{StandsAt, slot_rows}
use Rattle.iq_conditions.specs.Servers.{column_place, same_name}
use Rattle.iq_statements.specs.Checks.{found_if, first_found}
use Rattle.iq_statements.specs.Named.{no_column}
use Rattle.iq_statements.specs.Rows.{value_named, value_or_null}
use Rattle.iq_statements.specs.Tables.{Slot, Table}
use Rattle.iq_predicate.specs.Found.{on_test, is_found, place_named, fp_named, AreNamed}
use Rattle.iq_predicate.specs.Calls.{HasTableCause}

-- NAMES

-- the one column that a test names, if it is a test of one
abbrev pub one_name : Test → Option Name
one_name (tests.Compare column op value) = Some column
one_name (tests.Columns left op right) = None
one_name (tests.Between column negated low high) = Some column
one_name (tests.OneOf column negated values) = Some column
one_name (tests.Null column negated) = Some column

-- a name that nothing refuses has a place
pub has_place : (columns : List Column) (name : Name) (more : List Name) → first_found (no_column columns) (name ∷ more) ≡ None → (p : ℕ) × (column_place columns name ≡ Some p)
has_place columns name more none = by_place (column_place columns name) refl
  where
    by_place : (o : Option ℕ) → column_place columns name ≡ o → (p : ℕ) × (column_place columns name ≡ Some p)
    by_place None is = let bad = rw is at none in cc
    by_place (Some p) is = (p, is)

pub one_named : (columns : List Column) (test : Test) (name : Name) → one_name test ≡ Some name → AreNamed columns test → (p : ℕ) × (column_place columns name ≡ Some p)
one_named columns (tests.Compare column op value) name is named = subst (λ (n : Name). (p : ℕ) × (column_place columns n ≡ Some p)) (ap (λ (o : Option Name). unwrap_or o column) is) (has_place columns column [] named)
one_named columns (tests.Columns left op right) name is named = cc
one_named columns (tests.Between column negated low high) name is named = subst (λ (n : Name). (p : ℕ) × (column_place columns n ≡ Some p)) (ap (λ (o : Option Name). unwrap_or o column) is) (has_place columns column [] named)
one_named columns (tests.OneOf column negated values) name is named = subst (λ (n : Name). (p : ℕ) × (column_place columns n ≡ Some p)) (ap (λ (o : Option Name). unwrap_or o column) is) (has_place columns column [] named)
one_named columns (tests.Null column negated) name is named = subst (λ (n : Name). (p : ℕ) × (column_place columns n ≡ Some p)) (ap (λ (o : Option Name). unwrap_or o column) is) (has_place columns column [] named)

-- both names of a comparison of two columns
pub two_named : (columns : List Column) (left : Name) (op : Op) (right : Name) → AreNamed columns (tests.Columns left op right)
    → ((p : ℕ) × (column_place columns left ≡ Some p)) × ((q : ℕ) × (column_place columns right ≡ Some q))
two_named columns left op right named =
    let first = has_place columns left (right ∷ []) named in
    (first, has_place columns right [] (rw first.1 at named))

-- a place is one of the columns
pub place_within : (columns : List Column) (name : Name) (p : ℕ) → column_place columns name ≡ Some p → p < length columns
place_within columns name p at = by_test (nat_lt k (length columns)) refl
  where
    k : ℕ
    k = position_or_len (λ (column : Column). same_name column.name name) columns

    by_test : (b : Bool) → nat_lt k (length columns) ≡ b → p < length columns
    by_test true is = let e : k ≡ p = ap (λ (o : Option ℕ). unwrap_or o p) (rw is at at) in subst (λ (n : ℕ). n < length columns) e (grind (arith, nat_tests))
    by_test false is = let e = rw is at at in cc

-- VALUES

value_is : (p : ℕ) (row : List Value) → value_at p row ≡ value_or_null (slice_get row p)
value_is p [] = refl
value_is zero (v ∷ row) = refl
value_is (suc p) (v ∷ row) = value_is p row

named_is : (columns : List Column) (row : List Value) (name : Name) (p : ℕ) → column_place columns name ≡ Some p → value_at p row ≡ value_named columns row name
named_is columns row name p at = rw at (value_is p row)

-- TRUTHS

by_name : (columns : List Column) (column name : Name) (p : ℕ) → Some column ≡ Some name → column_place columns name ≡ Some p → column_place columns column ≡ Some p
by_name columns column name p is at = ap (column_place columns) (ap (λ (o : Option Name). unwrap_or o column) is) ∙ at

same_truth : (columns : List Column) (row : List Value) (name : Name) (p : ℕ) (test : Test) → one_name test ≡ Some name → column_place columns name ≡ Some p
    → truth_on (value_at p row) test ≡ test_truth (value_named columns row) test
same_truth columns row name p (tests.Compare column op value) is at = ap (λ (v : Value). comparison op v value) (named_is columns row column p (by_name columns column name p is at))
same_truth columns row name p (tests.Columns left op right) is at = cc
same_truth columns row name p (tests.Between column negated low high) is at = ap (λ (v : Value). negated_where negated (between v low high)) (named_is columns row column p (by_name columns column name p is at))
same_truth columns row name p (tests.OneOf column negated values) is at = ap (λ (v : Value). negated_where negated (one_of v values)) (named_is columns row column p (by_name columns column name p is at))
same_truth columns row name p (tests.Null column negated) is at = ap (λ (v : Value). negated_where negated (truth_of (is_null v))) (named_is columns row column p (by_name columns column name p is at))

-- the rows of one column
pub one_column : (columns : List Column) (side : Side) (test : Test) (name : Name) (p : ℕ) (slots : List Slot) → one_name test ≡ Some name → column_place columns name ≡ Some p
    → map (is_hit side test) (map (value_at p) (map (λ (s : Slot). s.row) slots)) ≡ map (on_test columns side test) slots
one_column columns side test name p [] is at = refl
one_column columns side test name p (s ∷ slots) is at =
    ap₂ (λ (b : Bool) (bs : List Bool). b ∷ bs) (ap (is_on side) (same_truth columns s.row name p test is at)) (one_column columns side test name p slots is at)

-- the rows of two
pub two_columns : (columns : List Column) (side : Side) (left : Name) (op : Op) (right : Name) (p q : ℕ) (slots : List Slot) → column_place columns left ≡ Some p → column_place columns right ≡ Some q
    → zip2 (is_pair side op) (map (value_at p) (map (λ (s : Slot). s.row) slots)) (map (value_at q) (map (λ (s : Slot). s.row) slots)) ≡ map (on_test columns side (tests.Columns left op right)) slots
two_columns columns side left op right p q [] at there = refl
two_columns columns side left op right p q (s ∷ slots) at there =
    ap₂ (λ (b : Bool) (bs : List Bool). b ∷ bs)
    (ap₂ (λ (v w : Value). is_on side (comparison op v w)) (named_is columns s.row left p at) (named_is columns s.row right q there))
    (two_columns columns side left op right p q slots at there)

-- those that are there
pub found_there : (columns : List Column) (side : Side) (test : Test) (slots : List Slot)
    → zip2 (λ a b. a && b) (map (on_test columns side test) slots) (map (λ (s : Slot). s.alive) slots) ≡ map (is_found columns side test) slots
found_there columns side test [] = refl
found_there columns side test (s ∷ slots) = ap (λ (bs : List Bool). is_found columns side test s ∷ bs) (found_there columns side test slots)

-- WHAT A SCAN GIVES

named_place : (columns : List Column) (name : Name) (p : ℕ) → column_place columns name ≡ Some p → place_named columns name ≡ p
named_place columns name p at = ap (λ (o : Option ℕ). unwrap_or o 0) at

-- the values of a column that is named
column_stands : (table : StoredTable) (columns : List Column) (told : ℕ → Option Pages) (t : Table) (name : Name) (p : ℕ) → columns ≡ as_columns table.parts.columns → column_place columns name ≡ Some p
    → StandsAt told table.place table.parts t → Stands (fp_named table columns name) told (column_of p (slot_rows t))
column_stands table columns told t name p are at stands =
    let less : p < length table.parts.columns = omega (arith, place_within columns name p at, ap length are, length-map table.parts.columns as_column) in
    subst (λ (k : ℕ). Stands (fp_at table.place table.parts k) told (column_of p (slot_rows t))) (sym (named_place columns name p at)) (stands.holds.columns p less)

pub rows_of_one : (table : StoredTable) (columns : List Column) (told : ℕ → Option Pages) (side : Side) (test : Test) (name : Name) (bits : List Bool) (t : Table)
    → columns ≡ as_columns table.parts.columns → one_name test ≡ Some name → AreNamed columns test → AreRowsOn (fp_named table columns name) told side test bits → StandsAt told table.place table.parts t
    → bits ≡ map (on_test t.columns side test) t.slots
rows_of_one table columns told side test name bits t are is named rows stands =
    let place = one_named columns test name is named in
    let same : columns ≡ t.columns = are ∙ stands.describes.columns_are in
    rows (column_of place.0 (slot_rows t)) (column_stands table columns told t name place.0 are place.1 stands)
    ∙ one_column columns side test name place.0 t.slots is place.1
    ∙ ap (λ (cs : List Column). map (on_test cs side test) t.slots) same

pub rows_of_two : (table : StoredTable) (columns : List Column) (told : ℕ → Option Pages) (side : Side) (left : Name) (op : Op) (right : Name) (bits : List Bool) (t : Table)
    → columns ≡ as_columns table.parts.columns → AreNamed columns (tests.Columns left op right) → ArePairsOn (fp_named table columns left) (fp_named table columns right) told side op bits → StandsAt told table.place table.parts t
    → bits ≡ map (on_test t.columns side (tests.Columns left op right)) t.slots
rows_of_two table columns told side left op right bits t are named rows stands =
    let places = two_named columns left op right named in
    let same : columns ≡ t.columns = are ∙ stands.describes.columns_are in
    rows (column_of places.0.0 (slot_rows t)) (column_of places.1.0 (slot_rows t))
    (column_stands table columns told t left places.0.0 are places.0.1 stands) (column_stands table columns told t right places.1.0 are places.1.1 stands)
    ∙ two_columns columns side left op right places.0.0 places.1.0 t.slots places.0.1 places.1.1
    ∙ ap (λ (cs : List Column). map (on_test cs side (tests.Columns left op right)) t.slots) same

-- WHY A SCAN FAILS

pub column_cause : (table : StoredTable) (columns : List Column) (name : Name) (p : ℕ) (before after : Seen) (fault : PageFault) → columns ≡ as_columns table.parts.columns → column_place columns name ≡ Some p
    → HasReadCause (fp_named table columns name) before after fault → HasTableCause table.place table.parts before after fault
column_cause table columns name p before after (Failed x y) are at cause = cause
column_cause table columns name p before after (BadPage object page) are at cause =
    let less : p < length table.parts.columns = omega (arith, place_within columns name p at, ap length are, length-map table.parts.columns as_column) in
    inr (p, less, subst (λ (k : ℕ). HasReadCause (fp_at table.place table.parts k) before after (BadPage object page)) (named_place columns name p at) cause)
column_cause table columns name p before after NoMemory are at cause = tt

pub columns_cause : (table : StoredTable) (columns : List Column) (left : Name) (op : Op) (right : Name) (before after : Seen) (fault : PageFault) → columns ≡ as_columns table.parts.columns → AreNamed columns (tests.Columns left op right)
    → HasPairCause (fp_named table columns left) (fp_named table columns right) before after fault → HasTableCause table.place table.parts before after fault
columns_cause table columns left op right before after fault are named (inl cause) = let places = two_named columns left op right named in column_cause table columns left places.0.0 before after fault are places.0.1 cause
columns_cause table columns left op right before after fault are named (inr cause) = let places = two_named columns left op right named in column_cause table columns right places.1.0 before after fault are places.1.1 cause

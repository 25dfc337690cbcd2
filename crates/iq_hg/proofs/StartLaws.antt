-- The leaf from which on a range may have values.
use Rattle.std.proofs.Common.{◌≡◌, ◌<◌, ◌≤◌, ℕ, suc, ◌+◌, ◌-◌, ◌*◌, ◌%◌, min, Bool, true, false, List, [], ◌∷◌, ◌++◌, Option, IfSome, length, map, take, drop, get_or, sym, ap, ◌∙◌, refl, subst, inl, inr, arith}
use Rattle.std.specs.List.{All}
use Rattle.std.proofs.Math.Nat.{mul_comm, mul-le-mul_right, div-add-mod, zero-mul}
use Rattle.std.proofs.Math.Seq.{drop-cons}
use Rattle.std.proofs.lemmas.Bool.{cases_lt}
use Rattle.std.proofs.lemmas.List.{length-take, length-drop, length-map, get_or-take, get_or-map, take-append-drop, drop_all}
use Rattle.std.proofs.lemmas.List.Concat.{flat_map-append}
use Rattle.std.proofs.lemmas.List.Elements.{All-nil, All-cons, All-head, All-get_or, All-weaker}
use Rattle.iq_base.specs.declared.values.Value.{Value}
use Rattle.iq_ast.specs.declared.conditions.Bound.{Bound}
use Rattle.iq_pages.specs.Pages.{Pages, Seen, KeepsObjects}
use Rattle.iq_pieces.proofs.Counting.{ends_behind}
use Rattle.iq_hg_leaves.specs.declared.entries.Entry.{Entry}
use Rattle.iq_hg_leaves.specs.Entries.{entry_at}
use Rattle.iq_hg_leaves.specs.Sorted.{Ascends}
use Rattle.iq_hg_leaves.specs.Order.{IsUpTo, AreInOrder}
use Rattle.iq_hg_leaves.specs.Leaves.{Leaf, entries_of, link_to}
use Rattle.iq_hg_leaves.proofs.SortedLaws.{ascends-right, ascends-across, All-right}
use Rattle.iq_hg.specs.declared.hg.Hg.{Hg}
use Rattle.iq_hg.specs.declared.places.Place.{Place}
use Rattle.iq_hg.specs.declared.wanted.Wanted.{Wanted}
use Rattle.iq_hg.specs.Bounds.{is_under, is_before}
use Rattle.iq_hg.specs.Places.{place_of, place_at, places_on, most_places}
use Rattle.iq_hg.specs.Stands.{Stands, StandsForNone, GivesPlaces, GivesRows, HasHgCause}
use Rattle.iq_hg.specs.Walks.{Starts}
use Rattle.iq_hg.specs.Search.{leaf_under, BeginsUnder, StartsRange, StartsUnder}
use Rattle.iq_hg.proofs.WantedLaws.{values_upto, under_back, under_on}
use Rattle.iq_hg.proofs.WalkLaws.{stands_kept}
use Rattle.iq_hg.proofs.SearchLaws.{place_on, begins, page_some, on_way, none_on_way}
use Rattle.iq_pages.specs.declared.page_faults.PageFault.{PageFault}
use Rattle.iq_pages.specs.declared.page_faults.PageFault.TheVariants.{Failed, BadPage, NoMemory}
use Rattle.iq_pages.proofs.PageLaws.{rose_since}
use Rattle.iq_base.specs.declared.values.Kind.{Kind}
use Rattle.iq_base.specs.Cells.{width}
use mathlib.Core.Bool.{true≢false}
use Rattle.std.specs.Prelude.{Result, IfErr}
use Rattle.std.specs.declared.result.Result.TheVariants.{Ok, Err}

no_leaf : Leaf
no_leaf = record { page = 0; entries = [] }

abbrev leaf_at : ℕ → List Leaf → Leaf
leaf_at i leaves = get_or leaves i (record { page = 0; entries = [] })

abbrev HasSome : Leaf → Type 0
HasSome leaf = 0 < length leaf.entries

-- a leaf and those behind it begin with its first entry
head_cut : (leaves : List Leaf) (i : ℕ) → All HasSome leaves → i < length leaves → (tail : List Entry) × (entries_of (drop i leaves) ≡ entry_at 0 (leaf_at i leaves).entries ∷ tail)
head_cut leaves i some h =
    let cut : drop i leaves ≡ leaf_at i leaves ∷ drop (suc i) leaves = drop-cons leaves i _ h in
    let r = by (leaf_at i leaves).entries (All-get_or HasSome leaves i _ h some) (entries_of (drop (suc i) leaves)) in
    (r.0, ap entries_of cut ∙ r.1)
  where
    by : (es : List Entry) → 0 < length es → (rest : List Entry) → (tail : List Entry) × (es ++ rest ≡ entry_at 0 es ∷ tail)
    by [] s rest = absurd (omega arith)
    by (e ∷ es) s rest = (es ++ rest, refl)

-- the name of a leaf in the directory
named : (low : Bound) (leaves : List Leaf) (i : ℕ) → i < length leaves → leaf_under low leaves i ≡ is_under low (entry_at 0 (leaf_at i leaves).entries).value
named low leaves i h = ap (λ (q : Place). is_under low q.first.value) (get_or-map place_of leaves i _ _ h)

abbrev Under : Bound → Entry → Type 0
Under low e = is_under low e.value ≡ true

abbrev NotUnder : Bound → Entry → Type 0
NotUnder low e = is_under low e.value ≡ false

split_at : (leaves : List Leaf) (i : ℕ) → entries_of leaves ≡ entries_of (take i leaves) ++ entries_of (drop i leaves)
split_at leaves i = ap entries_of (sym (take-append-drop i leaves)) ∙ flat_map-append (λ (leaf : Leaf). leaf.entries) (take i leaves) (drop i leaves)

-- behind a leaf that doesn't begin under the bound, nothing is under it
after_all : (low : Bound) (leaves : List Leaf) (i : ℕ) → AreInOrder (entries_of leaves) → All HasSome leaves → (i < length leaves → leaf_under low leaves i ≡ false) → All (NotUnder low) (entries_of (drop i leaves))
unfolding Ascends
after_all low leaves i sorted some not = elim (cases_lt i (length leaves)) [
  | inl less ↦ (let e = entry_at 0 (leaf_at i leaves).entries in
      let cut = head_cut leaves i some less in
      let here : NotUnder low e = sym (named low leaves i less) ∙ not less in
      let rest : AreInOrder (e ∷ cut.0) = subst AreInOrder cut.1 (ascends-right IsUpTo (entries_of (take i leaves)) (entries_of (drop i leaves)) (subst AreInOrder (split_at leaves i) sorted)) in
      subst (All (NotUnder low)) (sym cut.1) (All-cons (NotUnder low) e cut.0 here (All-weaker (IsUpTo e) (NotUnder low) (λ x u. under_on low e.value x.value (values_upto e x u) here) cut.0 rest.0)))
  | inr past ↦ subst (λ (zs : List Leaf). All (NotUnder low) (entries_of zs)) (sym (drop_all i leaves past)) (All-nil (NotUnder low))
]

-- before a leaf that begins under the bound, all is under it
before_all : (low : Bound) (leaves : List Leaf) (i : ℕ) → AreInOrder (entries_of leaves) → All HasSome leaves → i < length leaves → leaf_under low leaves i ≡ true → All (Under low) (entries_of (take i leaves))
before_all low leaves i sorted some less under =
    let e = entry_at 0 (leaf_at i leaves).entries in
    let cut = head_cut leaves i some less in
    let here : Under low e = sym (named low leaves i less) ∙ under in
    let over : All (λ x. All (IsUpTo x) (entries_of (drop i leaves))) (entries_of (take i leaves)) = ascends-across IsUpTo (entries_of (take i leaves)) (entries_of (drop i leaves)) (subst AreInOrder (split_at leaves i) sorted) in
    All-weaker (λ x. All (IsUpTo x) (entries_of (drop i leaves))) (Under low) (λ x a. under_back low x.value e.value (values_upto x e (All-head (IsUpTo x) e cut.0 (subst (All (IsUpTo x)) cut.1 a))) here) (entries_of (take i leaves)) over

-- the last leaf that begins under the bound
start_at : (hg : Hg) (told : ℕ → Option Pages) (low : Bound) (values : List Value) (st : Stands hg told values) (i page : ℕ) → i < length st.leaves → leaf_under low st.leaves i ≡ true → (i + 1 < length st.leaves → leaf_under low st.leaves (i + 1) ≡ false) → page ≡ (place_at i (map place_of st.leaves)).page → StartsRange low st.leaves page
start_at hg told low values st i page h under next is =
    let one : suc i ≡ i + 1 = omega arith in
    let cut : drop i st.leaves ≡ leaf_at i st.leaves ∷ drop (i + 1) st.leaves = drop-cons st.leaves i _ h ∙ ap (λ n. leaf_at i st.leaves ∷ drop n st.leaves) one in
    record {
      at = record {
        xs = take i st.leaves;
        leaf = leaf_at i st.leaves;
        ys = drop (i + 1) st.leaves;
        split = sym (take-append-drop i st.leaves) ∙ ap (λ (zs : List Leaf). take i st.leaves ++ zs) cut;
        page_is = sym (is ∙ ap (λ (q : Place). q.page) (get_or-map place_of st.leaves i _ _ h));
      };
      before = before_all low st.leaves i st.in_order st.held.filled.some h under;
      behind = after_all low st.leaves (i + 1) st.in_order st.held.filled.some next;
    }

-- no leaf begins under the bound
pub start_first : (hg : Hg) (told : ℕ → Option Pages) (low : Bound) (count : ℕ) → 0 < most_places hg.kind → IfSome (told hg.directory) (λ pages. length pages ≡ count) → (0 < count → BeginsUnder hg told low 0 false) → StartsUnder hg told low 0
start_first hg told low count room long edge = λ values st some.
    (let many : length st.directory ≡ count = subst (λ (o : Option Pages). IfSome o (λ pages. length pages ≡ count)) st.directory_told long in
    let per = most_places hg.kind in
    let all : length (map place_of st.leaves) ≡ length st.leaves = length-map st.leaves place_of in
    let enough : length (map place_of st.leaves) ≤ per * length st.directory = ends_behind per (length (map place_of st.leaves)) (length st.directory) room st.named.count in
    let positive : 0 < count = elim (cases_lt 0 count) [ inl positive ↦ positive | inr none ↦ (let z : per * length st.directory ≡ per * 0 = ap (λ n. per * n) (omega arith) in absurd (omega arith)) ] in
    let none : All (NotUnder low) (entries_of st.leaves) = after_all low st.leaves 0 st.in_order st.held.filled.some (λ _. ap (λ n. leaf_under low st.leaves n) (sym (zero-mul per)) ∙ edge positive values st) in
    by st.leaves st.held.first some none)
  where
    by : (leaves : List Leaf) → link_to leaves 1 ≡ 1 → 0 < length leaves → All (NotUnder low) (entries_of leaves) → StartsRange low leaves 0
    by [] first some none = absurd (omega arith)
    by (leaf ∷ leaves) first some none = record {
      at = record { xs = []; leaf = leaf; ys = leaves; split = refl; page_is = omega arith };
      before = All-nil (Under low);
      behind = All-right IsUpTo (NotUnder low) leaf.entries (entries_of leaves) none;
    }

-- the last place of a page that begins under the bound
pub start_in : (hg : Hg) (told : ℕ → Option Pages) (low : Bound) (count p n page : ℕ) (places : List Place) → 0 < most_places hg.kind → IfSome (told hg.directory) (λ pages. length pages ≡ count) → 0 < p → (p < count → BeginsUnder hg told low p false) → GivesPlaces hg told (p - 1) places → 0 < n → n ≤ length places → All (λ (q : Place). is_under low q.first.value ≡ true) (take n places) → (n < length places → is_under low (place_at n places).first.value ≡ false) → page ≡ (place_at (n - 1) places).page → StartsUnder hg told low page
start_in hg told low count p n page places room long some edge gives positive most under next is = λ values st leaf_some.
    (let per = most_places hg.kind in
    let all = map place_of st.leaves in
    let many : length st.directory ≡ count = subst (λ (o : Option Pages). IfSome o (λ pages. length pages ≡ count)) st.directory_told long in
    let enough : length all ≤ per * length st.directory = ends_behind per (length all) (length st.directory) room st.named.count in
    let size : length all ≡ length st.leaves = length-map st.leaves place_of in
    let same : places ≡ places_on hg.kind (p - 1) all = gives values st in
    let long_page : length places ≡ min per (length (drop ((p - 1) * per) all)) = ap length same ∙ length-take per (drop ((p - 1) * per) all) in
    let left : length (drop ((p - 1) * per) all) ≡ length all - (p - 1) * per = length-drop ((p - 1) * per) all in
    let base = (p - 1) * per in
    let i = base + (n - 1) in
    let there : (m : ℕ) → m < length places → place_at m places ≡ place_at (base + m) all = λ m h. ap (place_at m) same ∙ place_on per (p - 1) m all (subst (λ (ps : List Place). m < length ps) same h) in
    let here : place_at (n - 1) places ≡ place_at i all = there (n - 1) (omega arith) in
    let within : i < length st.leaves = omega (arith, long_page, left, size) in
    let last : place_at (n - 1) (take n places) ≡ place_at (n - 1) places = get_or-take n places (n - 1) _ (omega arith) in
    let under_here : is_under low (place_at (n - 1) (take n places)).first.value ≡ true = All-get_or (λ (q : Place). is_under low q.first.value ≡ true) (take n places) (n - 1) _ (omega (arith, length-take n places)) under in
    let up : (p - 1) * per + per ≡ p * per = (let e : (p - 1) + 1 ≡ p = omega arith in let f : ((p - 1) + 1) * per ≡ p * per = ap (λ m. m * per) e in omega arith) in
    start_at hg told low values st i page within
    (ap (λ (q : Place). is_under low q.first.value) (sym (last ∙ here)) ∙ under_here)
    (λ far. elim (cases_lt n (length places)) [
      | inl more ↦ (let e : i + 1 ≡ base + n = omega arith in
          ap (λ m. leaf_under low st.leaves m) e ∙ ap (λ (q : Place). is_under low q.first.value) (sym (there n more)) ∙ next more)
      | inr full ↦ (let e : i + 1 ≡ p * per = omega (arith, long_page, left, size) in
          let turned : p * per ≡ per * p = mul_comm p per in
          let inside : p < count = elim (cases_lt p count) [
            | inl near ↦ near
            | inr beyond ↦ (let z : count * per ≤ p * per = mul-le-mul_right per beyond in let t : count * per ≡ per * count = mul_comm count per in let m : per * length st.directory ≡ per * count = ap (λ m. per * m) many in absurd (omega (arith, far)))
          ] in
          ap (λ m. leaf_under low st.leaves m) e ∙ edge inside values st)
    ])
    (is ∙ ap (λ (q : Place). q.page) here))

-- a range begins at the leaf that was found, as long as the pages are as they were
pub starts_there : (hg : Hg) (a b : Seen) (wanted : Wanted) (low : Bound) (page count : ℕ) → KeepsObjects a b → IfSome (a.told hg.leaves) (λ pages. length pages ≡ count) → 0 < count → ((v : Value) → is_before wanted v ≡ is_under low v) → StartsUnder hg a.told low page → Starts hg b.told wanted page
unfolding stands_kept
starts_there hg a b wanted low page count kept long some same start = λ values st.
    let back : KeepsObjects b a = record { told = λ o. sym (kept.told o); counts = λ o. sym (kept.counts o) } in
    let st' = stands_kept hg b a values back st in
    let pages : length st'.pages ≡ count = subst (λ (o : Option Pages). IfSome o (λ pages. length pages ≡ count)) st'.leaves_told long in
    let s = start values st' (omega (arith, st'.held.every, pages)) in
    record {
      at = s.at;
      before = λ k d h. same _ ∙ s.before k d h;
      behind = λ k d h. same _ ∙ s.behind k d h;
    }

-- rows that were found while the pages were as before
pub rows_on_way : (hg : Hg) (a b : Seen) (test : Value → Bool) (bits : List Bool) → KeepsObjects a b → GivesRows hg b.told test bits → GivesRows hg a.told test bits
rows_on_way hg a b test bits kept gives = λ values st. gives values (stands_kept hg a b values kept st)

-- where a page begins under the bound, some place of it does
pub no_start : (hg : Hg) (told : ℕ → Option Pages) (low : Bound) (count p n : ℕ) (places : List Place) → 0 < most_places hg.kind → IfSome (told hg.directory) (λ pages. length pages ≡ count) → 0 < p → p ≤ count → BeginsUnder hg told low (p - 1) true → GivesPlaces hg told (p - 1) places → n ≡ 0 → (n < length places → is_under low (place_at n places).first.value ≡ false) → StandsForNone hg told
no_start hg told low count p n places room long some within edge gives none next = λ values st. elim (cases_lt 0 (length places)) [
  | inl filled ↦ (let first : leaf_under low st.leaves ((p - 1) * most_places hg.kind) ≡ is_under low (place_at 0 places).first.value = begins hg told low (p - 1) places (is_under low (place_at 0 places).first.value) gives filled refl values st in
      let not : is_under low (place_at 0 places).first.value ≡ false = subst (λ m. is_under low (place_at m places).first.value ≡ false) none (next (omega arith)) in
      true≢false (sym (edge values st) ∙ first ∙ not))
  | inr empty ↦ page_some hg told (p - 1) count places room long (omega arith) gives (omega arith) values st
]

-- there is room for places
pub places_room : (kind : Kind) (w : ℕ) → w ≡ width kind → w ≤ 257 → 0 < most_places kind
places_room kind w wide small =
    let q = most_places kind in
    let r = 1004 % (width kind + 8) in
    let whole : (width kind + 8) * q + r ≡ 1004 = div-add-mod 1004 (width kind + 8) in
    elim (cases_lt 0 q) [
      | inl positive ↦ positive
      | inr none ↦ (let z : (width kind + 8) * q ≡ (width kind + 8) * 0 = ap (λ m. (width kind + 8) * m) (omega arith) in absurd (omega arith))
    ]

pub if_err_on : {T E : Type 0} (r : Result T E) (P Q : E → Type 0) → ((e : E) → P e → Q e) → IfErr r P → IfErr r Q
if_err_on (Ok x) P Q f p = tt
if_err_on (Err e) P Q f p = f e p

-- a cause that was found while the pages were as before
pub cause_on_way : (hg : Hg) (a b c : Seen) (fault : PageFault) → KeepsObjects a b → a.faults ≤ b.faults → HasHgCause hg b c fault → HasHgCause hg a c fault
cause_on_way hg a b c (Failed x y) kept later cause = rose_since _ _ _ _ _ later cause
cause_on_way hg a b c (BadPage named p) kept later cause = (cause.0, none_on_way hg a b kept cause.1)
cause_on_way hg a b c NoMemory kept later cause = tt

-- the same by other names, and while the pages were as before
pub begins_as : (hg : Hg) (a b : Seen) (low : Bound) (p q : ℕ) (u v : Bool) → KeepsObjects a b → p ≡ q → u ≡ v → BeginsUnder hg b.told low p u → BeginsUnder hg a.told low q v
begins_as hg a b low p q u v kept same is g = subst (λ n. BeginsUnder hg a.told low n v) same (subst (λ t. BeginsUnder hg a.told low p t) is (on_way hg a b low p u kept g))

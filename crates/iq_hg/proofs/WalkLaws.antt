-- Walking from leaf to leaf.
use Rattle.std.proofs.Common.{◌≡◌, ◌≢◌, ◌<◌, ◌≤◌, ℕ, suc, ◌+◌, ◌-◌, ◌*◌, ◌/◌, ◌%◌, Bool, true, false, ◌||◌, if◌then◌else◌, List, [], ◌∷◌, ◌++◌, Option, IfSome, length, map, take, drop, replicate, sym, ap, ap₂, ◌∙◌, refl, subst, inl, inr, arith}
use Rattle.std.specs.List.{All, sum_by}
use Rattle.std.proofs.Math.Seq.{drop-cons}
use Rattle.std.proofs.lemmas.Bool.{cases_lt}
use Rattle.std.proofs.lemmas.List.{length-append, append_assoc, append-nil, take-append-drop, take_all, drop_all}
use Rattle.std.proofs.lemmas.List.Concat.{flat_map-append}
use Rattle.std.proofs.lemmas.List.Elements.{All-nil, All-cons, All-head, All-tail, All-weaker}
use Rattle.std.proofs.lemmas.List.Sorted.{All-permutation, sum_by-IsPermutation}
use Rattle.iq_base.specs.declared.values.Value.{Value}
use Rattle.iq_pages.specs.declared.page_faults.PageFault.{PageFault}
use Rattle.iq_pages.specs.declared.page_faults.PageFault.TheVariants.{Failed, BadPage, NoMemory}
use Rattle.iq_pages.specs.Pages.{Pages, Seen, KeepsObjects}
use Rattle.iq_hg_leaves.specs.declared.entries.Entry.{Entry}
use Rattle.iq_hg_leaves.specs.Entries.{entry_at, entries_from}
use Rattle.iq_hg_leaves.specs.Sorted.{Ascends}
use Rattle.iq_hg_leaves.specs.Order.{IsUpTo, AreInOrder}
use Rattle.iq_hg_leaves.specs.Leaves.{Leaf, entries_of, link_to, half}
use Rattle.iq_hg_leaves.proofs.SortedLaws.{All-left, All-right, ascends-right}
use Rattle.iq_hg.specs.declared.hg.Hg.{Hg}
use Rattle.iq_hg.specs.declared.wanted.Wanted.{Wanted}
use Rattle.iq_hg.specs.Bounds.{is_wanted, is_past, is_before}
use Rattle.iq_hg.specs.Marks.{Marks}
use Rattle.iq_hg.specs.Stands.{Stands, IsAt, GivesLeaf, GivesRows, HasLeafCause, HasHgCause, marked}
use Rattle.iq_hg.specs.Walks.{StartsAt, Starts, Reached, is_chosen, one_within}
use Rattle.iq_base.specs.declared.values.Kind.{Kind}
use Rattle.iq_base.specs.Cells.{width}
use Rattle.iq_hg_leaves.specs.Bytes.{most_in_leaf}
use Rattle.std.proofs.Math.Nat.{div-add-mod, mul-le-mul_left}
use Rattle.std.proofs.lemmas.List.Sums.{sum_by-cons, sum_by-append}
use Rattle.iq_pages.proofs.PageLaws.{rose_since}
use Rattle.iq_hg.proofs.MarkLaws.{marked-append}
use Rattle.iq_hg.proofs.WantedLaws.{values_upto, past_on, before_unwanted, past_unwanted}
use Rattle.iq_hg.proofs.AllMarked.{marked_all, marked_none, rows_within}

-- what an index stands for, it stands for while its pages are as they were
unfoldable pub stands_kept : (hg : Hg) (a b : Seen) (values : List Value) → KeepsObjects a b → Stands hg a.told values → Stands hg b.told values
stands_kept hg a b values kept st = record {
  slots = st.slots;
  leaves = st.leaves;
  pages = st.pages;
  leaves_told = kept.told hg.leaves ∙ st.leaves_told;
  held = st.held;
  all = st.all;
  in_order = st.in_order;
  directory = st.directory;
  directory_told = kept.told hg.directory ∙ st.directory_told;
  named = st.named;
}

pub leaf_on_way : (hg : Hg) (a b : Seen) (page next : ℕ) (entries : List Entry) → KeepsObjects a b → GivesLeaf hg b.told page next entries → GivesLeaf hg a.told page next entries
unfolding stands_kept
leaf_on_way hg a b page next entries kept gives = λ values st at. gives values (stands_kept hg a b values kept st) at

-- a leaf that is come to isn't read only for a cause of the index
pub way_cause : (hg : Hg) (a b c : Seen) (page : ℕ) (fault : PageFault) → KeepsObjects a b → a.faults ≤ b.faults → ((values : List Value) (st : Stands hg a.told values) → IsAt st.leaves page) → HasLeafCause hg page b c fault → HasHgCause hg a c fault
unfolding stands_kept
way_cause hg a b c page (Failed x y) kept later at cause = rose_since _ _ _ _ _ later cause
way_cause hg a b c page (BadPage named p) kept later at cause = (inl cause.0, λ values st. cause.1 values (stands_kept hg a b values kept st) (at values st))
way_cause hg a b c page NoMemory kept later at cause = tt

-- before the first leaf
pub reached_start : (wanted : Wanted) (leaves : List Leaf) (slots page : ℕ) (bits : List Bool) → bits ≡ replicate slots false → StartsAt wanted leaves page → Reached wanted leaves slots 0 page bits
reached_start wanted leaves slots page bits none s = record {
  at = s.at;
  enough = omega arith;
  marked_are = none ∙ sym (marked_none wanted (entries_of s.at.xs) (replicate slots false) (All-weaker (λ (e : Entry). is_before wanted e.value ≡ true) (λ (e : Entry). is_wanted wanted e.value ≡ false) (λ e b. before_unwanted wanted e.value b) (entries_of s.at.xs) s.before));
  counted = omega arith;
  own = λ h. absurd (omega arith);
  ahead = s.behind;
}

-- all entries, cut at an entry of the leaf on a page
cut_at : (leaves : List Leaf) (page n : ℕ) (at : IsAt leaves page) → entries_of leaves ≡ (entries_of at.xs ++ take n at.leaf.entries) ++ (drop n at.leaf.entries ++ entries_of at.ys)
cut_at leaves page n at =
    let xs = entries_of at.xs in
    let es = at.leaf.entries in
    let ys = entries_of at.ys in
    ap entries_of at.split ∙ flat_map-append (λ (leaf : Leaf). leaf.entries) at.xs (at.leaf ∷ at.ys)
    ∙ ap (λ (zs : List Entry). xs ++ (zs ++ ys)) (sym (take-append-drop n es))
    ∙ ap (λ (zs : List Entry). xs ++ zs) (append_assoc (take n es) (drop n es) ys)
    ∙ sym (append_assoc xs (take n es) (drop n es ++ ys))

-- what lies behind an entry that is past what is wanted isn't wanted
rest_unwanted : (wanted : Wanted) (es ys : List Entry) (n : ℕ) → AreInOrder (drop n es ++ ys) → n < length es → is_past wanted (entry_at n es).value ≡ true → All (λ (e : Entry). is_wanted wanted e.value ≡ false) (drop n es ++ ys)
unfolding Ascends
rest_unwanted wanted es ys n sorted h past =
    let e = entry_at n es in
    let P = λ (x : Entry). is_wanted wanted x.value ≡ false in
    let cut : drop n es ≡ e ∷ drop (suc n) es = drop-cons es n _ h in
    let tail : List Entry = drop (suc n) es ++ ys in
    let sorted' : AreInOrder (e ∷ tail) = subst (λ (xs : List Entry). AreInOrder (xs ++ ys)) cut sorted in
    let far : All P tail = All-weaker (IsUpTo e) P (λ x u. past_unwanted wanted x.value (past_on wanted e.value x.value (values_upto e x u) past)) tail sorted'.0 in
    subst (λ (xs : List Entry). All P (xs ++ ys)) (sym cut) (All-cons P e tail (past_unwanted wanted e.value past) far)

no_more : (ys : List Leaf) → link_to ys 0 ≡ 0 → entries_of ys ≡ []
no_more [] e = refl
no_more (y ∷ ys) e = absurd (omega arith)

-- the walk ends: an entry is past what is wanted, or there is no leaf more
pub walked_end : (hg : Hg) (told : ℕ → Option Pages) (wanted : Wanted) (k page n next : ℕ) (bits bits' : List Bool) (entries : List Entry) (values : List Value) (st : Stands hg told values) →
    Reached wanted st.leaves hg.slots k page bits → GivesLeaf hg told page next entries → Marks wanted entries n bits bits' → (length entries ≤ n → next ≡ 0) → bits' ≡ map (is_chosen wanted) values
walked_end hg told wanted k page n next bits bits' entries values st r gives m end =
    let g = gives values st r.at in
    let P = λ (x : Entry). is_wanted wanted x.value ≡ false in
    let es = r.at.leaf.entries in
    let xs = entries_of r.at.xs in
    let ys = entries_of r.at.ys in
    let blank = replicate hg.slots false in
    let whole = cut_at st.leaves page n r.at in
    let sorted : AreInOrder (drop n es ++ ys) = ascends-right IsUpTo (xs ++ take n es) (drop n es ++ ys) (subst AreInOrder whole st.in_order) in
    let long : length entries ≡ length es = ap length g.1 in
    let rest : All P (drop n es ++ ys) = elim (cases_lt n (length es)) [
      | inl less ↦ rest_unwanted wanted es ys n sorted less (subst (λ (zs : List Entry). is_past wanted (entry_at n zs).value ≡ true) g.1 (m.end (omega arith)))
      | inr past ↦ (let none : drop n es ++ ys ≡ [] = ap₂ (λ (us vs : List Entry). us ++ vs) (drop_all n es past) (no_more r.at.ys (sym g.0 ∙ end (omega arith))) in subst (All P) (sym none) (All-nil P))
    ] in
    let here : bits' ≡ marked wanted blank (xs ++ take n es) = m.marked_are ∙ ap₂ (λ (bs : List Bool) (zs : List Entry). marked wanted bs (take n zs)) r.marked_are g.1 ∙ sym (marked-append wanted blank xs (take n es)) in
    let all : marked wanted blank (entries_of st.leaves) ≡ bits' = ap (marked wanted blank) whole ∙ marked-append wanted blank (xs ++ take n es) (drop n es ++ ys) ∙ marked_none wanted (drop n es ++ ys) (marked wanted blank (xs ++ take n es)) rest ∙ sym here in
    sym all ∙ marked_all wanted values (entries_of st.leaves) hg.slots st.slots st.all

one_in : (wanted : Wanted) (e : Entry) → is_before wanted e.value ≡ false → is_past wanted e.value ≡ false → one_within wanted e ≡ 1
one_in wanted e b p = ap₂ (λ (x y : Bool). if x || y then 0 else 1) b p

-- all entries of a leaf on the way count
all_in : (wanted : Wanted) (es : List Entry) → All (λ (e : Entry). is_before wanted e.value ≡ false) es → All (λ (e : Entry). is_past wanted e.value ≡ false) es → sum_by (one_within wanted) es ≡ length es
all_in wanted [] b p = refl
all_in wanted (e ∷ es) b p =
    let B = λ (e : Entry). is_before wanted e.value ≡ false in
    let P = λ (e : Entry). is_past wanted e.value ≡ false in
    let rest = all_in wanted es (All-tail B e es b) (All-tail P e es p) in
    let one = one_in wanted e (All-head B e es b) (All-head P e es p) in
    let cons = sum_by-cons (one_within wanted) e es in
    omega arith

-- a leaf of an index of two leaves or more has two entries or more
two_or_more : (hg : Hg) (told : ℕ → Option Pages) (values : List Value) (st : Stands hg told values) (page : ℕ) (at : IsAt st.leaves page) → 3 ≤ most_in_leaf hg.kind → 0 < length at.ys → 2 ≤ length at.leaf.entries
two_or_more hg told values st page at room more =
    let P = λ (leaf : Leaf). half (most_in_leaf hg.kind) ≤ length leaf.entries in
    let many : 2 ≤ length st.leaves = omega (arith, ap length at.split, length-append at.xs (at.leaf ∷ at.ys)) in
    let all : All P (at.xs ++ (at.leaf ∷ at.ys)) = subst (All P) at.split (st.held.filled.least many) in
    let here : half (most_in_leaf hg.kind) ≤ length at.leaf.entries = All-head P at.leaf at.ys (All-right (λ (a b : Leaf). a.page ≡ b.page) P at.xs (at.leaf ∷ at.ys) all) in
    omega arith

-- so few leaves were come to
pub few_leaves : (hg : Hg) (told : ℕ → Option Pages) (wanted : Wanted) (k page : ℕ) (bits : List Bool) (values : List Value) (st : Stands hg told values) → Reached wanted st.leaves hg.slots k page bits → k + 1 ≤ 2 + sum_by (one_within wanted) (entries_from 0 values) / 2
few_leaves hg told wanted k page bits values st r =
    let f = one_within wanted in
    let xs = entries_of r.at.xs in
    let rest = r.at.leaf.entries ++ entries_of r.at.ys in
    let split : entries_of st.leaves ≡ xs ++ rest = ap entries_of r.at.split ∙ flat_map-append (λ (leaf : Leaf). leaf.entries) r.at.xs (r.at.leaf ∷ r.at.ys) in
    let sum : sum_by f (entries_of st.leaves) ≡ sum_by f xs + sum_by f rest = ap (sum_by f) split ∙ sum_by-append f xs rest in
    let same : sum_by f (entries_of st.leaves) ≡ sum_by f (entries_from 0 values) = sum_by-IsPermutation f (entries_from 0 values) (entries_of st.leaves) st.all in
    omega (arith, r.counted)

-- the walk goes on to the next leaf
pub walked_next : (hg : Hg) (told : ℕ → Option Pages) (wanted : Wanted) (k page n next : ℕ) (bits bits' : List Bool) (entries : List Entry) (values : List Value) (st : Stands hg told values) → 3 ≤ most_in_leaf hg.kind →
    Reached wanted st.leaves hg.slots k page bits → GivesLeaf hg told page next entries → Marks wanted entries n bits bits' → length entries ≤ n → next ≢ 0 → Reached wanted st.leaves hg.slots (k + 1) (next - 1) bits'
walked_next hg told wanted k page n next bits bits' entries values st room r gives m all more = by r.at.ys refl
  where
    by : (ys : List Leaf) → r.at.ys ≡ ys → Reached wanted st.leaves hg.slots (k + 1) (next - 1) bits'
    by [] e = absurd (more ((gives values st r.at).0 ∙ ap (λ (zs : List Leaf). link_to zs 0) e))
    by (y ∷ zs) e =
        let g = gives values st r.at in
        let es = r.at.leaf.entries in
        let xs = entries_of r.at.xs in
        let blank = replicate hg.slots false in
        let link : next ≡ y.page + 1 = g.0 ∙ ap (λ (zs : List Leaf). link_to zs 0) e in
        let whole : take n entries ≡ es = take_all n entries all ∙ g.1 in
        let joined : entries_of (r.at.xs ++ (r.at.leaf ∷ [])) ≡ xs ++ es = flat_map-append (λ (leaf : Leaf). leaf.entries) r.at.xs (r.at.leaf ∷ []) ∙ ap (λ (us : List Entry). xs ++ us) (append-nil es) in
        record {
          at = record {
            xs = r.at.xs ++ (r.at.leaf ∷ []);
            leaf = y;
            ys = zs;
            split = r.at.split ∙ ap (λ (us : List Leaf). r.at.xs ++ (r.at.leaf ∷ us)) e ∙ sym (append_assoc r.at.xs (r.at.leaf ∷ []) (y ∷ zs));
            page_is = omega arith;
          };
          enough = omega (arith, r.enough, length-append r.at.xs (r.at.leaf ∷ []));
          marked_are = m.marked_are ∙ ap₂ (λ (bs : List Bool) (us : List Entry). marked wanted bs us) r.marked_are whole ∙ sym (ap (marked wanted blank) joined ∙ marked-append wanted blank xs es);
          counted =
              (let f = one_within wanted in
              let live : All (λ (x : Entry). is_past wanted x.value ≡ false) es = subst (All (λ (x : Entry). is_past wanted x.value ≡ false)) whole m.live in
              let sum : sum_by f (entries_of (r.at.xs ++ (r.at.leaf ∷ []))) ≡ sum_by f xs + sum_by f es = ap (sum_by f) joined ∙ sum_by-append f xs es in
              elim (cases_lt 0 k) [
                | inl later ↦ (let two : 2 ≤ length es = two_or_more hg told values st page r.at room (omega (arith, ap length e)) in
                    let each : sum_by f es ≡ length es = all_in wanted es (r.own later) live in
                    omega (arith, r.counted))
                | inr first ↦ omega arith
              ]);
          own = λ h. All-left IsUpTo (λ (x : Entry). is_before wanted x.value ≡ false) y.entries (entries_of zs) (subst (λ (us : List Leaf). All (λ (x : Entry). is_before wanted x.value ≡ false) (entries_of us)) e r.ahead);
          ahead = All-right IsUpTo (λ (x : Entry). is_before wanted x.value ≡ false) y.entries (entries_of zs) (subst (λ (us : List Leaf). All (λ (x : Entry). is_before wanted x.value ≡ false) (entries_of us)) e r.ahead);
        }

-- the rows of a leaf are those of the index
pub rows_fit : (hg : Hg) (told : ℕ → Option Pages) (page next : ℕ) (entries : List Entry) (values : List Value) (st : Stands hg told values) → IsAt st.leaves page → GivesLeaf hg told page next entries → All (λ (e : Entry). e.row < hg.slots) entries
rows_fit hg told page next entries values st at gives =
    let P = λ (e : Entry). e.row < hg.slots in
    let g = gives values st at in
    let all : All P (entries_of st.leaves) = All-permutation P (entries_from 0 values) (entries_of st.leaves) st.all (rows_within values 0 hg.slots (omega (arith, st.slots))) in
    let split : entries_of st.leaves ≡ entries_of at.xs ++ (at.leaf.entries ++ entries_of at.ys) = ap entries_of at.split ∙ flat_map-append (λ (leaf : Leaf). leaf.entries) at.xs (at.leaf ∷ at.ys) in
    subst (All P) (sym g.1) (All-left IsUpTo P at.leaf.entries (entries_of at.ys) (All-right IsUpTo P (entries_of at.xs) (at.leaf.entries ++ entries_of at.ys) (subst (All P) split all)))

-- no walk comes to more leaves than there are pages
pub walked_out : (hg : Hg) (told : ℕ → Option Pages) (wanted : Wanted) (k page count : ℕ) (bits : List Bool) (values : List Value) (st : Stands hg told values) → IfSome (told hg.leaves) (λ pages. length pages ≡ count) → count ≤ k → Reached wanted st.leaves hg.slots k page bits → ⊥
walked_out hg told wanted k page count bits values st long past r =
    let pages : length st.pages ≡ count = subst (λ (o : Option Pages). IfSome o (λ pages. length pages ≡ count)) st.leaves_told long in
    omega (arith, r.enough, pages, st.held.every, ap length r.at.split, length-append r.at.xs (r.at.leaf ∷ r.at.ys))

-- an index without leaves
pub no_rows : (hg : Hg) (told : ℕ → Option Pages) (wanted : Wanted) (count : ℕ) (bits : List Bool) → IfSome (told hg.leaves) (λ pages. length pages ≡ count) → count ≡ 0 → bits ≡ replicate hg.slots false → GivesRows hg told (is_chosen wanted) bits
no_rows hg told wanted count bits long none is = λ values st.
    (let pages : length st.pages ≡ count = subst (λ (o : Option Pages). IfSome o (λ pages. length pages ≡ count)) st.leaves_told long in
    let empty : entries_of st.leaves ≡ [] = by st.leaves (omega (arith, st.held.every, pages, none)) in
    is ∙ sym (ap (marked wanted (replicate hg.slots false)) empty) ∙ marked_all wanted values (entries_of st.leaves) hg.slots st.slots st.all)
  where
    by : (leaves : List Leaf) → length leaves ≡ 0 → entries_of leaves ≡ []
    by [] e = refl
    by (leaf ∷ leaves) e = absurd (omega arith)

-- where nothing stands before what is wanted, a walk may start at page 0
pub starts_first : (hg : Hg) (told : ℕ → Option Pages) (wanted : Wanted) (count : ℕ) → IfSome (told hg.leaves) (λ pages. length pages ≡ count) → 0 < count → ((v : Value) → is_before wanted v ≡ false) → Starts hg told wanted 0
starts_first hg told wanted count long some never = λ values st.
    (let pages : length st.pages ≡ count = subst (λ (o : Option Pages). IfSome o (λ pages. length pages ≡ count)) st.leaves_told long in
    by st.leaves st.held.first (omega (arith, st.held.every, pages)))
  where
    by : (leaves : List Leaf) → link_to leaves 1 ≡ 1 → 0 < length leaves → StartsAt wanted leaves 0
    by [] first some = absurd (omega arith)
    by (leaf ∷ leaves) first some = record {
      at = record { xs = []; leaf = leaf; ys = leaves; split = refl; page_is = omega arith };
      before = All-nil (λ (e : Entry). is_before wanted e.value ≡ true);
      behind = λ k d h. never _;
    }

-- there is room for entries in a leaf
pub leaf_room : (kind : Kind) (w : ℕ) → w ≡ width kind → w ≤ 257 → 3 ≤ most_in_leaf kind
leaf_room kind w wide small =
    let q = most_in_leaf kind in
    let r = 1000 % (width kind + 4) in
    let whole : (width kind + 4) * q + r ≡ 1000 = div-add-mod 1000 (width kind + 4) in
    elim (cases_lt q 3) [
      | inl less ↦ (let most : (width kind + 4) * q ≤ (width kind + 4) * 2 = mul-le-mul_left (width kind + 4) (omega arith) in absurd (omega arith))
      | inr enough ↦ enough
    ]

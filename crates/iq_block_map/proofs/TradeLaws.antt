-- Laws of lists of blocks: what pages stand on, what an object reaches, and what one object has beside another.
use Rattle.std.specs.Prelude.{◌≡◌, ℕ, suc, ◌+◌, ◌-◌, ◌≤◌, ◌==◌, min, Bool, true, false, List, [], ◌∷◌, ◌++◌, length, map, nat_eq, slice_set, if◌then◌else◌, Ok, Some, None, cond}
use Rattle.std.specs.List.{All, list_all}
use Rattle.std.proofs.Common.{refl, sym, ap, subst, ◌∙◌, inl, inr, arith}
use Rattle.std.proofs.lemmas.List.Sums.{sum_by-cons, sum_by-append}
use Rattle.std.proofs.lemmas.Bool.{cases_lt, cases_eq, eq-eqb, ne_eqb}
use Rattle.iq_outside.specs.Devices.{block_of}
use Rattle.iq_block_store.specs.Frames.{page_kind, has_header, payload_of}
use Rattle.iq_base.specs.declared.refs.Ref.{Ref}
use Rattle.iq_block_map.specs.Maps.{is_address}
use Rattle.iq_block_map.specs.Objects.{leaf_count, map_at, leaves_of, listed, listed_in, joined, top_of, addresses_of, contents}
use Rattle.iq_block_map.specs.Editing.{replaced_from, edited, new_blocks, fresh}
use Rattle.iq_block_map.specs.Laws.{times, ReachesParts, rewritten}
use Rattle.iq_block_map.proofs.StepLemmas.{both_parts, ok_is}
use Rattle.iq_block_map.proofs.NextLemmas.{behind_of}
use Rattle.iq_block_map.proofs.NamedLemmas.{listed_names, map_names}
use Rattle.iq_block_map.proofs.TopLemmas.{leaves_one, leaves_many, leaves_none, listed_from}
use Rattle.iq_block_map.proofs.ReachLemmas.{ArePages, pages_from, all_right, pages_set, cut_some}
use Rattle.iq_block_map.proofs.FrameLaws.{same_right, same_contents, all_cons}
use Rattle.iq_block_map.proofs.ReachedLemmas.{all_none, object_whole, leaves_exist}

-- what a list of blocks holds stays where the blocks stay
pub contents_same : (all now : List (List ℕ)) (xs : List ℕ) → All (λ b. block_of now b ≡ block_of all b) xs → contents now (Ok xs) ≡ contents all (Ok xs)
contents_same all now xs same =
    ap (λ (b : Bool). if b then Some (map (λ a. payload_of (block_of now a)) xs) else None) (same_right all now xs same)
    ∙ ap (λ (ps : List (List ℕ)). if list_all (λ a. has_header page_kind a (block_of all a)) xs then Some ps else None) (same_contents all now xs same)

pages_in : (all : List (List ℕ)) (xs : List ℕ) (ps : List (List ℕ)) → contents all (Ok xs) ≡ Some ps → ArePages all xs ps
pages_in all xs ps is =
    let parts = cut_some (list_all (λ a. has_header page_kind a (block_of all a)) xs) (map (λ a. payload_of (block_of all a)) xs) ps is in
    pages_from all xs ps parts.0 parts.1

contents_from : (all : List (List ℕ)) (xs : List ℕ) (ps : List (List ℕ)) → ArePages all xs ps → contents all (Ok xs) ≡ Some ps
contents_from all xs ps are =
    let parts = all_right all xs ps are in
    ap (λ (b : Bool). if b then Some (map (λ a. payload_of (block_of all a)) xs) else None) parts.0 ∙ ap Some parts.1

pages_both : (all : List (List ℕ)) (xs ys : List ℕ) (ps qs : List (List ℕ)) → ArePages all xs ps → ArePages all ys qs → ArePages all (xs ++ ys) (ps ++ qs)
pages_both all [] ys [] qs one two = two
pages_both all [] ys (p ∷ ps) qs one two = absurd one
pages_both all (x ∷ xs) ys [] qs one two = absurd one
pages_both all (x ∷ xs) ys (p ∷ ps) qs one two = (one.0, pages_both all xs ys ps qs one.1 two)

pages_rewritten : (all : List (List ℕ)) (xs : List ℕ) (changed : List (ℕ × ℕ)) (ps pages : List (List ℕ)) → ArePages all xs ps
    → ArePages all (new_blocks changed) pages → ArePages all (replaced_from 0 xs changed) (rewritten ps changed pages)
pages_rewritten all xs [] ps pages are new = are
pages_rewritten all xs ((n, a) ∷ changed) ps [] are new = absurd new
pages_rewritten all xs ((n, a) ∷ changed) ps (page ∷ pages) are new =
    let place : n - 0 ≡ n = omega arith in
    pages_rewritten all (slice_set xs (n - 0) a) changed (slice_set ps n page) pages
    (subst (λ (i : ℕ). ArePages all (slice_set xs i a) (slice_set ps n page)) (sym place) (pages_set all xs ps n a page are new.0)) new.1

-- pages change as their blocks do
pub contents_edited : (all : List (List ℕ)) (xs added : List ℕ) (changed : List (ℕ × ℕ)) (ps pages more : List (List ℕ))
    → contents all (Ok xs) ≡ Some ps → contents all (Ok (new_blocks changed)) ≡ Some pages → contents all (Ok added) ≡ Some more
    → contents all (Ok (edited xs changed added)) ≡ Some (rewritten ps changed pages ++ more)
contents_edited all xs added changed ps pages more is new adds =
    contents_from all (edited xs changed added) (rewritten ps changed pages ++ more)
    (pages_both all (replaced_from 0 xs changed) added (rewritten ps changed pages) more
    (pages_rewritten all xs changed ps pages (pages_in all xs ps is) (pages_in all (new_blocks changed) pages new))
    (pages_in all added more adds))

times-cons : (b x : ℕ) (xs : List ℕ) → times b (x ∷ xs) ≡ cond (x == b) 1 0 + times b xs
times-cons b x xs = sum_by-cons (λ y. cond (y == b) 1 0) x xs

times-append : (b : ℕ) (xs ys : List ℕ) → times b (xs ++ ys) ≡ times b xs + times b ys
times-append b xs ys = sum_by-append (λ y. cond (y == b) 1 0) xs ys

-- what leaves reach is the leaves and the pages that they name
listed_times : (all : List (List ℕ)) (pages : ℕ) (ls bs xs : List ℕ) (b : ℕ) → listed true all pages ls ≡ Ok bs → listed false all pages ls ≡ Ok xs
    → times b bs ≡ times b ls + times b xs
listed_times all pages [] bs xs b reach named =
    let p : [] ≡ bs = cc in
    let q : [] ≡ xs = cc in
    ap (times b) (sym p) ∙ ap (times b) q ∙ sym (let z : times b [] + times b xs ≡ times b xs = omega arith in z)
listed_times all pages (l ∷ ls) bs xs b reach named =
    let parts = both_parts (joined (Ok (l ∷ [])) (map_at all 1 (min 252 pages) l)) (listed true all (pages - 252) ls) bs reach in
    let first = both_parts (Ok (l ∷ [])) (map_at all 1 (min 252 pages) l) parts.0 parts.2 in
    let one : l ∷ [] ≡ first.0 = cc in
    let other = both_parts (joined (Ok []) (map_at all 1 (min 252 pages) l)) (listed false all (pages - 252) ls) xs named in
    let second = both_parts (Ok []) (map_at all 1 (min 252 pages) l) other.0 other.2 in
    let none : [] ≡ second.0 = cc in
    let same : first.1 ≡ second.1 = ok_is first.1 second.1 (map_at all 1 (min 252 pages) l) first.3 second.3 in
    let rest = listed_times all (pages - 252) ls parts.1 other.1 b parts.3 other.3 in
    omega (
      arith,
      rest,
      ap (times b) parts.4,
      times-append b parts.0 parts.1,
      ap (times b) first.4,
      times-append b first.0 first.1,
      ap (times b) (sym one),
      times-cons b l [],
      times-cons b l ls,
      ap (times b) other.4,
      times-append b other.0 other.1,
      ap (times b) second.4,
      times-append b second.0 second.1,
      ap (times b) (sym none),
      ap (times b) same,
    )

-- what an object reaches is its topmost map, its leaves and its pages
pub reaches_parts : (all : List (List ℕ)) (object : Ref) (ls xs : List ℕ) → leaves_of all object ≡ Ok ls → addresses_of all object ≡ Ok xs
    → ReachesParts all object ls xs
reaches_parts all object ls xs leaves named =
    let whole = object_whole (λ b. Unit {0}) all object ls xs leaves named (λ k d within. tt) (λ k d within. tt) (λ k d within. tt) in
    record {
      blocks = whole.0;
      is = whole.1;
      parts = λ b.
          let parts = both_parts (Ok (top_of true object)) (listed_in true all object.pages (leaves_of all object)) whole.0 whole.1 in
          let top : top_of true object ≡ parts.0 = ok_is (top_of true object) parts.0 (Ok (top_of true object)) refl parts.2 in
          let one : listed true all object.pages ls ≡ Ok parts.1 = sym (ap (listed_in true all object.pages) leaves) ∙ parts.3 in
          let rest = listed_times all object.pages ls parts.1 xs b one (listed_from all object ls xs leaves named) in
          omega (arith, rest, ap (times b) parts.4, times-append b parts.0 parts.1, ap (times b) top);
    }

-- beside nothing all is fresh
fresh_nil : (b : ℕ) (ls : List ℕ) → All (λ x. 1 ≤ x) ls → times b (fresh [] ls) ≡ times b ls
fresh_nil b [] some = refl
fresh_nil b (l ∷ ls) some =
    let first = some 0 0 (omega arith) in
    let out : nat_eq 0 l ≡ false = ne_eqb 0 l (omega (arith, first)) in
    let rest = fresh_nil b ls (λ k d within. some (suc k) d (omega (arith, within))) in
    rw out (omega (arith, rest, times-cons b l ls, times-cons b l (fresh [] ls)))

-- what one list lost of another, and what is fresh in it
pub traded : (b : ℕ) (ls ms : List ℕ) → All (λ x. 1 ≤ x) ls → All (λ x. 1 ≤ x) ms
    → times b ms + times b (fresh ms ls) ≡ times b ls + times b (fresh ls ms)
traded b [] ms one two =
    let h = fresh_nil b ms two in
    let z : times b [] ≡ 0 = refl in
    omega arith
traded b (l ∷ ls) [] one two =
    let h = fresh_nil b (l ∷ ls) one in
    let z : times b [] ≡ 0 = refl in
    omega arith
traded b (l ∷ ls) (m ∷ ms) one two =
    let rest = traded b ls ms (λ k d within. one (suc k) d (omega (arith, within))) (λ k d within. two (suc k) d (omega (arith, within))) in
    elim (cases_eq l m) [
      | inl same ↦
          (let here : nat_eq l m ≡ true = eq-eqb l m same in
          let there : nat_eq m l ≡ true = eq-eqb m l (sym same) in
          rw (here, there) (omega (arith, rest, times-cons b l ls, times-cons b m ms, ap {B = ℕ} (λ (x : ℕ). cond (x == b) 1 0) same)))
      | inr other ↦
          (let here : nat_eq l m ≡ false = ne_eqb l m other in
          let there : nat_eq m l ≡ false = ne_eqb m l (λ is. other (sym is)) in
          rw (here, there) (omega (arith, rest, times-cons b l ls, times-cons b m ms, times-cons b m (fresh ls ms), times-cons b l (fresh ms ls))))
    ]

-- leaves are behind the roots
pub leaves_behind : (all : List (List ℕ)) (object : Ref) (ls : List ℕ) → (1 ≤ object.pages → 4 ≤ object.root) → leaves_of all object ≡ Ok ls
    → All (λ b. 4 ≤ b) ls
leaves_behind all object ls above is = elim (cases_lt 252 object.pages) [
  | inl many ↦
      (let named = map_names all 2 (leaf_count object.pages) object.root ls (sym (leaves_many all object many) ∙ is) in
      λ k d within. behind_of (length all) _ (named k d within))
  | inr less ↦ (elim (cases_lt 0 object.pages) [
    | inl some ↦
        (let one : object.root ∷ [] ≡ ls = ok_is (object.root ∷ []) ls (leaves_of all object) (leaves_one all object (omega (arith, some)) less) is in
        let four = above (omega (arith, some)) in
        subst (All (λ b. 4 ≤ b)) one (all_cons (λ b. 4 ≤ b) object.root [] four (all_none (λ b. 4 ≤ b))))
    | inr none ↦
        (let no_one : [] ≡ ls = ok_is [] ls (leaves_of all object) (leaves_none all object (omega (arith, none))) is in
        subst (All (λ b. 4 ≤ b)) no_one (all_none (λ b. 4 ≤ b)))
  ])
]

-- and pages are blocks of the store
pub pages_inside : (all : List (List ℕ)) (object : Ref) (xs : List ℕ) → addresses_of all object ≡ Ok xs → All (λ b. is_address (length all) b ≡ true) xs
pages_inside all object xs named =
    let had = leaves_exist all object xs named in
    listed_names all object.pages had.0 xs (listed_from all object had.0 xs had.1 named)

-- What an object reaches that was made of another.
use Rattle.std.specs.Prelude.{◌≡◌, ℕ, suc, ◌-◌, ◌≤◌, min, Bool, true, false, ◌||◌, List, [], ◌∷◌, ◌++◌, length, drop, nat_eq, slice_index, slice_index_or, Result, Ok, Err}
use Rattle.std.specs.List.{All, IsDistinct}
use Rattle.std.proofs.Common.{refl, sym, ap, subst, ◌∙◌, inl, inr, arith}
use Rattle.std.proofs.lemmas.Bool.{cases_lt, cases_eq, eq-eqb, ne_eqb}
use Rattle.iq_base.specs.declared.refs.Ref.{Ref}
use Rattle.iq_block_map.specs.Objects.{leaf_count, map_at, leaves_of, listed, listed_in, joined, top_of, addresses_of, blocks_of}
use Rattle.iq_block_map.specs.Takers.{taken_of}
use Rattle.iq_block_map.specs.Writing.{holds}
use Rattle.iq_block_map.specs.Editing.{fresh, AreApart, HasRemapped}
use Rattle.iq_block_map.proofs.PutLemmas.{holds-append, taken_front}
use Rattle.iq_block_map.proofs.StepLemmas.{both_parts, ok_is}
use Rattle.iq_block_map.proofs.NextLemmas.{distinct_parts, behind_of}
use Rattle.iq_block_map.proofs.NamedLemmas.{map_names}
use Rattle.iq_block_map.proofs.TopLemmas.{Remaps, leaves_one, leaves_many, leaves_none, top_one, top_none}
use Rattle.iq_block_map.proofs.FrameLaws.{all_front, all_back, all_cons, all_both, object_parts, apart_law}

pub all_none : (P : ℕ → Type 0) → All P []
all_none P k d within = absurd (omega (arith, within))

-- what leaves name, and the leaves themselves
listed_whole : (P : ℕ → Type 0) (all : List (List ℕ)) (pages : ℕ) (ls xs : List ℕ) → listed false all pages ls ≡ Ok xs → All P ls → All P xs
    → (bs : List ℕ) × (listed true all pages ls ≡ Ok bs) × All P bs
listed_whole P all pages [] xs named leaves each = ([], refl, all_none P)
listed_whole P all pages (l ∷ ls) xs named leaves each =
    let other = both_parts (joined (Ok []) (map_at all 1 (min 252 pages) l)) (listed false all (pages - 252) ls) xs named in
    let second = both_parts (Ok []) (map_at all 1 (min 252 pages) l) other.0 other.2 in
    let none : [] ≡ second.0 = ok_is [] second.0 (Ok []) refl second.2 in
    let mine : other.0 ≡ second.1 = second.4 ∙ ap (λ (t : List ℕ). t ++ second.1) (sym none) in
    let split : All P (other.0 ++ other.1) = subst (All P) other.4 each in
    let first : All P second.1 = subst (All P) mine (all_front P other.0 other.1 split) in
    let rest = listed_whole P all (pages - 252) ls other.1 other.3 (λ k d within. leaves (suc k) d (omega (arith, within))) (all_back P other.0 other.1 split) in (
      (l ∷ second.1) ++ rest.0,
      ap (λ (r : Result (List ℕ) ℕ). joined (joined (Ok (l ∷ [])) r) (listed true all (pages - 252) ls)) second.3
          ∙ ap (joined (Ok (l ∷ second.1))) rest.1,
      all_both P (l ∷ second.1) rest.0 (all_cons P l second.1 (leaves 0 0 (omega arith)) first) rest.2,
    )

-- an object whose maps are right reaches blocks, of which what holds of its maps and of its pages holds
pub object_whole : (P : ℕ → Type 0) (all : List (List ℕ)) (object : Ref) (ls xs : List ℕ) → leaves_of all object ≡ Ok ls → addresses_of all object ≡ Ok xs
    → All P (top_of true object) → All P ls → All P xs → (bs : List ℕ) × (blocks_of all object ≡ Ok bs) × All P bs
object_whole P all object ls xs leaves named top each_leaf each =
    let two = both_parts (Ok []) (listed false all object.pages ls) xs (sym (ap (λ (r : Result (List ℕ) ℕ). joined (Ok []) (listed_in false all object.pages r)) leaves) ∙ named) in
    let none : [] ≡ two.0 = ok_is [] two.0 (Ok []) refl two.2 in
    let same : two.1 ≡ xs = sym (two.4 ∙ ap (λ (t : List ℕ). t ++ two.1) (sym none)) in
    let rest = listed_whole P all object.pages ls two.1 two.3 each_leaf (subst (All P) (sym same) each) in (
      top_of true object ++ rest.0,
      ap (λ (r : Result (List ℕ) ℕ). joined (Ok (top_of true object)) (listed_in true all object.pages r)) leaves ∙ ap (joined (Ok (top_of true object))) rest.1,
      all_both P (top_of true object) rest.0 top rest.2,
    )

-- an object whose pages are named has leaves
pub leaves_exist : (all : List (List ℕ)) (object : Ref) (xs : List ℕ) → addresses_of all object ≡ Ok xs → (ls : List ℕ) × (leaves_of all object ≡ Ok ls)
leaves_exist all object xs named = go (leaves_of all object) refl
  where
    go : (r : Result (List ℕ) ℕ) → leaves_of all object ≡ r → (ls : List ℕ) × (leaves_of all object ≡ Ok ls)
    go (Err b) is = absurd (never (sym (ap (λ (r : Result (List ℕ) ℕ). joined (Ok []) (listed_in false all object.pages r)) is) ∙ named))
      where
        never : ◌≡◌ {A = Result (List ℕ) ℕ} (Err b) (Ok xs) → ⊥
        never wrong = cc
    go (Ok ls) is = (ls, is)

-- no leaf is block 0
pub leaves_some : (all : List (List ℕ)) (object : Ref) (ls : List ℕ) → (1 ≤ object.pages → 4 ≤ object.root) → leaves_of all object ≡ Ok ls
    → All (λ b. 1 ≤ b) ls
leaves_some all object ls above is = elim (cases_lt 252 object.pages) [
  | inl many ↦
      (let named = map_names all 2 (leaf_count object.pages) object.root ls (sym (leaves_many all object many) ∙ is) in
      λ k d within. (let four = behind_of (length all) (slice_index_or ls k d) (named k d within) in omega (arith, four)))
  | inr less ↦ (elim (cases_lt 0 object.pages) [
    | inl some ↦
        (let one : object.root ∷ [] ≡ ls = ok_is (object.root ∷ []) ls (leaves_of all object) (leaves_one all object (omega (arith, some)) less) is in
        let four = above (omega (arith, some)) in
        subst (All (λ b. 1 ≤ b)) one (all_cons (λ b. 1 ≤ b) object.root [] (omega (arith, four)) (all_none (λ b. 1 ≤ b))))
    | inr none ↦
        (let no_one : [] ≡ ls = ok_is [] ls (leaves_of all object) (leaves_none all object (omega (arith, none))) is in
        subst (All (λ b. 1 ≤ b)) no_one (all_none (λ b. 1 ≤ b)))
  ])
]

-- nor is a topmost map
top_some : (object : Ref) → (1 ≤ object.pages → 4 ≤ object.root) → All (λ b. 1 ≤ b) (top_of true object)
top_some object above = elim (cases_lt 252 object.pages) [
  | inl many ↦
      (let four = above (omega (arith, many)) in
      subst (All (λ b. 1 ≤ b)) (sym (top_one object many)) (all_cons (λ b. 1 ≤ b) object.root [] (omega (arith, four)) (all_none (λ b. 1 ≤ b))))
  | inr less ↦ subst (All (λ b. 1 ≤ b)) (sym (top_none object less)) (all_none (λ b. 1 ≤ b))
]

-- what holds of a list, and of what another has fresh beside it, holds of the other
pub fresh_all : (P : ℕ → Type 0) (ls ms : List ℕ) → All P ls → All P (fresh ls ms) → All (λ b. 1 ≤ b) ms → All P ms
fresh_all P ls [] old new some = all_none P
fresh_all P ls (m ∷ ms) old new some = elim (cases_eq (slice_index ls 0) m) [
  | inl same ↦
      (let equal : nat_eq (slice_index ls 0) m ≡ true = eq-eqb (slice_index ls 0) m same in
      let here : P m = had ls same old in
      let more : All P (fresh (drop 1 ls) ms) = rw equal at new in
      all_cons P m ms here (fresh_all P (drop 1 ls) ms (later ls old) more (λ k d within. some (suc k) d (omega (arith, within)))))
  | inr other ↦
      (let differ : nat_eq (slice_index ls 0) m ≡ false = ne_eqb (slice_index ls 0) m other in
      let whole : All P (m ∷ fresh (drop 1 ls) ms) = rw differ at new in
      all_cons P m ms (whole 0 0 (omega arith))
      (fresh_all P (drop 1 ls) ms (later ls old) (λ k d within. whole (suc k) d (omega (arith, within))) (λ k d within. some (suc k) d (omega (arith, within)))))
]
  where
    had : (ls : List ℕ) → slice_index ls 0 ≡ m → All P ls → P m
    had [] same old =
        let first = some 0 0 (omega arith) in
        absurd (omega (arith, same, first))
    had (l ∷ ls) same old = subst P same (old 0 0 (omega arith))

    later : (ls : List ℕ) → All P ls → All P (drop 1 ls)
    later [] old = old
    later (l ∷ ls) old = λ k d within. old (suc k) d (omega (arith, within))

-- of distinct blocks the first ones aren't among the others
pub distinct_front : (xs ys : List ℕ) → IsDistinct nat_eq (xs ++ ys) → All (λ b. holds ys b ≡ false) xs
distinct_front [] ys are = all_none (λ b. holds ys b ≡ false)
distinct_front (x ∷ xs) ys are =
    let parts = distinct_parts x (xs ++ ys) are in
    all_cons (λ b. holds ys b ≡ false) x xs (holds-append xs ys x parts.0).1 (distinct_front xs ys parts.1)

or_left : (a b : Bool) → a ≡ true → (a || b) ≡ true
or_left true b is = refl
or_left false b is = cc

or_right : (a b : Bool) → b ≡ true → (a || b) ≡ true
or_right true b is = refl
or_right false b is = is

or_cases : (a b : Bool) → (a || b) ≡ true → (b ≡ false → ⊥) → b ≡ true
or_cases a true is never = refl
or_cases a false is never = absurd (never refl)

pub holds_left : (xs ys : List ℕ) (b : ℕ) → holds xs b ≡ true → holds (xs ++ ys) b ≡ true
holds_left [] ys b is = cc
holds_left (x ∷ xs) ys b is = elim (cases_eq b x) [
  | inl same ↦ or_left (nat_eq b x) (holds (xs ++ ys) b) (eq-eqb b x same)
  | inr other ↦
      (let differ : nat_eq b x ≡ false = ne_eqb b x other in
      let rest : holds xs b ≡ true = rw differ at is in
      or_right (nat_eq b x) (holds (xs ++ ys) b) (holds_left xs ys b rest))
]

pub holds_right : (xs ys : List ℕ) (b : ℕ) → holds ys b ≡ true → holds (xs ++ ys) b ≡ true
holds_right [] ys b is = is
holds_right (x ∷ xs) ys b is = or_right (nat_eq b x) (holds (xs ++ ys) b) (holds_right xs ys b is)

-- each block of a list is among it
pub self_holds : (xs : List ℕ) → All (λ b. holds xs b ≡ true) xs
self_holds [] = all_none (λ b. holds [] b ≡ true)
self_holds (x ∷ xs) =
    all_cons (λ b. holds (x ∷ xs) b ≡ true) x xs (or_left (nat_eq x x) (holds xs x) (eq-eqb x x refl))
    (λ k d within. or_right (nat_eq (slice_index_or xs k d) x) (holds xs (slice_index_or xs k d)) (self_holds xs k d within))

all_on : (P Q : ℕ → Type 0) (xs : List ℕ) → ((b : ℕ) → P b → Q b) → All P xs → All Q xs
all_on P Q xs pass each k d within = pass (slice_index_or xs k d) (each k d within)

-- what holds of the old object's maps, of what was taken and of the new pages holds of all that the new object reaches
reach_all : (P : ℕ → Type 0) (all now : List (List ℕ)) (old new : Ref) (xs ys before after ls ms : List ℕ) → Remaps all now old new xs ys before after
    → (1 ≤ new.pages → 4 ≤ new.root) → leaves_of all old ≡ Ok ls → leaves_of now new ≡ Ok ms
    → All P ls → All P (top_of true old) → All P (fresh ls ms ++ fresh (top_of true old) (top_of true new)) → All P ys
    → (bs : List ℕ) × (blocks_of now new ≡ Ok bs) × All P bs
reach_all P all now old new xs ys before after ls ms remaps above is_old is_new old_leaves old_top taken pages =
    let leaves = fresh_all P ls ms old_leaves (all_front P (fresh ls ms) (fresh (top_of true old) (top_of true new)) taken) (leaves_some now new ms above is_new) in
    let top = fresh_all P (top_of true old) (top_of true new) old_top (all_back P (fresh ls ms) (fresh (top_of true old) (top_of true new)) taken) (top_some new above) in
    object_whole P now new ms ys is_new remaps.addresses top leaves pages

-- the new object with what it reaches, and apart from what is left
pub remapped : (all now : List (List ℕ)) (old new : Ref) (xs ys before after : List ℕ) → Remaps all now old new xs ys before after
    → new.pages ≤ 63504 → (1 ≤ new.pages → 4 ≤ new.root) → IsDistinct nat_eq before → AreApart all old before → addresses_of all old ≡ Ok xs
    → HasRemapped all now old new xs ys before after
remapped all now old new xs ys before after remaps few above distinct apart is =
    let had = leaves_exist all old xs is in
    let has = leaves_exist now new ys remaps.addresses in
    let ls = had.0 in
    let ms = has.0 in
    let shares = remaps.maps ls ms had.1 has.1 in
    let front = fresh ls ms ++ fresh (top_of true old) (top_of true new) in
    let taken : taken_of before after ≡ front = taken_front before front after shares.taken in
    let whole = reach_all (λ b. Unit {0}) all now old new xs ys before after ls ms remaps above had.1 has.1
    (λ k d within. tt) (λ k d within. tt) (λ k d within. tt) (λ k d within. tt) in
    let free : (b : ℕ) → holds before b ≡ false → holds after b ≡ false
    = λ b none. (holds-append front after b (ap (λ (t : List ℕ). holds t b) (sym shares.taken) ∙ none)).1 in
    record {
      size = remaps.size;
      addresses = remaps.addresses;
      count = remaps.count;
      maps = remaps.maps;
      reach = record {
        blocks = whole.0;
        is = whole.1;
        among = λ reached reach.
            let P : ℕ → Type 0 = λ b. holds (reached ++ (ys ++ taken_of before after)) b ≡ true in
            let parts = object_parts (λ b. holds reached b ≡ true) all old reached reach (self_holds reached) in
            let same : parts.ls ≡ ls = ok_is parts.ls ls (leaves_of all old) parts.is had.1 in
            let in_old : (b : ℕ) → holds reached b ≡ true → P b = λ b in_it. holds_left reached (ys ++ taken_of before after) b in_it in
            let in_taken : (b : ℕ) → holds front b ≡ true → P b
            = λ b in_it. holds_right reached (ys ++ taken_of before after) b
            (holds_right ys (taken_of before after) b (ap (λ (t : List ℕ). holds t b) taken ∙ in_it)) in
            let in_pages : (b : ℕ) → holds ys b ≡ true → P b
            = λ b in_it. holds_right reached (ys ++ taken_of before after) b (holds_left ys (taken_of before after) b in_it) in
            let again = reach_all P all now old new xs ys before after ls ms remaps above had.1 has.1
            (all_on (λ b. holds reached b ≡ true) P ls in_old (subst (All (λ b. holds reached b ≡ true)) same parts.parts.leaves))
            (all_on (λ b. holds reached b ≡ true) P (top_of true old) in_old parts.top)
            (all_on (λ b. holds front b ≡ true) P front in_taken (self_holds front))
            (all_on (λ b. holds ys b ≡ true) P ys in_pages (self_holds ys)) in
            subst (All P) (ok_is again.0 whole.0 (blocks_of now new) again.1 whole.1) again.2;
      };
      apart = λ pages.
          let P : ℕ → Type 0 = λ b. holds after b ≡ false in
          let again = reach_all P all now old new xs ys before after ls ms remaps above had.1 has.1
          (all_on (λ b. holds before b ≡ false) P ls free (apart.leaves ls had.1))
          (all_on (λ b. holds before b ≡ false) P (top_of true old) free apart.top)
          (distinct_front front after (subst (IsDistinct nat_eq) shares.taken distinct))
          pages in
          apart_law now new again.0 after few again.1 again.2;
    }

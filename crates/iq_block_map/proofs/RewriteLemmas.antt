-- All leaves of an object, written anew where they changed.
use Rattle.std.specs.Prelude.{◌≡◌, ◌≢◌, ℕ, zero, suc, ◌+◌, ◌-◌, ◌*◌, ◌^◌, ◌<◌, ◌≤◌, Bool, true, false, List, [], ◌∷◌, ◌++◌, length, take, drop, nat_eq, slice_index, slice_index_or, slice_set, Result, Ok, Err, IsOk, is_ok, Option, Some, None}
use Rattle.std.specs.List.{All, list_all, IsDistinct}
use Rattle.std.proofs.Common.{refl, sym, ap, subst, ◌∙◌, inl, inr, arith, length-append, get_or-set_same, get_or-set_other}
use Rattle.std.proofs.lemmas.List.{get_or-take, get_or-drop, length-take, drop_all, take_all, drop-drop, drop-set-lt, get_or-append_right}
use Rattle.std.proofs.lemmas.Bool.{and_parts, eq-eqb, ne_eqb, eqb-true, cases_lt, cases_eq}
use Rattle.iq_outside.specs.declared.device.Device.{Ghosts}
use Rattle.iq_outside.specs.Devices.{block_of}
use Rattle.iq_base.specs.declared.refs.Ref.{Ref}
use Rattle.iq_block_map.specs.Maps.{is_address}
use Rattle.iq_block_map.specs.Refs.{IsPlace, MayBe}
use Rattle.iq_block_map.specs.Objects.{leaf_count, used_in, map_at}
use Rattle.iq_block_map.specs.Takers.{AreSpare, taken_of}
use Rattle.iq_block_map.specs.Writing.{holds, SameBeside, HasPut}
use Rattle.iq_block_map.specs.Editing.{piece, differing, one_unless, same_list, is_touched}
use Rattle.iq_block_map.specs.Leaves.{leaf_at, EndsLeaf, IsOpened, AreOpened, ReadsLeaves, IsBadOne, IsBadPlace, HasLeaves, HasLeavesAt, LacksLeaf}
use Rattle.iq_block_map.proofs.PutLemmas.{holds-append}
use Rattle.iq_block_map.proofs.StepLemmas.{IsSoFar, so_far_more, listed_at, map_same, same_list-not, differing_more, differing_grows}
use Rattle.iq_block_map.proofs.NextLemmas.{distinct_parts, head_apart, stays_next, makes_next, behind_of}
use Rattle.iq_block_map.proofs.ReadLemmas.{address_at}

-- a device that tells its blocks now told them before
pub put_told : {D : Type 0} (g : Ghosts D) (before after : List ℕ) (old new : D) (now : List (List ℕ))
    → HasPut g before after old new → g.blocks new ≡ Some now
    → (all : List (List ℕ)) × (g.blocks old ≡ Some all) × SameBeside (taken_of before after) all now
put_told g before after old new now put told = go (g.blocks old) refl
  where
    go : (o : Option (List (List ℕ))) → g.blocks old ≡ o → (all : List (List ℕ)) × (g.blocks old ≡ Some all) × SameBeside (taken_of before after) all now
    go None is = absurd (never (put.untold is))
      where
        never : g.blocks new ≡ None → ⊥
        never not = cc (sym told ∙ not)
    go (Some all) is =
        let there = put.content all is in
        (all, is, subst (SameBeside (taken_of before after) all) (one there.0 there.1) there.2)
      where
        one : (b : List (List ℕ)) → g.blocks new ≡ Some b → b ≡ now
        one b other = cc

distinct_after : (taken after : List ℕ) → IsDistinct nat_eq (taken ++ after) → IsDistinct nat_eq after
distinct_after [] after are = are
distinct_after (x ∷ taken) after are = distinct_after taken after (distinct_parts x (taken ++ after) are).1

all_after : (P : ℕ → Type 0) (taken after : List ℕ) → All P (taken ++ after) → All P after
all_after P taken after each k d within =
    let at : slice_index_or (taken ++ after) (length taken + k) d ≡ slice_index_or after k d
    = get_or-append_right taken after (length taken) (length taken + k) d refl (omega arith) ∙ ap (λ (n : ℕ). slice_index_or after n d) (omega arith) in
    subst P at (each (length taken + k) d (omega (arith, within, length-append taken after)))

-- what is left may still be taken
pub spare_after : {D : Type 0} (g : Ghosts D) (before after : List ℕ) (old new : D) → AreSpare (g.blocks old) before
    → HasPut g before after old new → AreSpare (g.blocks new) after
spare_after g before after old new spare put = record {
  distinct = distinct_after (taken_of before after) after (subst (IsDistinct nat_eq) put.left spare.distinct);
  above = all_after (λ b. 4 ≤ b) (taken_of before after) after (subst (All (λ b. 4 ≤ b)) put.left spare.above);
  below = λ now told.
      let there = put_told g before after old new now put told in
      let each = spare.below there.0 there.1 in
      subst (λ (n : ℕ). All (λ b. b < n) after) (sym there.2.size)
      (all_after (λ b. b < length there.0) (taken_of before after) after
      (subst (All (λ b. b < length there.0)) put.left each));
}

-- a block that could be named before can be named after
pub place_after : {D : Type 0} (g : Ghosts D) (before after : List ℕ) (old new : D) (b : ℕ) → IsPlace (g.blocks old) b
    → HasPut g before after old new → IsPlace (g.blocks new) b
place_after g before after old new b place put = record {
  above = place.above;
  below = λ now told.
      let there = put_told g before after old new now put told in
      let inside = place.below there.0 there.1 in
      omega (arith, inside, there.2.size);
}

-- and one that can be named after could be before
pub place_before : {D : Type 0} (g : Ghosts D) (before after : List ℕ) (old new : D) (b : ℕ) → IsPlace (g.blocks new) b
    → HasPut g before after old new → IsPlace (g.blocks old) b
place_before g before after old new b place put = record {
  above = place.above;
  below = λ all told.
      let there = put.content all told in
      let inside = place.below there.0 there.1 in
      omega (arith, inside, there.2.size);
}

-- the first leaf, after one was put in its place
pub first_more : (told : Option (List (List ℕ))) (ms : List ℕ) (k made : ℕ) → 0 < length ms → (1 ≤ k → IsPlace told (slice_index ms 0))
    → (k ≡ 0 → IsPlace told made) → IsPlace told (slice_index (slice_set ms k made) 0)
first_more told ms k made some had put = elim (cases_eq k 0) [
  | inl none ↦
      subst (IsPlace told) (sym (ap (λ (n : ℕ). slice_index (slice_set ms n made) 0) none ∙ get_or-set_same ms 0 made 0 some)) (put none)
  | inr more ↦
      subst (IsPlace told) (sym (get_or-set_other ms k 0 made 0 (λ is. more (sym is)))) (had (omega (arith, more)))
]

zero_at : (zs : List ℕ) (k : ℕ) → list_all (nat_eq 0) zs ≡ true → slice_index zs k ≡ 0
zero_at [] k are = refl
zero_at (z ∷ zs) zero are = sym (eqb-true 0 z (and_parts (nat_eq 0 z) (list_all (nat_eq 0) zs) are).0)
zero_at (z ∷ zs) (suc k) are = zero_at zs k (and_parts (nat_eq 0 z) (list_all (nat_eq 0) zs) are).1

-- a number of a map that isn't in use
pub spare_zero : (count used k : ℕ) (ps : List ℕ) → MayBe count used ps → used ≤ k → slice_index ps k ≡ 0
spare_zero count used k ps may past =
    let shift : used + (k - used) ≡ k = omega (arith, past) in
    ap (slice_index ps) (sym shift) ∙ sym (get_or-drop used ps (k - used) 0) ∙ zero_at (drop used ps) (k - used) (and_parts _ _ may.places).1

-- the pages that a leaf had, read as the store is now
pub old_leaf : (all now : List (List ℕ)) (old : Ref) (xs ls before taken : List ℕ) (k : ℕ) → IsOpened all old ls xs before → length xs ≡ old.pages
    → old.pages ≤ 63504 → length now ≡ length all
    → SameBeside taken all now → ((b : ℕ) → holds before b ≡ false → holds taken b ≡ false)
    → leaf_at now (used_in (length xs) k) (slice_index ls k) ≡ Ok (piece k xs)
old_leaf all now old xs ls before taken k opened count few size same free = elim (cases_lt (252 * k) (length xs)) [
  | inl some ↦
      (let within : k < leaf_count old.pages = omega (arith, some, count) in
      let fits : leaf_count old.pages ≤ 252 = omega (arith, few) in
      let long : length (take (leaf_count old.pages) ls) ≡ leaf_count old.pages = length-take (leaf_count old.pages) ls ∙ omega (arith, opened.may.size, fits) in
      let at : slice_index (take (leaf_count old.pages) ls) k ≡ slice_index ls k = get_or-take (leaf_count old.pages) ls k 0 within in
      let read : map_at all 1 (used_in old.pages k) (slice_index (take (leaf_count old.pages) ls) k) ≡ Ok (piece k xs)
      = listed_at all old.pages k (take (leaf_count old.pages) ls) xs opened.listed (omega (arith, long)) (omega (arith, within, long)) in
      let apart : holds before (slice_index ls k) ≡ false
      = ap (holds before) (sym at) ∙ opened.apart k 0 (omega (arith, within, long)) in
      let block : block_of now (slice_index ls k) ≡ block_of all (slice_index ls k) = same.others (slice_index ls k) (free (slice_index ls k) apart) in
      let used : nat_eq (used_in (length xs) k) 0 ≡ false = ne_eqb (used_in (length xs) k) 0 (omega (arith, some)) in
      let here : map_at now 1 (used_in (length xs) k) (slice_index ls k) ≡ Ok (piece k xs)
      = map_same all now 1 (used_in (length xs) k) (slice_index ls k) size block
      ∙ ap (λ (n : ℕ). map_at all 1 (used_in n k) (slice_index ls k)) count
      ∙ ap (map_at all 1 (used_in old.pages k)) (sym at) ∙ read in
      rw used here)
  | inr none ↦
      (let used : nat_eq (used_in (length xs) k) 0 ≡ true = eq-eqb (used_in (length xs) k) 0 (omega (arith, none)) in
      let empty : piece k xs ≡ [] = ap (take 252) (drop_all (252 * k) xs none) in
      rw used (ap Ok (sym empty)))
]

-- one more leaf is done
pub leaf_done : (all now now' : List (List ℕ)) (old : Ref) (xs ys ls ms before after after' taken : List ℕ) (k at made : ℕ)
    → IsSoFar all now xs ys ls ms before after k → IsOpened all old ls xs before → length xs ≡ old.pages → old.pages ≤ 63504
    → SameBeside taken all now → before ≡ taken ++ after → length all < 2 ^ 32 → length ms ≡ 252 → k < 252 → 252 * k < length ys
    → at ≡ slice_index ls k → All (λ y. is_address (length all) y ≡ true) ys
    → IsDistinct nat_eq after → All (λ b. is_address (length all) b ≡ true) after
    → (leaf_at now (used_in (length xs) k) at ≡ Ok (piece k xs) → EndsLeaf now now' at made (piece k xs) (piece k ys) after after')
    → IsSoFar all now' xs ys ls (slice_set ms k made) before after' (k + 1)
leaf_done all now now' old xs ys ls ms before after after' taken k at made so_far opened count few same split small long place some at_is named distinct inside ends =
    let free : (b : ℕ) → holds before b ≡ false → (holds taken b ≡ false) × (holds after b ≡ false)
    = λ b none. holds-append taken after b (ap (λ (t : List ℕ). holds t b) (sym split) ∙ none) in
    let read : leaf_at now (used_in (length xs) k) (slice_index ls k) ≡ Ok (piece k xs)
    = old_leaf all now old xs ls before taken k opened count few so_far.size same (λ b none. (free b none).0) in
    let read_at : leaf_at now (used_in (length xs) k) at ≡ Ok (piece k xs) = ap (leaf_at now (used_in (length xs) k)) at_is ∙ read in
    let fits : leaf_count old.pages ≤ 252 = omega (arith, few) in
    let address : 252 * k < length xs → is_address (length all) (slice_index ls k) ≡ true
    = λ inside. address_at (length all) (leaf_count old.pages) k ls opened.may (omega (arith, inside, count)) fits in
    let apart : 252 * k < length xs → holds after (slice_index ls k) ≡ false
    = λ inside.
    let within : k < leaf_count old.pages = omega (arith, inside, count) in
    let size : length (take (leaf_count old.pages) ls) ≡ leaf_count old.pages = length-take (leaf_count old.pages) ls ∙ omega (arith, opened.may.size, fits) in
    (free (slice_index ls k) (ap (holds before) (sym (get_or-take (leaf_count old.pages) ls k 0 within)) ∙ opened.apart k 0 (omega (arith, within, size)))).1 in
    elim (ends read_at) [
      | inl stays ↦
          (let next = stays_next all now now' xs ys ls ms after after' k at made at_is stays read_at some
          (λ inside. ap (is_address (length all)) at_is ∙ address inside) (λ inside. ap (holds after) at_is ∙ apart inside) in
          so_far_more all now now' xs ys ls ms before after after' k made (omega (arith, long, place)) place so_far next.1 next.0)
      | inr makes ↦
          (let other : slice_index ls k ≢ made = elim (cases_lt (252 * k) (length xs)) [
            | inl old_one ↦ (head_apart made (slice_index ls k) after' (ap (λ (t : List ℕ). holds t (slice_index ls k)) (sym makes.left) ∙ apart old_one)).0
            | inr new_one ↦
                (let none : slice_index ls k ≡ 0 = spare_zero (length all) (leaf_count old.pages) k ls opened.may (omega (arith, new_one, count)) in
                let first : is_address (length all) made ≡ true
                = ap (λ (t : List ℕ). is_address (length all) (slice_index t 0)) (sym makes.left) ∙ inside 0 0 (omega (arith, ap length makes.left)) in
                λ same_one. absurd (omega (arith, none, same_one, behind_of (length all) made first)))
          ] in
          let next = makes_next all now now' xs ys ls ms after after' k made so_far.size small makes named distinct inside other so_far.apart in
          so_far_more all now now' xs ys ls ms before after after' k made (omega (arith, long, place)) place so_far next.1 next.0)
    ]

-- a leaf that wasn't touched
pub untouched_at : (ls ms : List ℕ) (k : ℕ) → drop k ms ≡ drop k ls → slice_index ms k ≡ slice_index ls k
untouched_at ls ms k same =
    let here : k + 0 ≡ k = omega arith in
    ap (slice_index ms) (sym here) ∙ sym (get_or-drop k ms 0 0) ∙ ap (λ (t : List ℕ). slice_index t 0) same
    ∙ get_or-drop k ls 0 0 ∙ ap (slice_index ls) here

pub untouched_more : (ls ms : List ℕ) (k made : ℕ) → drop k ms ≡ drop k ls → drop (k + 1) (slice_set ms k made) ≡ drop (k + 1) ls
untouched_more ls ms k made same =
    drop-set-lt (k + 1) ms k made (omega arith) ∙ sym (drop-drop 1 k ms) ∙ ap (drop 1) same ∙ drop-drop 1 k ls

all_by_place : (p : ℕ → Bool) (n : ℕ) (ms : List ℕ) → ((j : ℕ) → j < n → p (slice_index ms j) ≡ true) → n ≤ length ms → list_all p (take n ms) ≡ true
all_by_place p zero ms each long = refl
all_by_place p (suc n) [] each long = absurd (omega (arith, long))
all_by_place p (suc n) (m ∷ ms) each long =
    let head : p m ≡ true = each 0 (omega arith) in
    let rest : list_all p (take n ms) ≡ true = all_by_place p n ms (λ j within. each (suc j) (omega (arith, within))) (omega (arith, long)) in
    rw (head, rest) refl

all_behind : (p : ℕ → Bool) (n : ℕ) (xs : List ℕ) → list_all p xs ≡ true → list_all p (drop n xs) ≡ true
all_behind p zero xs pass = pass
all_behind p (suc n) [] pass = refl
all_behind p (suc n) (x ∷ xs) pass = all_behind p n xs (and_parts (p x) (list_all p xs) pass).1

-- all leaves are done
pub leaves_done : (all now : List (List ℕ)) (old : Ref) (xs ys ls ms before after : List ℕ) (k : ℕ) → IsSoFar all now xs ys ls ms before after k
    → IsOpened all old ls xs before → k ≡ leaf_count (length ys) → old.pages ≤ length ys → length ys ≤ 63504 → length ms ≡ 252
    → drop k ms ≡ drop k ls → HasLeaves all now ls ms xs ys before after
leaves_done all now old xs ys ls ms before after k so_far opened end grown few long rest =
    let fits : k ≤ 252 = omega (arith, end, few) in
    let whole : take (252 * k) ys ≡ ys = take_all (252 * k) ys (omega (arith, end)) in
    let over : leaf_count old.pages + (k - leaf_count old.pages) ≡ k = omega (arith, end, grown) in
    let zeros : list_all (nat_eq 0) (drop k ms) ≡ true
    = ap (list_all (nat_eq 0)) (rest ∙ ap (λ (n : ℕ). drop n ls) (sym over) ∙ sym (drop-drop (k - leaf_count old.pages) (leaf_count old.pages) ls))
    ∙ all_behind (nat_eq 0) (k - leaf_count old.pages) (drop (leaf_count old.pages) ls) (and_parts _ _ opened.may.places).1 in
    let named : list_all (is_address (length all)) (take k ms) ≡ true
    = all_by_place (is_address (length all)) k ms so_far.named (omega (arith, fits, long)) in
    subst (λ (n : ℕ). HasLeavesAt all now ls ms xs ys before after n) end record {
      may = record { size = long; places = rw (named, zeros) refl };
      listed = so_far.listed ∙ ap Ok whole;
      taken = so_far.taken;
      count = so_far.count;
      shares = so_far.shares;
      differs = so_far.differs;
      apart = so_far.apart;
      rest = rest;
    }

-- a leaf reads the same where its block is the same
same_leaf : (all now : List (List ℕ)) (used at : ℕ) → length now ≡ length all → block_of now at ≡ block_of all at
    → leaf_at now used at ≡ leaf_at all used at
same_leaf all now used at size same = rw (size, same) refl

-- a leaf that is read while others are written was the same before
pub leaf_same : (all now : List (List ℕ)) (old : Ref) (ls before taken after : List ℕ) (k at used : ℕ) → AreOpened all old ls before
    → SameBeside taken all now → before ≡ taken ++ after → old.pages ≤ 63504 → used ≡ used_in old.pages k → at ≡ slice_index ls k
    → leaf_at now used at ≡ leaf_at all (used_in old.pages k) (slice_index ls k)
leaf_same all now old ls before taken after k at used opened same split few used_is at_is = elim (cases_eq used 0) [
  | inl none ↦
      ap (λ (n : ℕ). leaf_at now n at) none
      ∙ ap (λ (n : ℕ). leaf_at all n (slice_index ls k)) (sym none ∙ used_is)
  | inr some ↦
      (let within : k < leaf_count old.pages = omega (arith, some, used_is) in
      let fits : leaf_count old.pages ≤ 252 = omega (arith, few) in
      let size : length (take (leaf_count old.pages) ls) ≡ leaf_count old.pages = length-take (leaf_count old.pages) ls ∙ omega (arith, opened.may.size, fits) in
      let apart : holds before (slice_index ls k) ≡ false
      = ap (holds before) (sym (get_or-take (leaf_count old.pages) ls k 0 within)) ∙ opened.apart k 0 (omega (arith, within, size)) in
      let free = holds-append taken after (slice_index ls k) (ap (λ (t : List ℕ). holds t (slice_index ls k)) (sym split) ∙ apart) in
      ap (leaf_at now used) at_is
      ∙ same_leaf all now used (slice_index ls k) same.size (same.others (slice_index ls k) free.0)
      ∙ ap (λ (n : ℕ). leaf_at all n (slice_index ls k)) used_is)
]

-- a leaf with pages is its map
pub leaf_is_map : (all : List (List ℕ)) (used at : ℕ) → 1 ≤ used → leaf_at all used at ≡ map_at all 1 used at
leaf_is_map all used at some =
    let other : nat_eq used 0 ≡ false = ne_eqb used 0 (omega (arith, some)) in
    rw other refl

-- a leaf that was read right, by its place in the list of leaves
pub leaf_right : (all : List (List ℕ)) (old : Ref) (ps : List ℕ) (k : ℕ) → k < leaf_count old.pages
    → IsOk (map_at all 1 (used_in old.pages k) (slice_index ps k))
    → IsOk (map_at all 1 (used_in old.pages k) (slice_index (take (leaf_count old.pages) ps) k))
leaf_right all old ps k within right =
    ap (λ (a : ℕ). is_ok (map_at all 1 (used_in old.pages k) a)) (get_or-take (leaf_count old.pages) ps k 0 within) ∙ right

-- what a leaf names, or nothing behind the last one
pub leaf_from : (all : List (List ℕ)) (old : Ref) (ps xs : List ℕ) (k : ℕ) → length (take (leaf_count old.pages) ps) ≡ leaf_count old.pages → length xs ≡ old.pages
    → (k < length (take (leaf_count old.pages) ps)
    → map_at all 1 (used_in old.pages k) (slice_index (take (leaf_count old.pages) ps) k) ≡ Ok (piece k xs))
    → leaf_at all (used_in old.pages k) (slice_index ps k) ≡ Ok (piece k xs)
leaf_from all old ps xs k size count right = elim (cases_lt k (leaf_count old.pages)) [
  | inl within ↦
      leaf_is_map all (used_in old.pages k) (slice_index ps k) (omega (arith, within))
      ∙ ap (map_at all 1 (used_in old.pages k)) (sym (get_or-take (leaf_count old.pages) ps k 0 within))
      ∙ right (omega (arith, within, size))
  | inr behind ↦
      (let none : used_in old.pages k ≡ 0 = omega (arith, behind) in
      let empty : piece k xs ≡ [] = ap (take 252) (drop_all (252 * k) xs (omega (arith, behind, count))) in
      ap (λ (n : ℕ). leaf_at all n (slice_index ps k)) none ∙ ap Ok (sym empty))
]

-- one leaf more was read right, where the edit touches it
pub reads_next : (all : List (List ℕ)) (old : Ref) (ls : List ℕ) (cs : List (ℕ × ℕ)) (added : List ℕ) (k : ℕ) → ReadsLeaves all old ls cs added k
    → (k < leaf_count old.pages → is_touched old.pages cs added k ≡ true → IsOk (leaf_at all (used_in old.pages k) (slice_index ls k)))
    → ReadsLeaves all old ls cs added (k + 1)
reads_next all old ls cs added k before here j within early touched = elim (cases_lt j k) [
  | inl less ↦ before j within less touched
  | inr last ↦
      (let is : j ≡ k = omega (arith, last, early) in
      let inside : k < leaf_count old.pages = omega (arith, is, within) in
      let right = here inside (ap (is_touched old.pages cs added) (sym is) ∙ touched) in
      let map = leaf_is_map all (used_in old.pages k) (slice_index ls k) (omega (arith, inside)) in
      ap (λ (n : ℕ). is_ok (map_at all 1 (used_in old.pages n) (slice_index ls n))) is ∙ sym (ap is_ok map) ∙ right)
]

pub reads_more : (all : List (List ℕ)) (old : Ref) (ls : List ℕ) (cs : List (ℕ × ℕ)) (added : List ℕ) (k : ℕ) → ReadsLeaves all old ls cs added k
    → (is_touched old.pages cs added k ≡ true → IsOk (leaf_at all (used_in old.pages k) (slice_index ls k)))
    → ReadsLeaves all old ls cs added (k + 1)
reads_more all old ls cs added k before here = reads_next all old ls cs added k before (λ within. here)

-- a leaf that had to be read and isn't right
pub bad_place : (now : List (List ℕ)) (old : Ref) (ls : List ℕ) (cs here : List (ℕ × ℕ)) (added more : List ℕ) (k at used b : ℕ)
    → used ≡ used_in old.pages k → at ≡ slice_index ls k → (k < leaf_count old.pages → 1 ≤ length here + length more → is_touched old.pages cs added k ≡ true)
    → IsBadOne used at here more b now → IsBadPlace old ls cs added b now
bad_place now old ls cs here added more k at used b used_is at_is touched bad = elim (cases_eq used 0) [
  | inl none ↦ absurd (never (eq-eqb used 0 none) bad.bad)
  | inr some ↦
      (let within : k < leaf_count old.pages = omega (arith, some, used_is) in
      record {
        k = k;
        within = within;
        touched = touched within bad.some;
        bad =
            ap (λ (n : ℕ). map_at now 1 n (slice_index ls k)) (sym used_is)
            ∙ ap (map_at now 1 used) (sym at_is)
            ∙ sym (leaf_is_map now used at (omega (arith, some))) ∙ bad.bad ∙ ap Err (sym bad.is);
      })
]
  where
    never : nat_eq used 0 ≡ true → leaf_at now used at ≡ Err at → ⊥
    never none is = no_err (rw none at is)
      where
        no_err : ◌≡◌ {A = Result (List ℕ) ℕ} (Ok []) (Err at) → ⊥
        no_err wrong = cc

-- no block is left for a leaf that must be written
pub lacks_leaf : (all now : List (List ℕ)) (xs ys ls ms before after : List ℕ) (k : ℕ) → IsSoFar all now xs ys ls ms before after k → after ≡ []
    → piece k ys ≢ piece k xs → k < leaf_count (length ys) → LacksLeaf before xs ys
lacks_leaf all now xs ys ls ms before after k so_far none other within =
    let n = leaf_count (length ys) in
    let one : one_unless (same_list (piece k ys) (piece k xs)) ≡ 1 = ap one_unless (same_list-not (piece k ys) (piece k xs) other) in
    let over : (k + 1) + (n - (k + 1)) ≡ n = omega (arith, within) in
    let grows : differing (k + 1) xs ys ≤ differing ((k + 1) + (n - (k + 1))) xs ys = differing_grows (k + 1) (n - (k + 1)) xs ys in
    omega (arith, one, so_far.count, ap length none, differing_more k xs ys, grows, ap (λ (m : ℕ). differing m xs ys) over)

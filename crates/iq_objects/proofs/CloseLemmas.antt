-- Maps written when an object is closed, and what its reference names then.
use Rattle.std.specs.Prelude.{◌≡◌, ℕ, zero, suc, ◌+◌, ◌-◌, ◌*◌, ◌<◌, ◌≤◌, ◌==◌, min, Bool, true, false, ◌&&◌, cond, List, [], ◌∷◌, length, take, drop, slice_index, slice_set, nat_eq, nat_lt, nat_le, Option, Some, Result, Ok}
use Rattle.std.specs.List.{All, flat_map}
use Rattle.std.proofs.Common.{refl, sym, ap, subst, ◌∙◌, inl, inr, arith, length-set, get_or-set_same, get_or-set_other}
use Rattle.std.proofs.lemmas.List.{drop-drop, take-append-drop, length-drop}
use Rattle.std.proofs.lemmas.Bool.{cases_eq, cases_lt, eq-eqb, ne_eqb, lt-ltb, le-leb, lt-leb}
use Rattle.iq_outside.specs.declared.device.Device.{Ghosts}
use Rattle.iq_block_store.specs.Frames.{map_kind, framed, bytes_of}
use Rattle.iq_block_map.specs.Maps.{is_address, map_block}
use Rattle.iq_block_map.specs.Objects.{leaf_count, used_in, map_at, leaves_of, listed, joined, addresses_of, blocks_of, top_of}
use Rattle.iq_block_map.specs.Refs.{WhereTold, IsPlace, IsIn}
use Rattle.iq_block_map.specs.Takers.{taken_of, AreSpare}
use Rattle.iq_block_map.specs.Writing.{holds, HasPut}
use Rattle.iq_block_map.specs.Editing.{piece}
use Rattle.iq_block_map.specs.Leaves.{padded}
use Rattle.iq_block_map.specs.Laws.{times}
use Rattle.iq_block_map.proofs.LeafLemmas.{map_written}
use Rattle.iq_block_map.proofs.NamedLemmas.{all_set, map_names}
use Rattle.iq_block_map.proofs.NextLemmas.{behind_of, below_of, all_piece}
use Rattle.iq_block_map.proofs.StepLemmas.{piece_length, ok_is}
use Rattle.iq_block_map.proofs.ReachedLemmas.{object_whole, all_none}
use Rattle.iq_block_map.proofs.FrameLaws.{all_cons}
use Rattle.iq_block_map.proofs.PutLemmas.{taken_front}
use Rattle.iq_block_map.proofs.TopLemmas.{addresses_from, leaves_one, leaves_none, leaves_many, top_none, top_one}
use Rattle.iq_block_map.proofs.TradeLaws.{reaches_parts}
use Rattle.iq_block_map.proofs.RewriteLemmas.{put_told}
use Rattle.iq_objects.specs.Open.{Held, IsHeld, Stands, unwritten, root_of, ref_of, Moves}
use Rattle.iq_objects.specs.Opened.{IsClosed}
use Rattle.iq_objects.specs.Changes.{WritesMaps}
use Rattle.iq_objects.proofs.CountLemmas.{times-cons, times-set}
use Rattle.iq_objects.proofs.StandLemmas.{stands_put, taken_free}
use Rattle.iq_objects.proofs.PageLemmas.{place_is, held_times, no_zero}

-- the object with a leaf written
abbrev pub with_leaf : ℕ → ℕ → Held → Held
with_leaf k at o = record { pages = o.pages; leaves = slice_set o.leaves k at; top = o.top; lost = o.lost }

-- the object with the map above its leaves written
abbrev pub with_top : ℕ → Held → Held
with_top at o = record { pages = o.pages; leaves = o.leaves; top = at; lost = o.lost }

-- where the topmost map is written, all leaves are
no_top : (all : List (List ℕ)) (o : Held) (k : ℕ) → map_at all 2 (length o.leaves) o.top ≡ Ok o.leaves → k < length o.leaves
    → slice_index o.leaves k ≡ 0 → ⊥
no_top all o k is within none =
    let four : 4 ≤ slice_index o.leaves k = behind_of (length all) (slice_index o.leaves k) (map_names all 2 (length o.leaves) o.top o.leaves is k 0 within) in
    omega (arith, four, none)

some_same : (a b : List (List ℕ)) (x : Option (List (List ℕ))) → x ≡ Some a → x ≡ Some b → a ≡ b
some_same a b x one two = cc

pub leaf_stands : {D : Type 0} (g : Ghosts D) (before after : List ℕ) (old new : D) (o : Held) (k at : ℕ) → AreSpare (g.blocks old) before
    → before ≡ at ∷ after → HasPut g before after old new → IsPlace (g.blocks new) at → k < length o.leaves → slice_index o.leaves k ≡ 0
    → ((all : List (List ℕ)) → g.blocks old ≡ Some all
    → g.blocks new ≡ Some (slice_set all at (framed map_kind at 1 (flat_map bytes_of (padded (piece k o.pages))))))
    → WhereTold (g.blocks old) (Stands before o) → WhereTold (g.blocks new) (Stands after (with_leaf k at o))
leaf_stands g before after old new o k at spare first put place within none block stands now told =
    let there = put_told g before after old new now put told in
    let all = there.0 in
    let had = stands all there.1 in
    let is = stands_put g before after old new o put stands now told in
    let ys = piece k o.pages in
    let now_is : now ≡ slice_set all at (map_block 1 at (padded ys)) = some_same now (slice_set all at (map_block 1 at (padded ys))) (g.blocks new) told (block all there.1) in
    let few : length ys ≤ 252 = omega (arith, piece_length k o.pages) in
    let size : length now ≡ length all = there.2.size in
    let address : is_address (length now) at ≡ true = place_is (g.blocks new) at now place told in
    let inside : at < length all = omega (arith, below_of (length now) at address, size) in
    let right : map_at now 1 (used_in (length o.pages) k) at ≡ Ok ys
    = ap (λ (b : List (List ℕ)). map_at b 1 (used_in (length o.pages) k) at) now_is
    ∙ ap (λ (n : ℕ). map_at (slice_set all at (map_block 1 at (padded ys))) 1 n at) (sym (piece_length k o.pages))
    ∙ map_written all 1 at ys had.fits (omega arith) inside few (all_piece (λ a. is_address (length all) a ≡ true) o.pages k had.pages) in
    record {
      fits = is.fits;
      pages = is.pages;
      leaf_places = all_set (λ a. 1 ≤ a → is_address (length now) a ≡ true) o.leaves k at is.leaf_places (λ some. address);
      leaves = λ j inner some. elim (cases_eq j k) [
        | inl here ↦
            (let made : slice_index (slice_set o.leaves k at) j ≡ at = ap (slice_index (slice_set o.leaves k at)) here ∙ get_or-set_same o.leaves k at 0 within in
            ap (map_at now 1 (used_in (length o.pages) j)) made
            ∙ ap (λ (i : ℕ). map_at now 1 (used_in (length o.pages) i) at) here ∙ right ∙ ap (λ (i : ℕ). Ok (piece i o.pages)) (sym here))
        | inr other ↦
            (let same : slice_index (slice_set o.leaves k at) j ≡ slice_index o.leaves j = get_or-set_other o.leaves k j at 0 other in
            ap (map_at now 1 (used_in (length o.pages) j)) same ∙ is.leaves j (omega (arith, inner, length-set o.leaves k at)) (omega (arith, some, same)))
      ];
      top_place = is.top_place;
      top = λ some. absurd (no_top now o k (is.top some) within none);
      free_pages = is.free_pages;
      free_leaves = all_set (λ b. holds after b ≡ false) o.leaves k at is.free_leaves (taken_free (g.blocks old) before after at spare first);
      free_top = is.free_top;
      free_lost = is.free_lost;
    }

-- where no number is 0, each is a block
pub none_zero : (xs : List ℕ) → times 0 xs ≡ 0 → (k : ℕ) → k < length xs → 1 ≤ slice_index xs k
none_zero [] is k within = absurd (omega (arith, within))
none_zero (x ∷ xs) is zero within = elim (cases_eq x 0) [
  | inl none ↦ absurd (hit x xs none is)
  | inr some ↦ omega (arith, λ (z : x ≡ 0). some z)
]
  where
    hit : (x : ℕ) (xs : List ℕ) → x ≡ 0 → times 0 (x ∷ xs) ≡ 0 → ⊥
    hit x xs none is =
        let one : ◌≡◌ {A = ℕ} (cond (x == 0) 1 0) 1 = ap {B = ℕ} (λ (t : Bool). cond t 1 0) (eq-eqb x 0 none) in
        omega (arith, one, is, times-cons 0 x xs)
none_zero (x ∷ xs) is (suc k) within = none_zero xs (omega (arith, is, times-cons 0 x xs)) k (omega (arith, within))

-- where each is a block, none is 0
pub zero_none : (xs : List ℕ) → ((k : ℕ) → k < length xs → 1 ≤ slice_index xs k) → times 0 xs ≡ 0
zero_none [] each = refl
zero_none (x ∷ xs) each =
    let first : 1 ≤ x = each 0 (omega arith) in
    let out : ◌≡◌ {A = ℕ} (cond (x == 0) 1 0) 0 = ap {B = ℕ} (λ (t : Bool). cond t 1 0) (ne_eqb x 0 (λ is. never x first is)) in
    let rest = zero_none xs (λ k within. each (suc k) (omega (arith, within))) in
    omega (arith, out, rest, times-cons 0 x xs)
  where
    never : (x : ℕ) → 1 ≤ x → x ≡ 0 → ⊥
    never x some is = omega (arith, some, is)

pub top_stands : {D : Type 0} (g : Ghosts D) (before after : List ℕ) (old new : D) (o : Held) (at : ℕ) → AreSpare (g.blocks old) before
    → before ≡ at ∷ after → HasPut g before after old new → IsPlace (g.blocks new) at → times 0 o.leaves ≡ 0 → length o.leaves ≤ 252
    → ((all : List (List ℕ)) → g.blocks old ≡ Some all
    → g.blocks new ≡ Some (slice_set all at (framed map_kind at 2 (flat_map bytes_of (padded o.leaves)))))
    → WhereTold (g.blocks old) (Stands before o) → WhereTold (g.blocks new) (Stands after (with_top at o))
top_stands g before after old new o at spare first put place settled few block stands now told =
    let there = put_told g before after old new now put told in
    let all = there.0 in
    let had = stands all there.1 in
    let is = stands_put g before after old new o put stands now told in
    let ys = o.leaves in
    let now_is : now ≡ slice_set all at (map_block 2 at (padded ys)) = some_same now (slice_set all at (map_block 2 at (padded ys))) (g.blocks new) told (block all there.1) in
    let size : length now ≡ length all = there.2.size in
    let address : is_address (length now) at ≡ true = place_is (g.blocks new) at now place told in
    let inside : at < length all = omega (arith, below_of (length now) at address, size) in
    let right : map_at now 2 (length ys) at ≡ Ok ys
    = ap (λ (b : List (List ℕ)). map_at b 2 (length ys) at) now_is
    ∙ map_written all 2 at ys had.fits (omega arith) inside few (all_some all ys had.leaf_places (none_zero ys settled)) in
    record {
      fits = is.fits;
      pages = is.pages;
      leaf_places = is.leaf_places;
      leaves = is.leaves;
      top_place = λ some. address;
      top = λ some. right;
      free_pages = is.free_pages;
      free_leaves = is.free_leaves;
      free_top = taken_free (g.blocks old) before after at spare first;
      free_lost = is.free_lost;
    }
  where
    all_some : (all : List (List ℕ)) (ys : List ℕ) → All (λ a. 1 ≤ a → is_address (length all) a ≡ true) ys → ((k : ℕ) → k < length ys → 1 ≤ slice_index ys k)
        → All (λ a. is_address (length all) a ≡ true) ys
    all_some all [] each some k d within = absurd (omega (arith, within))
    all_some all (y ∷ ys) each some zero d within = each 0 d (omega arith) (some 0 (omega arith))
    all_some all (y ∷ ys) each some (suc k) d within =
        all_some all ys (λ j e inner. each (suc j) e (omega (arith, inner))) (λ j inner. some (suc j) (omega (arith, inner))) k d (omega (arith, within))

pub moves_leaf : (k at : ℕ) (before after : List ℕ) (o : Held) → before ≡ at ∷ after → k < length o.leaves → slice_index o.leaves k ≡ 0
    → Moves before after o (with_leaf k at o)
moves_leaf k at before after o first within none b some =
    let taken : taken_of before after ≡ at ∷ [] = taken_front before (at ∷ []) after first in
    let gone : ◌≡◌ {A = ℕ} (cond (slice_index o.leaves k == b) 1 0) 0 = ap {B = ℕ} (λ (x : ℕ). cond (x == b) 1 0) none ∙ no_zero b some in
    omega (arith, held_times b o, held_times b (with_leaf k at o), times-set b o.leaves k at within, gone, times-cons b at [], ap (times b) taken)

pub moves_top : (at : ℕ) (before after : List ℕ) (o : Held) → before ≡ at ∷ after → o.top ≡ 0 → Moves before after o (with_top at o)
moves_top at before after o first none b some =
    let taken : taken_of before after ≡ at ∷ [] = taken_front before (at ∷ []) after first in
    let gone : ◌≡◌ {A = ℕ} (cond (o.top == b) 1 0) 0 = ap {B = ℕ} (λ (x : ℕ). cond (x == b) 1 0) none ∙ no_zero b some in
    omega (arith, held_times b o, held_times b (with_top at o), gone, times-cons b at [], ap (times b) taken)

-- leaves that say the pieces of some pages name these pages
listed_pieces : (all : List (List ℕ)) (ls xs : List ℕ) → length ls ≡ leaf_count (length xs)
    → ((k : ℕ) → k < length ls → map_at all 1 (used_in (length xs) k) (slice_index ls k) ≡ Ok (piece k xs)) → listed false all (length xs) ls ≡ Ok xs
listed_pieces all [] xs count each = ap Ok (sym (nothing xs (omega (arith, count))))
  where
    nothing : (ys : List ℕ) → length ys ≡ 0 → ys ≡ []
    nothing [] is = refl
    nothing (y ∷ ys) is = absurd (omega (arith, is))
listed_pieces all (l ∷ ls) xs count each =
    let rest = drop 252 xs in
    let size : length rest ≡ length xs - 252 = length-drop 252 xs in
    let used : min 252 (length xs) ≡ used_in (length xs) 0 = omega arith in
    let first : map_at all 1 (min 252 (length xs)) l ≡ Ok (take 252 xs) = ap (λ (n : ℕ). map_at all 1 n l) used ∙ each 0 (omega arith) in
    let later : listed false all (length rest) ls ≡ Ok rest
    = listed_pieces all ls rest (omega (arith, count, size)) (λ k within.
    let same : used_in (length rest) k ≡ used_in (length xs) (suc k) = omega (arith, size) in
    let cut : 252 * k + 252 ≡ 252 * suc k = omega arith in
    let behind : piece (suc k) xs ≡ piece k rest = ap (λ (n : ℕ). take 252 (drop n xs)) (sym cut) ∙ sym (ap (take 252) (drop-drop (252 * k) 252 xs ∙ ap (λ (n : ℕ). drop n xs) (turn k))) in
    ap (λ (n : ℕ). map_at all 1 n (slice_index ls k)) same ∙ each (suc k) (omega (arith, within)) ∙ ap Ok behind) in
    ap (λ (r : Result (List ℕ) ℕ). joined (joined (Ok []) r) (listed false all (length xs - 252) ls)) first
    ∙ ap (joined (Ok (take 252 xs))) (ap (λ (n : ℕ). listed false all n ls) (sym size) ∙ later)
    ∙ ap Ok (take-append-drop 252 xs)
  where
    turn : (k : ℕ) → 252 + 252 * k ≡ 252 * k + 252
    turn k = omega arith

-- maps written one after another
pub writes_then : (old between new : Held) → WritesMaps old between → WritesMaps between new → WritesMaps old new
writes_then old between new first second = record {
  pages = second.pages ∙ first.pages;
  size = second.size ∙ first.size;
  leaves = λ k some.
      let one = first.leaves k some in
      second.leaves k (omega (arith, some, one)) ∙ one;
  top = λ some.
      let one = first.top some in
      second.top (omega (arith, some, one)) ∙ one;
}

-- where all maps are written, there is one above the leaves
pub settled_top : (o : Held) → unwritten o ≡ 0 → 252 < length o.pages → 1 ≤ o.top
settled_top o settled many = elim (cases_eq o.top 0) [
  | inl none ↦ absurd (never (lt-ltb 252 (length o.pages) many) (eq-eqb o.top 0 none))
  | inr some ↦ omega (arith, λ (z : o.top ≡ 0). some z)
]
  where
    never : nat_lt 252 (length o.pages) ≡ true → nat_eq o.top 0 ≡ true → ⊥
    never one two =
        let here : ◌≡◌ {A = ℕ} (cond (nat_lt 252 (length o.pages) && nat_eq o.top 0) 1 0) 1
        = ap {B = ℕ} (λ (t : Bool). cond (t && nat_eq o.top 0) 1 0) one ∙ ap {B = ℕ} (λ (t : Bool). cond t 1 0) two in
        omega (arith, here, settled)

pub root_many : (o : Held) → 252 < length o.pages → root_of o ≡ o.top
root_many o many = rw (ne_eqb (length o.pages) 0 (λ is. few is), lt-not_leb (length o.pages) 252 many) refl
  where
    few : length o.pages ≡ 0 → ⊥
    few is = omega (arith, is, many)

    lt-not_leb : (n m : ℕ) → m < n → nat_le n m ≡ false
    lt-not_leb n m more = lt-leb n m more

pub root_one : (o : Held) → 1 ≤ length o.pages → length o.pages ≤ 252 → root_of o ≡ slice_index o.leaves 0
root_one o some few = rw (ne_eqb (length o.pages) 0 (λ is. none is), le-leb (length o.pages) 252 few) refl
  where
    none : length o.pages ≡ 0 → ⊥
    none is = omega (arith, is, some)

one_item : (xs : List ℕ) → length xs ≡ 1 → slice_index xs 0 ∷ [] ≡ xs
one_item [] is = absurd (omega (arith, is))
one_item (x ∷ []) is = refl
one_item (x ∷ y ∷ xs) is = absurd (omega (arith, is))

no_item : (xs : List ℕ) → length xs ≡ 0 → [] ≡ xs
no_item [] is = refl
no_item (x ∷ xs) is = absurd (omega (arith, is))

leaves_closed : (left : List ℕ) (o : Held) (all : List (List ℕ)) → IsHeld o → Stands left o all → unwritten o ≡ 0 → leaves_of all (ref_of o) ≡ Ok o.leaves
leaves_closed left o all held stands settled = elim (cases_lt 252 (length o.pages)) [
  | inl many ↦
      (leaves_many all (ref_of o) many
      ∙ ap (map_at all 2 (leaf_count (length o.pages))) (root_many o many)
      ∙ ap (λ (n : ℕ). map_at all 2 n o.top) (sym held.size)
      ∙ stands.top (settled_top o settled many))
  | inr less ↦ (elim (cases_lt 0 (length o.pages)) [
    | inl some ↦
        (leaves_one all (ref_of o) (omega (arith, some)) less
        ∙ ap (λ (x : ℕ). Ok (x ∷ [])) (root_one o (omega (arith, some)) less)
        ∙ ap Ok (one_item o.leaves (omega (arith, held.size, some, less))))
    | inr none ↦ leaves_none all (ref_of o) (omega (arith, none)) ∙ ap Ok (no_item o.leaves (omega (arith, held.size, none)))
  ])
]

-- what a closed object's reference names
pub closed_is : (left : List ℕ) (o : Held) (all : List (List ℕ)) → IsHeld o → Stands left o all → unwritten o ≡ 0 → IsClosed (ref_of o) o all
closed_is left o all held stands settled =
    let ls = leaves_closed left o all held stands settled in
    let some : times 0 o.leaves ≡ 0 = omega (arith, settled) in
    let named : listed false all (length o.pages) o.leaves ≡ Ok o.pages
    = listed_pieces all o.leaves o.pages held.size (λ k within. stands.leaves k within (none_zero o.leaves some k within)) in
    let pages : addresses_of all (ref_of o) ≡ Ok o.pages = addresses_from all (ref_of o) o.leaves (Ok o.pages) ls named in
    let parts = reaches_parts all (ref_of o) o.leaves o.pages ls pages in
    record {
      pages = pages;
      blocks = parts.blocks;
      reached = parts.is;
      apart = λ spare stood.
          let P : ℕ → Type 0 = λ b. holds spare b ≡ false in
          let top : All P (top_of true (ref_of o)) = elim (cases_lt 252 (length o.pages)) [
            | inl many ↦ subst (All P) (sym (top_one (ref_of o) many ∙ ap (λ (x : ℕ). x ∷ []) (root_many o many))) (all_cons P o.top [] stood.free_top (all_none P))
            | inr less ↦ subst (All P) (sym (top_none (ref_of o) less)) (all_none P)
          ] in
          let whole = object_whole P all (ref_of o) o.leaves o.pages ls pages top stood.free_leaves stood.free_pages in
          subst (All P) (ok_is whole.0 parts.blocks (blocks_of all (ref_of o)) whole.1 parts.is) whole.2;
      each = λ b some. elim (cases_lt 252 (length o.pages)) [
        | inl many ↦
            (let top : times b (top_of true (ref_of o)) ≡ times b (o.top ∷ []) = ap (times b) (top_one (ref_of o) many ∙ ap (λ (x : ℕ). x ∷ []) (root_many o many)) in
            omega (arith, held_times b o, parts.parts b, top, times-cons b o.top []))
        | inr less ↦
            (let top : times b (top_of true (ref_of o)) ≡ 0 = ap (times b) (top_none (ref_of o) less) in
            let gone : ◌≡◌ {A = ℕ} (cond (o.top == b) 1 0) 0 = ap {B = ℕ} (λ (x : ℕ). cond (x == b) 1 0) (held.low less) ∙ no_zero b some in
            omega (arith, held_times b o, parts.parts b, top, gone))
      ];
    }

-- and that it may stand in the store
pub closed_in : (told : Option (List (List ℕ))) (left : List ℕ) (o : Held) → IsHeld o → WhereTold told (Stands left o) → unwritten o ≡ 0
    → IsIn told (ref_of o)
closed_in told left o held stands settled =
    let some : times 0 o.leaves ≡ 0 = omega (arith, settled) in
    record {
      few = held.few;
      above = λ any. elim (cases_lt 252 (length o.pages)) [
        | inl many ↦ (let four = held.top_above (settled_top o settled many) in omega (arith, four, root_many o many))
        | inr less ↦
            (let here : 1 ≤ slice_index o.leaves 0 = none_zero o.leaves some 0 (omega (arith, any, held.size)) in
            let four = held.leaves_above 0 0 (omega (arith, any, held.size)) here in
            omega (arith, four, root_one o any less))
      ];
      below = λ any all is. elim (cases_lt 252 (length o.pages)) [
        | inl many ↦
            (let place = below_of (length all) o.top ((stands all is).top_place (settled_top o settled many)) in
            omega (arith, place, root_many o many))
        | inr less ↦
            (let here : 1 ≤ slice_index o.leaves 0 = none_zero o.leaves some 0 (omega (arith, any, held.size)) in
            let place = below_of (length all) (slice_index o.leaves 0) ((stands all is).leaf_places 0 0 (omega (arith, any, held.size)) here) in
            omega (arith, place, root_one o any less))
      ];
    }

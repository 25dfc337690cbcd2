-- Leaves written one after the other.
use Rattle.std.specs.Prelude.{◌≡◌, ◌⊎◌, ℕ, zero, suc, ◌+◌, ◌-◌, ◌*◌, ◌<◌, ◌≤◌, min, Bool, true, false, List, [], ◌∷◌, ◌++◌, length, take, drop, nat_eq, nat_le, ◌||◌, slice_index, slice_set, if◌then◌else◌, Result, Ok, Err, ◌≢◌}
use Rattle.std.proofs.Common.{refl, sym, ap, subst, ◌∙◌, inl, inr, arith, append_assoc, append-nil, get_or-set_other, get_or-set_same}
use Rattle.std.proofs.lemmas.List.{take_at, drop_at, take_all, take_more_set, length-take, length-drop, drop-drop, drop-take, take-take, take-append-drop, get_or-take, get_or-drop}
use Rattle.std.proofs.lemmas.Bool.{cases_lt, cases_Bool, eqb-true, and_parts, eq-eqb}
use Rattle.iq_outside.specs.Devices.{block_of}
use Rattle.iq_block_map.specs.Maps.{places, is_address, is_map}
use Rattle.iq_block_map.specs.Objects.{leaf_count, used_in, map_at, joined, front, listed}
use Rattle.iq_block_map.specs.Writing.{holds}
use Rattle.iq_block_map.specs.Editing.{piece, fresh, differing, same_list, one_unless, maps_needed}
use Rattle.iq_block_map.proofs.MapLemmas.{length-places}

-- a map reads the same where its block is the same
pub map_same : (all now : List (List ℕ)) (level used at : ℕ) → length now ≡ length all → block_of now at ≡ block_of all at
    → map_at now level used at ≡ map_at all level used at
map_same all now level used at size same = rw (size, same) refl

pub listed_same : (maps : Bool) (all now : List (List ℕ)) (pages : ℕ) (ls : List ℕ) → length now ≡ length all
    → ((j : ℕ) → j < length ls → block_of now (slice_index ls j) ≡ block_of all (slice_index ls j))
    → listed maps now pages ls ≡ listed maps all pages ls
listed_same maps all now pages [] size same = refl
listed_same maps all now pages (l ∷ ls) size same =
    let here = map_same all now 1 (min 252 pages) l size (same 0 (omega arith)) in
    let rest = listed_same maps all now (pages - 252) ls size (λ j within. same (suc j) (omega (arith, within))) in
    ap (λ (r : Result (List ℕ) ℕ). joined (joined (Ok (front maps l)) r) (listed maps now (pages - 252) ls)) here
    ∙ ap (joined (joined (Ok (front maps l)) (map_at all 1 (min 252 pages) l))) rest

-- both parts of what was joined
pub both_parts : (a b : Result (List ℕ) ℕ) (xs : List ℕ) → joined a b ≡ Ok xs → (ys : List ℕ) × (zs : List ℕ) × (a ≡ Ok ys) × (b ≡ Ok zs) × (xs ≡ ys ++ zs)
both_parts (Err e) b xs is = cc
both_parts (Ok ys) (Err e) xs is = cc
both_parts (Ok ys) (Ok zs) xs is = (ys, zs, refl, refl, cc)

pub ok_is : (xs ys : List ℕ) (r : Result (List ℕ) ℕ) → r ≡ Ok xs → r ≡ Ok ys → xs ≡ ys
ok_is xs ys r a b = cc

joined_ok : (a b : Result (List ℕ) ℕ) (ys zs : List ℕ) → a ≡ Ok ys → b ≡ Ok zs → joined a b ≡ Ok (ys ++ zs)
joined_ok a b ys zs is_a is_b = ap (λ (r : Result (List ℕ) ℕ). joined r b) is_a ∙ ap (joined (Ok ys)) is_b

-- one more leaf
pub listed_push : (all : List (List ℕ)) (pages at : ℕ) (ls xs ys : List ℕ) → listed false all pages ls ≡ Ok xs
    → map_at all 1 (used_in pages (length ls)) at ≡ Ok ys → listed false all pages (ls ++ at ∷ []) ≡ Ok (xs ++ ys)
listed_push all pages at [] xs ys is here =
    let used : min 252 pages ≡ used_in pages 0 = omega arith in
    let none : [] ≡ xs = ok_is [] xs (Ok []) refl is in
    let read : map_at all 1 (min 252 pages) at ≡ Ok ys = ap (λ (n : ℕ). map_at all 1 n at) used ∙ here in
    joined_ok (joined (Ok []) (map_at all 1 (min 252 pages) at)) (Ok []) ys [] (joined_ok (Ok []) (map_at all 1 (min 252 pages) at) [] ys refl read) refl
    ∙ ap Ok (append-nil ys ∙ ap (λ (t : List ℕ). t ++ ys) none)
listed_push all pages at (l ∷ ls) xs ys is here =
    let parts = both_parts (joined (Ok []) (map_at all 1 (min 252 pages) l)) (listed false all (pages - 252) ls) xs is in
    let used : used_in pages (suc (length ls)) ≡ used_in (pages - 252) (length ls) = omega arith in
    let rest : listed false all (pages - 252) (ls ++ at ∷ []) ≡ Ok (parts.1 ++ ys)
    = listed_push all (pages - 252) at ls parts.1 ys parts.3 (ap (λ (n : ℕ). map_at all 1 n at) (sym used) ∙ here) in
    joined_ok (joined (Ok []) (map_at all 1 (min 252 pages) l)) (listed false all (pages - 252) (ls ++ at ∷ [])) parts.0 (parts.1 ++ ys) parts.2 rest
    ∙ ap Ok (sym (append_assoc parts.0 parts.1 ys) ∙ ap (λ (t : List ℕ). t ++ ys) (sym parts.4))

pub length_map : (all : List (List ℕ)) (level used at : ℕ) (xs : List ℕ) → map_at all level used at ≡ Ok xs → used ≤ 252 → length xs ≡ used
length_map all level used at xs is few = length_if (is_map (length all) level used at (block_of all at)) is
  where
    length_if : (b : Bool) → (if b then Ok (take used (places (block_of all at))) else Err at) ≡ Ok xs → length xs ≡ used
    length_if true same =
        let is : take used (places (block_of all at)) ≡ xs = cc in
        ap length (sym is) ∙ length-take used (places (block_of all at)) ∙ omega (arith, length-places (block_of all at), few)
    length_if false same = cc

piece_front : (xs ys zs : List ℕ) → xs ≡ ys ++ zs → (length ys ≡ 252) ⊎ ((length ys ≤ 252) × (zs ≡ [])) → piece 0 xs ≡ ys
piece_front xs ys zs is (inl full) =
    let none : 252 * 0 ≡ 0 = omega arith in
    ap (λ (n : ℕ). take 252 (drop n xs)) none ∙ ap (take 252) is ∙ take_at ys zs 252 full
piece_front xs ys zs is (inr part) =
    let none : 252 * 0 ≡ 0 = omega arith in
    let only : xs ≡ ys = is ∙ ap (λ (t : List ℕ). ys ++ t) part.1 ∙ append-nil ys in
    ap (λ (n : ℕ). take 252 (drop n xs)) none ∙ ap (take 252) only ∙ take_all 252 ys part.0

piece_behind : (xs ys zs : List ℕ) (k : ℕ) → xs ≡ ys ++ zs → length ys ≡ 252 → piece (suc k) xs ≡ piece k zs
piece_behind xs ys zs k is full =
    let split : 252 * suc k ≡ 252 + 252 * k = omega arith in
    ap (λ (n : ℕ). take 252 (drop n xs)) split
    ∙ ap (take 252) (sym (drop-drop (252 * k) 252 xs))
    ∙ ap (λ (t : List ℕ). take 252 (drop (252 * k) (drop 252 t))) is
    ∙ ap (λ (t : List ℕ). take 252 (drop (252 * k) t)) (drop_at ys zs 252 full)

no_leaves : (ls zs : List ℕ) (all : List (List ℕ)) (pages : ℕ) → length ls ≡ 0 → listed false all pages ls ≡ Ok zs → zs ≡ []
no_leaves [] zs all pages none is = ok_is zs [] (Ok []) is refl
no_leaves (l ∷ ls) zs all pages none is = absurd (omega (arith, none))

-- a leaf of those that name some pages names a piece of them
pub listed_at : (all : List (List ℕ)) (pages k : ℕ) (ls xs : List ℕ) → listed false all pages ls ≡ Ok xs → length ls ≤ leaf_count pages → k < length ls
    → map_at all 1 (used_in pages k) (slice_index ls k) ≡ Ok (piece k xs)
listed_at all pages k [] xs is few within = absurd (omega (arith, within))
listed_at all pages zero (l ∷ ls) xs is few within =
    let parts = both_parts (joined (Ok []) (map_at all 1 (min 252 pages) l)) (listed false all (pages - 252) ls) xs is in
    let first = both_parts (Ok []) (map_at all 1 (min 252 pages) l) parts.0 parts.2 in
    let used : used_in pages 0 ≡ min 252 pages = omega arith in
    let front_is : parts.0 ≡ first.1 = first.4 ∙ ap (λ (t : List ℕ). t ++ first.1) (sym (ok_is [] first.0 (Ok []) refl first.2)) in
    let size : length parts.0 ≡ min 252 pages = ap length front_is ∙ length_map all 1 (min 252 pages) l first.1 first.3 (omega arith) in
    let whole : piece 0 xs ≡ parts.0 = piece_front xs parts.0 parts.1 parts.4 (elim (cases_lt pages 252) [
      | inl part ↦ inr (omega (arith, size), no_leaves ls parts.1 all (pages - 252) (omega (arith, few, part)) parts.3)
      | inr full ↦ inl (omega (arith, size, full))
    ]) in
    ap (λ (n : ℕ). map_at all 1 n l) used ∙ first.3 ∙ ap Ok (sym front_is ∙ sym whole)
listed_at all pages (suc k) (l ∷ ls) xs is few within =
    let parts = both_parts (joined (Ok []) (map_at all 1 (min 252 pages) l)) (listed false all (pages - 252) ls) xs is in
    let used : used_in pages (suc k) ≡ used_in (pages - 252) k = omega arith in
    let first = both_parts (Ok []) (map_at all 1 (min 252 pages) l) parts.0 parts.2 in
    let front_is : parts.0 ≡ first.1 = first.4 ∙ ap (λ (t : List ℕ). t ++ first.1) (sym (ok_is [] first.0 (Ok []) refl first.2)) in
    let size : length parts.0 ≡ 252 = ap length front_is ∙ length_map all 1 (min 252 pages) l first.1 first.3 (omega arith) ∙ omega (arith, few, within) in
    let behind : piece (suc k) xs ≡ piece k parts.1 = piece_behind xs parts.0 parts.1 k parts.4 size in
    ap (λ (n : ℕ). map_at all 1 n (slice_index ls k)) used
    ∙ listed_at all (pages - 252) k ls parts.1 parts.3 (omega (arith, few)) (omega (arith, within))
    ∙ ap Ok (sym behind)

-- one more item, and whether the other list has it in the same place
pub fresh_push : (xs ys : List ℕ) (y : ℕ) → fresh xs (ys ++ y ∷ []) ≡ fresh xs ys ++ (if nat_eq (slice_index xs (length ys)) y then [] else y ∷ [])
fresh_push xs [] y = append-nil (if nat_eq (slice_index xs 0) y then [] else y ∷ [])
fresh_push xs (z ∷ ys) y =
    let here = if nat_eq (slice_index xs 0) z then [] else z ∷ [] in
    let last : slice_index (drop 1 xs) (length ys) ≡ slice_index xs (suc (length ys)) = get_or-drop 1 xs (length ys) 0 ∙ ap (slice_index xs) (omega arith) in
    ap (λ (t : List ℕ). here ++ t) (fresh_push (drop 1 xs) ys y)
    ∙ sym (append_assoc here (fresh (drop 1 xs) ys) (if nat_eq (slice_index (drop 1 xs) (length ys)) y then [] else y ∷ []))
    ∙ ap (λ (n : ℕ). (here ++ fresh (drop 1 xs) ys) ++ (if nat_eq n y then [] else y ∷ [])) last

-- the leaves up to one are written: of a store's blocks then and now, the pages before and after, the leaves before and after, and
-- the blocks that might be taken before and may be now
pub record IsSoFar (all now : List (List ℕ)) (xs ys ls ms before after : List ℕ) (k : ℕ) : Type 0 where
  pub size : length now ≡ length all
  pub listed : listed false now (length ys) (take k ms) ≡ Ok (take (252 * k) ys)
  pub taken : before ≡ fresh ls (take k ms) ++ after
  pub count : length before ≡ differing k xs ys + length after
  pub named : (j : ℕ) → j < k → is_address (length all) (slice_index ms j) ≡ true
  pub apart : (j : ℕ) → j < k → holds after (slice_index ms j) ≡ false
  pub shares : (j : ℕ) → j < k → piece j ys ≡ piece j xs → slice_index ms j ≡ slice_index ls j
  pub differs : (j : ℕ) → j < k → slice_index ms j ≡ slice_index ls j → piece j ys ≡ piece j xs

pub so_far_none : (all : List (List ℕ)) (xs ys ls before : List ℕ) → IsSoFar all all xs ys ls ls before before 0
so_far_none all xs ys ls before = record {
  size = refl;
  listed = ap (λ (n : ℕ). Ok (take n ys)) none;
  taken = refl;
  count = omega arith;
  named = λ j within. absurd (omega (arith, within));
  apart = λ j within. absurd (omega (arith, within));
  shares = λ j within. absurd (omega (arith, within));
  differs = λ j within. absurd (omega (arith, within));
}
  where
    none : 0 ≡ 252 * 0
    none = omega arith

pub piece_length : (k : ℕ) (ys : List ℕ) → length (piece k ys) ≡ used_in (length ys) k
piece_length k ys = length-take 252 (drop (252 * k) ys) ∙ ap (min 252) (length-drop (252 * k) ys)

pub take_piece : (k : ℕ) (ys : List ℕ) → take (252 * k) ys ++ piece k ys ≡ take (252 * (k + 1)) ys
take_piece k ys =
    let more : 252 * (k + 1) ≡ 252 * k + 252 = omega arith in
    let whole = take (252 * k + 252) ys in
    ap (λ (t : List ℕ). t ++ piece k ys) (sym (take-take (252 * k) (252 * k + 252) ys (omega arith)))
    ∙ ap (λ (t : List ℕ). take (252 * k) whole ++ t) (sym (drop-take (252 * k) 252 ys))
    ∙ take-append-drop (252 * k) whole
    ∙ ap (λ (n : ℕ). take n ys) (sym more)

-- one more leaf
pub differing_more : (k : ℕ) (xs ys : List ℕ) → differing (k + 1) xs ys ≡ differing k xs ys + one_unless (same_list (piece k ys) (piece k xs))
differing_more k xs ys = ap (λ (n : ℕ). differing n xs ys) more
  where
    more : k + 1 ≡ suc k
    more = omega arith

-- lists are the same where they are told so
pub same_list-self : (xs : List ℕ) → same_list xs xs ≡ true
same_list-self [] = refl
same_list-self (x ∷ xs) = rw (eq-eqb x x refl) (same_list-self xs)

pub same_list-is : (xs ys : List ℕ) → same_list xs ys ≡ true → xs ≡ ys
same_list-is [] [] same = refl
same_list-is [] (y ∷ ys) same = cc
same_list-is (x ∷ xs) [] same = cc
same_list-is (x ∷ xs) (y ∷ ys) same =
    let parts = and_parts (nat_eq x y) (same_list xs ys) same in
    ap (λ (n : ℕ). n ∷ xs) (eqb-true x y parts.0) ∙ ap (λ (t : List ℕ). y ∷ t) (same_list-is xs ys parts.1)

pub same_list-not : (xs ys : List ℕ) → xs ≢ ys → same_list xs ys ≡ false
same_list-not xs ys other = elim (cases_Bool (same_list xs ys)) [
  | inl same ↦ absurd (other (same_list-is xs ys same))
  | inr not_same ↦ not_same
]

-- the first leaves have at most as many others as more of them
pub differing_grows : (k n : ℕ) (xs ys : List ℕ) → differing k xs ys ≤ differing (k + n) xs ys
differing_grows k zero xs ys =
    let none : k + 0 ≡ k = omega arith in
    omega (arith, ap (λ (m : ℕ). differing m xs ys) none)
differing_grows k (suc n) xs ys =
    let more : k + suc n ≡ suc (k + n) = omega arith in
    let rest = differing_grows k n xs ys in
    omega (arith, rest, ap (λ (m : ℕ). differing m xs ys) more)

-- what holds of each leaf before one, and of that one, holds of each up to it
each_more : (P : ℕ → Type 0) (k : ℕ) → ((j : ℕ) → j < k → P j) → P k → (j : ℕ) → j < k + 1 → P j
each_more P k before here j within = elim (cases_lt j k) [
  | inl less ↦ before j less
  | inr last ↦ (let is : k ≡ j = omega (arith, last, within) in subst P is here)
]

-- the leaves after one of them was put in its place
put_before : (ms : List ℕ) (k made j : ℕ) → j < k → slice_index (slice_set ms k made) j ≡ slice_index ms j
put_before ms k made j before = get_or-set_other ms k j made 0 (omega (arith, before))

put_here : (ms : List ℕ) (k made : ℕ) → k < length ms → slice_index (slice_set ms k made) k ≡ made
put_here ms k made within = get_or-set_same ms k made 0 within

-- what one more leaf brings: it reads as its piece, it is fresh or not, and it won't be taken
pub record NextLeaf (all now : List (List ℕ)) (xs ys ls after after' : List ℕ) (k made : ℕ) : Type 0 where
  pub reads : map_at now 1 (used_in (length ys) k) made ≡ Ok (piece k ys)
  pub taken : after ≡ (if nat_eq (slice_index ls k) made then [] else made ∷ []) ++ after'
  pub count : length after ≡ one_unless (same_list (piece k ys) (piece k xs)) + length after'
  pub named : is_address (length all) made ≡ true
  pub apart : holds after' made ≡ false
  pub shares : piece k ys ≡ piece k xs → made ≡ slice_index ls k
  pub differs : made ≡ slice_index ls k → piece k ys ≡ piece k xs

-- the other leaves stay as they were
pub record KeepsLeaves (now now' : List (List ℕ)) (ms after after' : List ℕ) (k : ℕ) : Type 0 where
  pub size : length now' ≡ length now
  pub blocks : (j : ℕ) → j < k → block_of now' (slice_index ms j) ≡ block_of now (slice_index ms j)
  pub apart : (b : ℕ) → holds after b ≡ false → holds after' b ≡ false

pub so_far_more : (all now now' : List (List ℕ)) (xs ys ls ms before after after' : List ℕ) (k made : ℕ) → k < length ms → k < 252
    → IsSoFar all now xs ys ls ms before after k → KeepsLeaves now now' ms after after' k → NextLeaf all now' xs ys ls after after' k made
    → IsSoFar all now' xs ys ls (slice_set ms k made) before after' (k + 1)
so_far_more all now now' xs ys ls ms before after after' k made within few so_far keeps next =
    let front : take (k + 1) (slice_set ms k made) ≡ take k ms ++ made ∷ [] = take_more_set ms k made within in
    let size : length (take k ms) ≡ k = length-take k ms ∙ omega (arith, within) in
    let same : listed false now' (length ys) (take k ms) ≡ listed false now (length ys) (take k ms)
    = listed_same false now now' (length ys) (take k ms) keeps.size
    (λ j inside.
    let early : j < k = omega (arith, inside, size) in
    let at : slice_index (take k ms) j ≡ slice_index ms j = get_or-take k ms j 0 early in
    ap (block_of now') at ∙ keeps.blocks j early ∙ ap (block_of now) (sym at)) in
    let read : map_at now' 1 (used_in (length ys) (length (take k ms))) made ≡ Ok (piece k ys)
    = ap (λ (n : ℕ). map_at now' 1 (used_in (length ys) n) made) size ∙ next.reads in
    record {
      size = keeps.size ∙ so_far.size;
      listed =
          ap (listed false now' (length ys)) front
          ∙ listed_push now' (length ys) made (take k ms) (take (252 * k) ys) (piece k ys) (same ∙ so_far.listed) read
          ∙ ap Ok (take_piece k ys);
      taken =
          so_far.taken
          ∙ ap (λ (t : List ℕ). fresh ls (take k ms) ++ t) next.taken
          ∙ sym (append_assoc (fresh ls (take k ms)) (if nat_eq (slice_index ls k) made then [] else made ∷ []) after')
          ∙ ap (λ (n : ℕ). (fresh ls (take k ms) ++ (if nat_eq (slice_index ls n) made then [] else made ∷ [])) ++ after') (sym size)
          ∙ ap (λ (t : List ℕ). t ++ after') (sym (fresh_push ls (take k ms) made))
          ∙ ap (λ (t : List ℕ). fresh ls t ++ after') (sym front);
      count = omega (arith, so_far.count, next.count, differing_more k xs ys);
      named = each_more (λ j. is_address (length all) (slice_index (slice_set ms k made) j) ≡ true) k
          (λ j early. ap (is_address (length all)) (put_before ms k made j early) ∙ so_far.named j early)
          (ap (is_address (length all)) (put_here ms k made within) ∙ next.named);
      apart = each_more (λ j. holds after' (slice_index (slice_set ms k made) j) ≡ false) k
          (λ j early. ap (holds after') (put_before ms k made j early) ∙ keeps.apart (slice_index ms j) (so_far.apart j early))
          (ap (holds after') (put_here ms k made within) ∙ next.apart);
      shares = each_more (λ j. piece j ys ≡ piece j xs → slice_index (slice_set ms k made) j ≡ slice_index ls j) k
          (λ j early is. put_before ms k made j early ∙ so_far.shares j early is)
          (λ is. put_here ms k made within ∙ next.shares is);
      differs = each_more (λ j. slice_index (slice_set ms k made) j ≡ slice_index ls j → piece j ys ≡ piece j xs) k
          (λ j early is. so_far.differs j early (sym (put_before ms k made j early) ∙ is))
          (λ is. next.differs (sym (put_here ms k made within) ∙ is));
    }

one_few : (b : Bool) → one_unless b ≤ 1
one_few true = omega arith
one_few false = omega arith

differing_few : (n : ℕ) (xs ys : List ℕ) → differing n xs ys ≤ n
differing_few zero xs ys = omega arith
differing_few (suc n) xs ys =
    let rest = differing_few n xs ys in
    omega (arith, rest, one_few (same_list (piece n ys) (piece n xs)))

-- an object needs no more maps than it has leaves, and one
pub needed_few : (xs ys : List ℕ) → maps_needed xs ys ≤ leaf_count (length ys) + 1
needed_few xs ys = omega (arith, differing_few (leaf_count (length ys)) xs ys, one_few (nat_le (length ys) 252 || same_list ys xs))

-- Leaves as they are read and written.
use Rattle.std.specs.Prelude.{◌≡◌, ◌≢◌, ℕ, zero, suc, ◌+◌, ◌-◌, ◌^◌, ◌<◌, ◌≤◌, Bool, true, List, [], ◌∷◌, ◌++◌, length, take, drop, replicate, nat_eq, slice_index, slice_index_or, slice_set, Result, Ok}
use Rattle.std.specs.List.{All, list_all, flat_map}
use Rattle.std.proofs.Common.{refl, sym, ap, ◌∙◌, inl, inr, arith, append-nil, length-append, length-set, get_or-set_same}
use Rattle.std.proofs.lemmas.List.{take_at, drop_at, take-append-drop, length-take, length-drop, length-replicate, get_or_append_left, get_or-append_right, get_or-replicate, get_or_at}
use Rattle.std.proofs.lemmas.Bool.{and_parts, eqb-true, eq-eqb, cases_lt, ltb-true, leb-true}
use Rattle.iq_outside.specs.Devices.{block_of}
use Rattle.iq_block_store.specs.Frames.{map_kind, bytes_of, header, numbers_at}
use Rattle.iq_block_store.proofs.FrameLemmas.{has_header-framed, framed_level, length-header, numbers_back}
use Rattle.iq_block_map.specs.Maps.{places, is_address, are_places, is_map, map_block}
use Rattle.iq_block_map.specs.Refs.{MayBe}
use Rattle.iq_block_map.specs.Objects.{map_at}
use Rattle.iq_block_map.specs.Editing.{replaced_from, AreChanges}
use Rattle.iq_block_map.specs.Leaves.{padded}
use Rattle.iq_block_map.proofs.EditLemmas.{length-replaced, no_changes}

zeros_of : (zs : List ℕ) → list_all (nat_eq 0) zs ≡ true → zs ≡ replicate (length zs) 0
zeros_of [] are = refl
zeros_of (z ∷ zs) are =
    let parts = and_parts (nat_eq 0 z) (list_all (nat_eq 0) zs) are in
    ap (λ (n : ℕ). n ∷ zs) (sym (eqb-true 0 z parts.0)) ∙ ap (λ (t : List ℕ). 0 ∷ t) (zeros_of zs parts.1)

-- the numbers of a map are those in use, and zeros
pub padded_of : (count used : ℕ) (ps : List ℕ) → MayBe count used ps → used ≤ 252 → ps ≡ padded (take used ps)
padded_of count used ps may fits =
    let zeros = zeros_of (drop used ps) (and_parts _ _ may.places).1 in
    let size : length (drop used ps) ≡ 252 - length (take used ps) = omega (arith, may.size, length-drop used ps, length-take used ps, fits) in
    sym (take-append-drop used ps) ∙ ap (λ (t : List ℕ). take used ps ++ t) (zeros ∙ ap (λ (n : ℕ). replicate n 0) size)

pub length-padded : (ys : List ℕ) → length ys ≤ 252 → length (padded ys) ≡ 252
length-padded ys fits = length-append ys (replicate (252 - length ys) 0) ∙ omega (arith, length-replicate {A = ℕ} (252 - length ys) 0, fits)

all_from : (P : ℕ → Bool) (ys : List ℕ) → All (λ y. P y ≡ true) ys → list_all P ys ≡ true
all_from P [] are = refl
all_from P (y ∷ ys) are =
    let head : P y ≡ true = are 0 0 (omega arith) in
    let rest : list_all P ys ≡ true = all_from P ys (λ k d within. are (suc k) d (omega (arith, within))) in
    rw (head, rest) refl

zeros_pass : (n : ℕ) → list_all (nat_eq 0) (replicate n 0) ≡ true
zeros_pass zero = refl
zeros_pass (suc n) = zeros_pass n

-- numbers that name blocks are right numbers of a map
pub padded_places : (count : ℕ) (ys : List ℕ) → All (λ y. is_address count y ≡ true) ys → are_places count (length ys) (padded ys) ≡ true
padded_places count ys are =
    let zeros : List ℕ = replicate (252 - length ys) 0 in
    rw (take_at ys zeros (length ys) refl, drop_at ys zeros (length ys) refl, all_from (is_address count) ys are, zeros_pass (252 - length ys)) refl

fits_of : (count : ℕ) (ys : List ℕ) → count < 2 ^ 32 → length ys ≤ 252 → All (λ y. is_address count y ≡ true) ys → All (λ y. y < 2 ^ 32) (padded ys)
fits_of count ys small few are k d within = elim (cases_lt k (length ys)) [
  | inl named ↦
      (let at : slice_index_or (padded ys) k d ≡ slice_index_or ys k d = get_or_append_left ys (replicate (252 - length ys) 0) d k named in
      let below : slice_index_or ys k d < count = ltb-true _ _ (and_parts _ _ (are k d named)).1 in
      omega (arith, at, below, small))
  | inr spare ↦
      (let inside : k - length ys < 252 - length ys = omega (arith, spare, within, length-padded ys few) in
      let at : slice_index_or (padded ys) k d ≡ 0
      = get_or-append_right ys (replicate (252 - length ys) 0) (length ys) k d refl spare ∙ get_or-replicate (252 - length ys) (k - length ys) 0 d inside in
      omega (arith, at))
]

-- the numbers of a map that was written
pub places_written : (level at count : ℕ) (ys : List ℕ) → count < 2 ^ 32 → length ys ≤ 252 → All (λ y. is_address count y ≡ true) ys
    → places (map_block level at (padded ys)) ≡ padded ys
unfolding places
places_written level at count ys small few are =
    let block = map_block level at (padded ys) in
    ap (numbers_at block 16) (sym (length-padded ys few))
    ∙ numbers_back block (header map_kind at level) [] (padded ys) 16 (fits_of count ys small few are)
    (ap (λ (t : List ℕ). header map_kind at level ++ t) (sym (append-nil (flat_map bytes_of (padded ys))))) (length-header map_kind at level)

-- a map that was written is right
pub is_map-written : (level at count : ℕ) (ys : List ℕ) → count < 2 ^ 32 → level < 2 ^ 32 → at < 2 ^ 32 → length ys ≤ 252
    → All (λ y. is_address count y ≡ true) ys → is_map count level (length ys) at (map_block level at (padded ys)) ≡ true
is_map-written level at count ys small level_fits at_fits few are =
    rw (
      has_header-framed map_kind at level (flat_map bytes_of (padded ys)) (omega arith) at_fits level_fits (inl refl),
      framed_level map_kind at level (flat_map bytes_of (padded ys)) level_fits,
      eq-eqb level level refl,
      places_written level at count ys small few are,
    )
    (padded_places count ys are)

pub map_written : (all : List (List ℕ)) (level at : ℕ) (ys : List ℕ) → length all < 2 ^ 32 → level < 2 ^ 32 → at < length all → length ys ≤ 252
    → All (λ y. is_address (length all) y ≡ true) ys
    → map_at (slice_set all at (map_block level at (padded ys))) level (length ys) at ≡ Ok ys
map_written all level at ys small level_fits within few are =
    let now = slice_set all at (map_block level at (padded ys)) in
    let here : block_of now at ≡ map_block level at (padded ys) = get_or-set_same all at (map_block level at (padded ys)) [] within in
    let size : length now ≡ length all = length-set all at (map_block level at (padded ys)) in
    rw (here, size, is_map-written level at (length all) ys small level_fits (omega (arith, within, small)) few are, places_written level at (length all) ys small few are)
    (ap Ok (take_at ys (replicate (252 - length ys) 0) (length ys) refl))

-- numbers that make no difference to a map are those that it had
pub same_padded : (count : ℕ) (xs zs more : List ℕ) → length zs ≡ length xs → length xs + length more ≤ 252
    → All (λ y. is_address count y ≡ true) more → padded (zs ++ more) ≡ padded xs → zs ++ more ≡ xs
same_padded count xs zs [] size room are same =
    let zeros : List ℕ = replicate (252 - length xs) 0 in
    let others : List ℕ = replicate (252 - length (zs ++ [])) 0 in
    let long : length (zs ++ []) ≡ length xs = ap length (append-nil zs) ∙ size in
    sym (take_at (zs ++ []) others (length xs) long) ∙ ap (take (length xs)) same ∙ take_at xs zeros (length xs) refl
same_padded count xs zs (m ∷ more) size room are same =
    let zeros : List ℕ = replicate (252 - length xs) 0 in
    let others : List ℕ = replicate (252 - length (zs ++ m ∷ more)) 0 in
    let inside : length xs < length (zs ++ m ∷ more) = omega (arith, length-append zs (m ∷ more), size) in
    let here : slice_index (padded (zs ++ m ∷ more)) (length xs) ≡ m
    = get_or_append_left (zs ++ m ∷ more) others 0 (length xs) inside ∙ get_or_at zs m more 0 (length xs) size in
    let spare : 0 < 252 - length xs = omega (arith, room) in
    let none : length xs - length xs ≡ 0 = omega arith in
    let there : slice_index (padded xs) (length xs) ≡ 0
    = get_or-append_right xs zeros (length xs) (length xs) 0 refl (omega arith)
    ∙ ap (slice_index zeros) none ∙ get_or-replicate (252 - length xs) 0 0 0 spare in
    let zero_m : m ≡ 0 = sym here ∙ ap (λ (ps : List ℕ). slice_index ps (length xs)) same ∙ there in
    let four : 4 ≤ m = leb-true _ _ (and_parts _ _ (are 0 0 (omega arith))).0 in
    absurd (omega (arith, four, zero_m))

pub some_list : (xs ys : List ℕ) (r : Result (List ℕ) ℕ) → r ≡ Ok xs → r ≡ Ok ys → xs ≡ ys
some_list xs ys r a b = cc

-- a leaf that reads the same after an edit has the pages that it had
pub stays_same : (count used : ℕ) (xs ys ps qs more : List ℕ) (r : Result (List ℕ) ℕ) → r ≡ Ok xs → r ≡ Ok (take used ps) → length ps ≡ 252
    → used + length more ≤ 252 → ps ≡ padded (take used ps) → length ys ≡ length xs → All (λ y. is_address count y ≡ true) more
    → (length xs ≡ used → ps ≡ padded xs → qs ≡ padded (ys ++ more)) → qs ≡ ps → ys ++ more ≡ xs
stays_same count used xs ys ps qs more r at read long room full size are edited same =
    let is : xs ≡ take used ps = some_list xs (take used ps) r at read in
    let count_xs : length xs ≡ used = ap length is ∙ length-take used ps ∙ omega (arith, long, room) in
    let padded_xs : ps ≡ padded xs = full ∙ ap padded (sym is) in
    same_padded count xs ys more size (omega (arith, count_xs, room)) are (sym (edited count_xs padded_xs) ∙ same ∙ padded_xs)

-- numbers that make a difference to a leaf are other pages
pub other_pages : (used first : ℕ) (xs : List ℕ) (here : List (ℕ × ℕ)) (more ps qs : List ℕ) → length xs ≡ used → (1 ≤ used → qs ≢ ps)
    → AreChanges first (first + used) here → 1 ≤ length here + length more → ps ≡ padded xs → qs ≡ padded (replaced_from first xs here ++ more)
    → (replaced_from first xs here ++ more) ≢ xs
other_pages used first xs here more ps qs size other are some ps_is qs_is same = elim (cases_lt 0 used) [
  | inl pages ↦ other (omega (arith, pages)) (qs_is ∙ ap padded same ∙ sym ps_is)
  | inr none ↦
      (let no_here : here ≡ [] = no_changes first (first + used) here (omega (arith, none)) are in
      absurd (omega (arith, none, some, ap length no_here, ap length same, length-append (replaced_from first xs here) more, length-replaced first xs here, size)))
]

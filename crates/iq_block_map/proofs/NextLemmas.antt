-- One more leaf that stayed or was written.
use Rattle.std.specs.Prelude.{◌≡◌, ◌≢◌, ℕ, ◌+◌, ◌*◌, ◌^◌, ◌<◌, ◌≤◌, true, false, ◌||◌, List, [], ◌∷◌, length, drop, nat_eq, nat_lt, nat_le, slice_index, slice_index_or, slice_set, Ok}
use Rattle.std.specs.List.{All, IsDistinct, AllByRecursion}
use Rattle.std.proofs.Common.{refl, sym, ap, subst, ◌∙◌, inl, inr, arith, length-set, get_or-set_other}
use Rattle.std.proofs.lemmas.List.{get_or-take, get_or-drop, length-take, length-drop}
use Rattle.std.proofs.lemmas.Bool.{and_parts, eq-eqb, ne_eqb, cases_eq, leb-true, ltb-true}
use Rattle.iq_outside.specs.Devices.{block_of}
use Rattle.iq_block_map.specs.Maps.{is_address, map_block}
use Rattle.iq_block_map.specs.Objects.{used_in, map_at}
use Rattle.iq_block_map.specs.Writing.{holds}
use Rattle.iq_block_map.specs.Editing.{piece, same_list, one_unless}
use Rattle.iq_block_map.specs.Leaves.{padded, leaf_at, StaysLeaf, MakesLeaf}
use Rattle.iq_block_map.proofs.LeafLemmas.{map_written}
use Rattle.iq_block_map.proofs.StepLemmas.{NextLeaf, KeepsLeaves, piece_length, same_list-self, same_list-not}

true_false : true ≡ false → ⊥
true_false is = cc

-- a block of a store is within it, and behind the roots
pub below_of : (count a : ℕ) → is_address count a ≡ true → a < count
below_of count a is = ltb-true a count (and_parts (nat_le 4 a) (nat_lt a count) is).1

pub behind_of : (count a : ℕ) → is_address count a ≡ true → 4 ≤ a
behind_of count a is = leb-true 4 a (and_parts (nat_le 4 a) (nat_lt a count) is).0

pub head_apart : (x b : ℕ) (xs : List ℕ) → holds (x ∷ xs) b ≡ false → (b ≢ x) × (holds xs b ≡ false)
head_apart x b xs free = elim (cases_eq b x) [
  | inl same ↦ absurd (hit (eq-eqb b x same) free)
  | inr other ↦ (other, miss (ne_eqb b x other) free)
]
  where
    hit : nat_eq b x ≡ true → (nat_eq b x || holds xs b) ≡ false → ⊥
    hit same free = true_false (rw same at free)

    miss : nat_eq b x ≡ false → (nat_eq b x || holds xs b) ≡ false → holds xs b ≡ false
    miss other free = rw other at free

pub distinct_parts : (x : ℕ) (xs : List ℕ) → IsDistinct nat_eq (x ∷ xs) → (holds xs x ≡ false) × IsDistinct nat_eq xs
unfolding IsDistinct
distinct_parts x xs are = (none x xs are.0, are.1)
  where
    none : (x : ℕ) (ys : List ℕ) → AllByRecursion (λ y. nat_eq x y ≡ false) ys → holds ys x ≡ false
    none x [] each = refl
    none x (y ∷ ys) each = rw (each.0, none x ys each.1) refl

some_of : (xs : List ℕ) (k : ℕ) (P : ℕ → Type 0) → All P xs → k < length xs → P (slice_index xs k)
some_of xs k P each within = each k 0 within

pub all_piece : (P : ℕ → Type 0) (ys : List ℕ) (k : ℕ) → All P ys → All P (piece k ys)
all_piece P ys k each i d within =
    let inside : i < 252 = omega (arith, within, length-take 252 (drop (252 * k) ys)) in
    let later : 252 * k + i < length ys = omega (arith, within, length-take 252 (drop (252 * k) ys), length-drop (252 * k) ys) in
    let at : slice_index_or (piece k ys) i d ≡ slice_index_or ys (252 * k + i) d
    = get_or-take 252 (drop (252 * k) ys) i d inside ∙ get_or-drop (252 * k) ys i d in
    subst P (sym at) (each (252 * k + i) d later)

-- a leaf that stayed
pub stays_next : (all now now' : List (List ℕ)) (xs ys ls ms after after' : List ℕ) (k at made : ℕ) → at ≡ slice_index ls k
    → StaysLeaf now now' at made (piece k xs) (piece k ys) after after' → leaf_at now (used_in (length xs) k) at ≡ Ok (piece k xs)
    → 252 * k < length ys → (252 * k < length xs → is_address (length all) at ≡ true) → (252 * k < length xs → holds after at ≡ false)
    → NextLeaf all now' xs ys ls after after' k made × KeepsLeaves now now' ms after after' k
stays_next all now now' xs ys ls ms after after' k at made here stays read some named apart =
    let size : used_in (length ys) k ≡ used_in (length xs) k
    = sym (piece_length k ys) ∙ ap length stays.pages ∙ piece_length k xs in
    let old : 252 * k < length xs = omega (arith, size, some) in
    let used : nat_eq (used_in (length xs) k) 0 ≡ false = ne_eqb (used_in (length xs) k) 0 (omega (arith, old)) in
    let map : map_at now 1 (used_in (length xs) k) at ≡ Ok (piece k xs) = rw used at read in
    let same : made ≡ slice_index ls k = stays.leaf ∙ here in
    let equal : nat_eq (slice_index ls k) made ≡ true = eq-eqb (slice_index ls k) made (sym same) in (
      record {
        reads =
            ap (λ (all : List (List ℕ)). map_at all 1 (used_in (length ys) k) made) stays.blocks
            ∙ ap (map_at now 1 (used_in (length ys) k)) stays.leaf
            ∙ ap (λ (n : ℕ). map_at now 1 n at) size
            ∙ map ∙ ap Ok (sym stays.pages);
        taken = rw equal (sym stays.left);
        count = omega (arith, ap length stays.left, ap one_unless (ap (λ (t : List ℕ). same_list t (piece k xs)) stays.pages ∙ same_list-self (piece k xs)));
        named = ap (is_address (length all)) stays.leaf ∙ named old;
        apart = ap (holds after') stays.leaf ∙ ap (λ (t : List ℕ). holds t at) stays.left ∙ apart old;
        shares = λ is. same;
        differs = λ is. stays.pages;
      },
      record {
        size = ap length stays.blocks;
        blocks = λ j early. ap (λ (all : List (List ℕ)). block_of all (slice_index ms j)) stays.blocks;
        apart = λ b free. ap (λ (t : List ℕ). holds t b) stays.left ∙ free;
      },
    )

-- a leaf that was written
pub makes_next : (all now now' : List (List ℕ)) (xs ys ls ms after after' : List ℕ) (k made : ℕ) → length now ≡ length all → length all < 2 ^ 32
    → MakesLeaf now now' made (piece k xs) (piece k ys) after after' → All (λ y. is_address (length all) y ≡ true) ys
    → IsDistinct nat_eq after → All (λ b. is_address (length all) b ≡ true) after
    → slice_index ls k ≢ made → ((j : ℕ) → j < k → holds after (slice_index ms j) ≡ false)
    → NextLeaf all now' xs ys ls after after' k made × KeepsLeaves now now' ms after after' k
makes_next all now now' xs ys ls ms after after' k made size small makes named distinct inside other apart =
    let address : is_address (length all) made ≡ true
    = ap (λ (t : List ℕ). is_address (length all) (slice_index t 0)) (sym makes.left)
    ∙ inside 0 0 (omega (arith, ap length makes.left)) in
    let below : made < length now = omega (arith, size, below_of (length all) made address) in
    let parts = distinct_parts made after' (subst (IsDistinct nat_eq) makes.left distinct) in
    let few : length (piece k ys) ≤ 252 = omega (arith, piece_length k ys) in
    let each : All (λ y. is_address (length now) y ≡ true) (piece k ys)
    = subst (λ (n : ℕ). All (λ y. is_address n y ≡ true) (piece k ys)) (sym size) (all_piece (λ y. is_address (length all) y ≡ true) ys k named) in
    let differ : nat_eq (slice_index ls k) made ≡ false = ne_eqb (slice_index ls k) made other in (
      record {
        reads =
            ap (λ (all : List (List ℕ)). map_at all 1 (used_in (length ys) k) made) makes.blocks
            ∙ ap (λ (n : ℕ). map_at (slice_set now made (map_block 1 made (padded (piece k ys)))) 1 n made) (sym (piece_length k ys))
            ∙ map_written now 1 made (piece k ys) (omega (arith, size, small)) (omega arith) below few each;
        taken = rw differ makes.left;
        count = omega (arith, ap length makes.left, ap one_unless (same_list-not (piece k ys) (piece k xs) makes.pages));
        named = address;
        apart = parts.0;
        shares = λ is. absurd (makes.pages is);
        differs = λ is. absurd (other (sym is));
      },
      record {
        size = ap length makes.blocks ∙ length-set now made (map_block 1 made (padded (piece k ys)));
        blocks = λ j early.
            let free = head_apart made (slice_index ms j) after' (ap (λ (t : List ℕ). holds t (slice_index ms j)) (sym makes.left) ∙ apart j early) in
            ap (λ (all : List (List ℕ)). block_of all (slice_index ms j)) makes.blocks
            ∙ get_or-set_other now made (slice_index ms j) (map_block 1 made (padded (piece k ys))) [] free.0;
        apart = λ b free. (head_apart made b after' (ap (λ (t : List ℕ). holds t b) (sym makes.left) ∙ free)).1;
      },
    )

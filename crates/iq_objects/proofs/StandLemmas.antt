-- An opened object stands as before where only blocks that were taken are written, and after each change of its own.
use Rattle.std.specs.Prelude.{◌≡◌, ℕ, zero, suc, ◌+◌, ◌-◌, ◌*◌, ◌/◌, ◌<◌, ◌≤◌, ◌^◌, true, false, List, [], ◌∷◌, ◌++◌, length, take, drop, nat_eq, slice_index, slice_index_or, slice_set, Option, Ok}
use Rattle.std.specs.List.{All, IsDistinct}
use Rattle.std.proofs.Common.{refl, sym, ap, subst, ◌∙◌, inl, inr, arith, length-append, length-set, get_or-set_other, get_or-set_same}
use Rattle.std.proofs.lemmas.List.{length-take, length-drop, drop-set-lt, take-set-le, drop-append-le, take-append-le, get_or_append_left, get_or-append_right, get_or-take, drop-set-add}
use Rattle.std.proofs.lemmas.Bool.{cases_eq, cases_lt, ne_eqb}
use Rattle.iq_outside.specs.declared.device.Device.{Ghosts}
use Rattle.iq_outside.specs.Devices.{block_of}
use Rattle.iq_block_map.specs.Maps.{is_address}
use Rattle.iq_block_map.specs.Objects.{used_in, map_at}
use Rattle.iq_block_map.specs.Refs.{WhereTold}
use Rattle.iq_block_map.specs.Takers.{taken_of, AreSpare}
use Rattle.iq_block_map.specs.Writing.{holds, SameBeside, HasPut}
use Rattle.iq_block_map.specs.Editing.{piece}
use Rattle.iq_block_map.proofs.PutLemmas.{holds-append}
use Rattle.iq_block_map.proofs.NextLemmas.{distinct_parts}
use Rattle.iq_block_map.proofs.NamedLemmas.{all_set, all_take}
use Rattle.iq_block_map.proofs.FrameLaws.{all_cons, all_both}
use Rattle.iq_block_map.proofs.StepLemmas.{map_same}
use Rattle.iq_block_map.proofs.RewriteLemmas.{put_told}
use Rattle.iq_block_map.proofs.ReachedLemmas.{all_none, distinct_front}
use Rattle.iq_objects.specs.Open.{Held, Stands, written, with_page, with_more, with_lost, cleared}
use Rattle.iq_objects.proofs.CountLemmas.{all_written}

-- what stands stays where only blocks that were taken are written
pub stands_on : (before after : List ℕ) (o : Held) (all now : List (List ℕ)) → before ≡ taken_of before after ++ after
    → SameBeside (taken_of before after) all now → Stands before o all → Stands after o now
stands_on before after o all now split same stands =
    let free : (b : ℕ) → holds before b ≡ false → (holds (taken_of before after) b ≡ false) × (holds after b ≡ false)
    = λ b is. holds-append (taken_of before after) after b (subst (λ (xs : List ℕ). holds xs b ≡ false) split is) in
    let block : (b : ℕ) → holds before b ≡ false → block_of now b ≡ block_of all b = λ b is. same.others b (free b is).0 in
    let size = same.size in
    record {
      fits = omega (arith, stands.fits, size);
      pages = subst (λ (n : ℕ). All (λ a. is_address n a ≡ true) o.pages) (sym size) stands.pages;
      leaf_places = subst (λ (n : ℕ). All (λ a. 1 ≤ a → is_address n a ≡ true) o.leaves) (sym size) stands.leaf_places;
      leaves = λ k within some. map_same all now 1 (used_in (length o.pages) k) (slice_index o.leaves k) size (block (slice_index o.leaves k) (stands.free_leaves k 0 within))
          ∙ stands.leaves k within some;
      top_place = λ some. ap (λ (n : ℕ). is_address n o.top) size ∙ stands.top_place some;
      top = λ some. map_same all now 2 (length o.leaves) o.top size (block o.top stands.free_top) ∙ stands.top some;
      free_pages = λ k d within. (free (slice_index_or o.pages k d) (stands.free_pages k d within)).1;
      free_leaves = λ k d within. (free (slice_index_or o.leaves k d) (stands.free_leaves k d within)).1;
      free_top = (free o.top stands.free_top).1;
      free_lost = λ k d within. (free (slice_index_or o.lost k d) (stands.free_lost k d within)).1;
    }

pub stands_put : {D : Type 0} (g : Ghosts D) (before after : List ℕ) (old new : D) (o : Held) → HasPut g before after old new
    → WhereTold (g.blocks old) (Stands before o) → WhereTold (g.blocks new) (Stands after o)
stands_put g before after old new o put stands now told =
    let there = put_told g before after old new now put told in
    stands_on before after o there.0 now put.left there.2 (stands there.0 there.1)

-- no root block may be taken
pub zero_free : (left : List ℕ) → All (λ b. 4 ≤ b) left → holds left 0 ≡ false
zero_free [] above = refl
zero_free (x ∷ xs) above =
    let first : 4 ≤ x = above 0 0 (omega arith) in
    let here : nat_eq 0 x ≡ false = ne_eqb 0 x (λ is. no x first is) in
    let rest : holds xs 0 ≡ false = zero_free xs (λ k d within. above (suc k) d (omega (arith, within))) in
    rw (here, rest) refl
  where
    no : (x : ℕ) → 4 ≤ x → 0 ≡ x → ⊥
    no x four is = omega (arith, four, is)

-- a block that was taken may not be taken again
pub taken_free : (told : Option (List (List ℕ))) (before after : List ℕ) (at : ℕ) → AreSpare told before → before ≡ at ∷ after → holds after at ≡ false
taken_free told before after at spare is = (distinct_parts at after (subst (IsDistinct nat_eq) is spare.distinct)).0

-- blocks that were taken may not be taken again
pub all_taken_free : (taken after : List ℕ) → IsDistinct nat_eq (taken ++ after) → All (λ b. holds after b ≡ false) taken
all_taken_free taken after are = distinct_front taken after are

-- a piece of the pages is as before where another page changed
pub piece_set : (k n at : ℕ) (xs : List ℕ) → (k ≡ n / 252 → ⊥) → piece k (slice_set xs n at) ≡ piece k xs
piece_set k n at xs other = elim (cases_lt n (252 * k)) [
  | inl early ↦ ap (take 252) (drop-set-lt (252 * k) xs n at early)
  | inr late ↦
      (let past : 252 * (k + 1) ≤ n = omega (arith, late, λ (is : k ≡ n / 252). other is) in
      let split : n ≡ 252 * k + (n - 252 * k) = omega (arith, late) in
      ap (λ (m : ℕ). take 252 (drop (252 * k) (slice_set xs m at))) split
      ∙ ap (take 252) (drop-set-add (252 * k) xs (n - 252 * k) at)
      ∙ take-set-le 252 (drop (252 * k) xs) (n - 252 * k) at (omega (arith, past)))
]

-- and where one came behind all
pub piece_more : (k : ℕ) (xs ys : List ℕ) → 252 * (k + 1) ≤ length xs → piece k (xs ++ ys) ≡ piece k xs
piece_more k xs ys full =
    ap (take 252) (drop-append-le (252 * k) xs ys (omega (arith, full)))
    ∙ take-append-le 252 (drop (252 * k) xs) ys (omega (arith, full, length-drop (252 * k) xs))

none_some : {n : ℕ} → n ≡ 0 → 1 ≤ n → ⊥
none_some is some = omega (arith, is, some)

-- a page in another block
pub stands_page : (left : List ℕ) (o : Held) (all : List (List ℕ)) (n at : ℕ) → Stands left o all → n < length o.pages
    → is_address (length all) at ≡ true → holds left at ≡ false → holds left 0 ≡ false → n / 252 < length o.leaves → Stands left (with_page n at o) all
stands_page left o all n at stands within place free none leaf = record {
  fits = stands.fits;
  pages = all_set (λ a. is_address (length all) a ≡ true) o.pages n at stands.pages place;
  leaf_places = all_set (λ a. 1 ≤ a → is_address (length all) a ≡ true) o.leaves (n / 252) 0 stands.leaf_places (λ some. absurd (omega (arith, some)));
  leaves = λ k inside some. elim (cases_eq k (n / 252)) [
    | inl here ↦
        (let zero_there : slice_index (slice_set o.leaves (n / 252) 0) k ≡ 0
        = ap (slice_index (slice_set o.leaves (n / 252) 0)) here ∙ get_or-set_same o.leaves (n / 252) 0 0 leaf in
        absurd (none_some zero_there some))
    | inr other ↦
        (let same : slice_index (slice_set o.leaves (n / 252) 0) k ≡ slice_index o.leaves k = get_or-set_other o.leaves (n / 252) k 0 0 other in
        ap (λ (m : ℕ). map_at all 1 (used_in m k) (slice_index (slice_set o.leaves (n / 252) 0) k)) (length-set o.pages n at)
        ∙ ap (map_at all 1 (used_in (length o.pages) k)) same
        ∙ stands.leaves k (omega (arith, inside, length-set o.leaves (n / 252) 0)) (omega (arith, some, same))
        ∙ ap Ok (sym (piece_set k n at o.pages other)))
  ];
  top_place = λ some. absurd (omega (arith, some));
  top = λ some. absurd (omega (arith, some));
  free_pages = all_set (λ b. holds left b ≡ false) o.pages n at stands.free_pages free;
  free_leaves = all_set (λ b. holds left b ≡ false) o.leaves (n / 252) 0 stands.free_leaves none;
  free_top = none;
  free_lost = all_both (λ b. holds left b ≡ false) o.lost (written (slice_index o.pages n ∷ slice_index o.leaves (n / 252) ∷ o.top ∷ [])) stands.free_lost
      (all_written (λ b. holds left b ≡ false) (slice_index o.pages n ∷ slice_index o.leaves (n / 252) ∷ o.top ∷ [])
      (all_cons (λ b. holds left b ≡ false) (slice_index o.pages n) (slice_index o.leaves (n / 252) ∷ o.top ∷ []) (stands.free_pages n 0 within)
      (all_cons (λ b. holds left b ≡ false) (slice_index o.leaves (n / 252)) (o.top ∷ []) (stands.free_leaves (n / 252) 0 leaf)
      (all_cons (λ b. holds left b ≡ false) o.top [] stands.free_top (all_none (λ b. holds left b ≡ false))))));
}

-- in its place or behind the end, a leaf is free
leaf_free : (left leaves : List ℕ) (k : ℕ) → All (λ b. holds left b ≡ false) leaves → holds left 0 ≡ false → holds left (slice_index leaves k) ≡ false
leaf_free left [] k each none = none
leaf_free left (l ∷ leaves) zero each none = each 0 0 (omega arith)
leaf_free left (l ∷ leaves) (suc k) each none = leaf_free left leaves k (λ j d within. each (suc j) d (omega (arith, within))) none

-- the number behind those that stay is 0
last_none : (m k : ℕ) (leaves : List ℕ) → m ≤ k → length (take m leaves) ≡ m → slice_index (take m leaves ++ 0 ∷ []) k ≡ 0
last_none m k leaves late size =
    get_or-append_right (take m leaves) (0 ∷ []) (length (take m leaves)) k 0 refl (omega (arith, late, size)) ∙ nothing (k - length (take m leaves))
  where
    nothing : (j : ℕ) → slice_index (0 ∷ []) j ≡ 0
    nothing zero = refl
    nothing (suc j) = refl

-- a page more
pub stands_more : (left : List ℕ) (o : Held) (all : List (List ℕ)) (at : ℕ) → Stands left o all → length o.leaves ≡ (length o.pages + 251) / 252
    → is_address (length all) at ≡ true → holds left at ≡ false → holds left 0 ≡ false → Stands left (with_more at o) all
stands_more left o all at stands count place free none =
    let m = length o.pages / 252 in
    let kept = take m o.leaves in
    let size : length kept ≡ m = length-take m o.leaves ∙ omega (arith, count) in
    record {
      fits = stands.fits;
      pages = all_both (λ a. is_address (length all) a ≡ true) o.pages (at ∷ []) stands.pages
          (all_cons (λ a. is_address (length all) a ≡ true) at [] place (all_none (λ a. is_address (length all) a ≡ true)));
      leaf_places = all_both (λ a. 1 ≤ a → is_address (length all) a ≡ true) kept (0 ∷ [])
          (all_take (λ a. 1 ≤ a → is_address (length all) a ≡ true) m o.leaves stands.leaf_places)
          (all_cons (λ a. 1 ≤ a → is_address (length all) a ≡ true) 0 [] (λ some. absurd (omega (arith, some))) (all_none (λ a. 1 ≤ a → is_address (length all) a ≡ true)));
      leaves = λ k inside some. elim (cases_lt k m) [
        | inl here ↦
            (let same : slice_index (kept ++ 0 ∷ []) k ≡ slice_index o.leaves k
            = get_or_append_left kept (0 ∷ []) 0 k (omega (arith, here, size)) ∙ get_or-take m o.leaves k 0 here in
            let used : used_in (length (o.pages ++ at ∷ [])) k ≡ used_in (length o.pages) k
            = ap (λ (n : ℕ). used_in n k) (length-append o.pages (at ∷ [])) ∙ omega (arith, here) in
            ap (λ (n : ℕ). map_at all 1 n (slice_index (kept ++ 0 ∷ []) k)) used
            ∙ ap (map_at all 1 (used_in (length o.pages) k)) same
            ∙ stands.leaves k (omega (arith, here, count)) (omega (arith, some, same))
            ∙ ap Ok (sym (piece_more k o.pages (at ∷ []) (omega (arith, here)))))
        | inr late ↦ absurd (none_some (last_none m k o.leaves late size) some)
      ];
      top_place = λ some. absurd (omega (arith, some));
      top = λ some. absurd (omega (arith, some));
      free_pages = all_both (λ b. holds left b ≡ false) o.pages (at ∷ []) stands.free_pages
          (all_cons (λ b. holds left b ≡ false) at [] free (all_none (λ b. holds left b ≡ false)));
      free_leaves = all_both (λ b. holds left b ≡ false) kept (0 ∷ []) (all_take (λ b. holds left b ≡ false) m o.leaves stands.free_leaves)
          (all_cons (λ b. holds left b ≡ false) 0 [] none (all_none (λ b. holds left b ≡ false)));
      free_top = none;
      free_lost = all_both (λ b. holds left b ≡ false) o.lost (written (slice_index o.leaves m ∷ o.top ∷ [])) stands.free_lost
          (all_written (λ b. holds left b ≡ false) (slice_index o.leaves m ∷ o.top ∷ [])
          (all_cons (λ b. holds left b ≡ false) (slice_index o.leaves m) (o.top ∷ []) (leaf_free left o.leaves m stands.free_leaves none)
          (all_cons (λ b. holds left b ≡ false) o.top [] stands.free_top (all_none (λ b. holds left b ≡ false)))));
    }

-- no pages
pub stands_cleared : (left : List ℕ) (o : Held) (all : List (List ℕ)) → holds left 0 ≡ false → Stands left o all → Stands left (cleared o) all
stands_cleared left o all none stands =
    let P : ℕ → Type 0 = λ b. holds left b ≡ false in
    record {
      fits = stands.fits;
      pages = all_none (λ a. is_address (length all) a ≡ true);
      leaf_places = all_none (λ a. 1 ≤ a → is_address (length all) a ≡ true);
      leaves = λ k inside some. absurd (omega (arith, inside));
      top_place = λ some. absurd (omega (arith, some));
      top = λ some. absurd (omega (arith, some));
      free_pages = all_none (λ b. holds left b ≡ false);
      free_leaves = all_none (λ b. holds left b ≡ false);
      free_top = none;
      free_lost = all_both P ((o.lost ++ written o.pages) ++ written o.leaves) (written (o.top ∷ []))
          (all_both P (o.lost ++ written o.pages) (written o.leaves) (all_both P o.lost (written o.pages) stands.free_lost (all_written P o.pages stands.free_pages))
          (all_written P o.leaves stands.free_leaves))
          (all_written P (o.top ∷ []) (all_cons P o.top [] stands.free_top (all_none P)));
    }

-- blocks that were taken are lost
pub stands_lost : (left taken : List ℕ) (o : Held) (all : List (List ℕ)) → Stands left o all → All (λ b. holds left b ≡ false) taken
    → Stands left (with_lost (o.lost ++ taken) o) all
stands_lost left taken o all stands free = record {
  fits = stands.fits;
  pages = stands.pages;
  leaf_places = stands.leaf_places;
  leaves = stands.leaves;
  top_place = stands.top_place;
  top = stands.top;
  free_pages = stands.free_pages;
  free_leaves = stands.free_leaves;
  free_top = stands.free_top;
  free_lost = all_both (λ b. holds left b ≡ false) o.lost taken stands.free_lost free;
}

-- an object without pages stands in any store
pub stands_empty : (told : Option (List (List ℕ))) (left : List ℕ) (o : Held) (all : List (List ℕ)) → AreSpare told left → length all < 2 ^ 32
    → o ≡ record { pages = []; leaves = []; top = 0; lost = [] } → Stands left o all
stands_empty told left o all spare fits is = rw is record {
  fits = fits;
  pages = all_none (λ a. is_address (length all) a ≡ true);
  leaf_places = all_none (λ a. 1 ≤ a → is_address (length all) a ≡ true);
  leaves = λ k inside some. absurd (omega (arith, inside));
  top_place = λ some. absurd (omega (arith, some));
  top = λ some. absurd (omega (arith, some));
  free_pages = all_none (λ b. holds left b ≡ false);
  free_leaves = all_none (λ b. holds left b ≡ false);
  free_top = zero_free left spare.above;
  free_lost = all_none (λ b. holds left b ≡ false);
}

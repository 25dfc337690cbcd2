-- The blocks that an edited object names are blocks of the store.
use Rattle.std.specs.Prelude.{◌≡◌, ℕ, zero, suc, ◌+◌, ◌-◌, ◌*◌, ◌<◌, ◌≤◌, min, Bool, true, false, List, [], ◌∷◌, ◌++◌, length, take, drop, slice_index_or, slice_set, if◌then◌else◌, Ok, Err}
use Rattle.std.specs.List.{All, list_all, prefix_len}
use Rattle.std.proofs.Common.{refl, sym, ap, subst, ◌∙◌, inl, inr, arith, length-append, length-set, get_or-set_other, get_or-set_same}
use Rattle.std.proofs.lemmas.List.{get_or-take, get_or-drop, length-take, length-drop, get_or_append_left, get_or-append_right}
use Rattle.std.proofs.lemmas.Bool.{and_parts, cases_lt, cases_eq}
use Rattle.iq_outside.specs.Devices.{block_of}
use Rattle.iq_block_map.specs.Maps.{places, is_address, is_map}
use Rattle.iq_block_map.specs.Objects.{used_in, map_at, listed, joined}
use Rattle.iq_block_map.specs.Editing.{edited, replaced_from, new_blocks, AreChanges}
use Rattle.iq_block_map.specs.Leaves.{below}
use Rattle.iq_block_map.proofs.StepLemmas.{both_parts, length_map}
use Rattle.iq_block_map.proofs.EditLemmas.{changes_cut, no_changes}

pub all_append : (P : ℕ → Type 0) (xs ys : List ℕ) → All P xs → All P ys → All P (xs ++ ys)
all_append P xs ys first second k d within = elim (cases_lt k (length xs)) [
  | inl early ↦ subst P (sym (get_or_append_left xs ys d k early)) (first k d early)
  | inr late ↦
      (let inside : k - length xs < length ys = omega (arith, late, within, length-append xs ys) in
      subst P (sym (get_or-append_right xs ys (length xs) k d refl late)) (second (k - length xs) d inside))
]

pub all_take : (P : ℕ → Type 0) (n : ℕ) (xs : List ℕ) → All P xs → All P (take n xs)
all_take P n xs each k d within =
    subst P (sym (get_or-take n xs k d (omega (arith, within, length-take n xs)))) (each k d (omega (arith, within, length-take n xs)))

pub all_drop : (P : ℕ → Type 0) (n : ℕ) (xs : List ℕ) → All P xs → All P (drop n xs)
all_drop P n xs each k d within = subst P (sym (get_or-drop n xs k d)) (each (n + k) d (omega (arith, within, length-drop n xs)))

pub all_set : (P : ℕ → Type 0) (xs : List ℕ) (i a : ℕ) → All P xs → P a → All P (slice_set xs i a)
all_set P xs i a each here k d within = elim (cases_eq k i) [
  | inl same ↦
      (let inside : i < length xs = omega (arith, within, same, length-set xs i a) in
      subst P (sym (ap (λ (n : ℕ). slice_index_or (slice_set xs i a) n d) same ∙ get_or-set_same xs i a d inside)) here)
  | inr other ↦ subst P (sym (get_or-set_other xs i k a d other)) (each k d (omega (arith, within, length-set xs i a)))
]

all_replaced : (P : ℕ → Type 0) (first : ℕ) (xs : List ℕ) (cs : List (ℕ × ℕ)) → All P xs → All P (new_blocks cs) → All P (replaced_from first xs cs)
all_replaced P first xs [] each new = each
all_replaced P first xs ((n, a) ∷ cs) each new =
    all_replaced P first (slice_set xs (n - first) a) cs (all_set P xs (n - first) a each (new 0 0 (omega arith)))
    (λ k d within. new (suc k) d (omega (arith, within)))

pub all_edited : (P : ℕ → Type 0) (xs : List ℕ) (cs : List (ℕ × ℕ)) (added : List ℕ) → All P xs → All P (new_blocks cs) → All P added
    → All P (edited xs cs added)
all_edited P xs cs added each new more = all_append P (replaced_from 0 xs cs) added (all_replaced P 0 xs cs each new) more

pub each_of : (p : ℕ → Bool) (xs : List ℕ) → list_all p xs ≡ true → All (λ x. p x ≡ true) xs
each_of p [] pass k d within = absurd (omega (arith, within))
each_of p (x ∷ xs) pass zero d within = (and_parts (p x) (list_all p xs) pass).0
each_of p (x ∷ xs) pass (suc k) d within = each_of p xs (and_parts (p x) (list_all p xs) pass).1 k d (omega (arith, within))

pub map_names : (all : List (List ℕ)) (level used at : ℕ) (xs : List ℕ) → map_at all level used at ≡ Ok xs → All (λ x. is_address (length all) x ≡ true) xs
map_names all level used at xs is = go (is_map (length all) level used at (block_of all at)) refl is
  where
    go : (b : Bool) → is_map (length all) level used at (block_of all at) ≡ b
        → (if b then Ok (take used (places (block_of all at))) else Err at) ≡ Ok xs → All (λ x. is_address (length all) x ≡ true) xs
    go true right same =
        let is : take used (places (block_of all at)) ≡ xs = cc in
        let named = (and_parts _ _ (and_parts _ _ (and_parts _ _ right).1).1).0 in
        subst (All (λ x. is_address (length all) x ≡ true)) is (each_of (is_address (length all)) (take used (places (block_of all at))) named)
    go false right same = cc

-- what leaves name are blocks of the store
pub listed_names : (all : List (List ℕ)) (pages : ℕ) (ls xs : List ℕ) → listed false all pages ls ≡ Ok xs → All (λ x. is_address (length all) x ≡ true) xs
listed_names all pages [] xs is =
    let none : [] ≡ xs = cc in
    subst (All (λ x. is_address (length all) x ≡ true)) none (λ k d within. absurd (omega (arith, within)))
listed_names all pages (l ∷ ls) xs is =
    let parts = both_parts (joined (Ok []) (map_at all 1 (min 252 pages) l)) (listed false all (pages - 252) ls) xs is in
    let first = both_parts (Ok []) (map_at all 1 (min 252 pages) l) parts.0 parts.2 in
    let none : [] ≡ first.0 = cc in
    let front_is : parts.0 ≡ first.1 = first.4 ∙ ap (λ (t : List ℕ). t ++ first.1) (sym none) in
    subst (All (λ x. is_address (length all) x ≡ true)) (sym parts.4)
    (all_append (λ x. is_address (length all) x ≡ true) parts.0 parts.1
    (subst (All (λ x. is_address (length all) x ≡ true)) (sym front_is) (map_names all 1 (min 252 pages) l first.1 first.3))
    (listed_names all (pages - 252) ls parts.1 parts.3))

-- and as many as there are pages
pub listed_count : (all : List (List ℕ)) (pages : ℕ) (ls xs : List ℕ) → listed false all pages ls ≡ Ok xs → pages ≤ 252 * length ls → length xs ≡ pages
listed_count all pages [] xs is enough =
    let none : [] ≡ xs = cc in
    ap length (sym none) ∙ omega (arith, enough)
listed_count all pages (l ∷ ls) xs is enough =
    let parts = both_parts (joined (Ok []) (map_at all 1 (min 252 pages) l)) (listed false all (pages - 252) ls) xs is in
    let first = both_parts (Ok []) (map_at all 1 (min 252 pages) l) parts.0 parts.2 in
    let none : [] ≡ first.0 = cc in
    let front_is : parts.0 ≡ first.1 = first.4 ∙ ap (λ (t : List ℕ). t ++ first.1) (sym none) in
    let front : length parts.0 ≡ min 252 pages = ap length front_is ∙ length_map all 1 (min 252 pages) l first.1 first.3 (omega arith) in
    let back : length parts.1 ≡ pages - 252 = listed_count all (pages - 252) ls parts.1 parts.3 (omega (arith, enough)) in
    ap length parts.4 ∙ length-append parts.0 parts.1 ∙ omega (arith, front, back)

-- the changes of one leaf's pages are within it
pub here_changes : (k pages : ℕ) (cs : List (ℕ × ℕ)) → AreChanges (252 * k) pages cs
    → AreChanges (252 * k) (252 * k + used_in pages k) (take (prefix_len (below (252 * (k + 1))) cs) cs)
    × AreChanges (252 * (k + 1)) pages (drop (prefix_len (below (252 * (k + 1))) cs) cs)
here_changes k pages cs are = elim (cases_lt (252 * k) pages) [
  | inl some ↦
      (let cut = changes_cut (252 * k) pages (252 * (k + 1)) cs (omega arith) are in
      let end : min (252 * (k + 1)) pages ≡ 252 * k + used_in pages k = omega (arith, some) in
      (subst (λ (n : ℕ). AreChanges (252 * k) n (take (prefix_len (below (252 * (k + 1))) cs) cs)) end cut.0, cut.1))
  | inr none ↦
      (let no_cs : cs ≡ [] = no_changes (252 * k) pages cs none are in
      rw no_cs (tt, tt))
]

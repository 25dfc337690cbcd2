-- An object reads the same where no block that it reaches was written.
use Rattle.std.specs.Prelude.{◌≡◌, ℕ, zero, suc, ◌+◌, ◌*◌, ◌/◌, ◌%◌, ◌^◌, ◌<◌, ◌≤◌, Bool, true, false, List, [], ◌∷◌, ◌++◌, length, drop, map, nat_eq, slice_index, slice_set, if◌then◌else◌, Result, Ok, Err, Option, Some, None}
use Rattle.std.specs.List.{All, list_all, IsDistinct}
use Rattle.std.proofs.Common.{refl, sym, ap, subst, ◌∙◌, inl, inr, arith}
use Rattle.std.proofs.lemmas.List.{get_or-take, get_or-drop}
use Rattle.std.proofs.lemmas.Bool.{and_parts, cases_lt}
use Rattle.iq_outside.specs.Devices.{block_of}
use Rattle.iq_block_store.specs.Frames.{page_kind, has_header, payload_of, framed}
use Rattle.iq_block_store.proofs.FrameLemmas.{has_header-framed, payload_of-framed}
use Rattle.iq_base.specs.declared.refs.Ref.{Ref}
use Rattle.iq_block_map.specs.Objects.{leaf_count, used_in, leaves_of, listed_in, joined, address_of, address_in, addresses_of, blocks_of, top_of, at_place, contents, pages_of}
use Rattle.iq_block_map.specs.Writing.{holds, SameBeside}
use Rattle.iq_block_map.specs.Editing.{piece, AreApart, HasRemapped}
use Rattle.iq_block_map.proofs.PutLemmas.{holds-append}
use Rattle.iq_block_map.proofs.StepLemmas.{listed_same, listed_at, map_same}
use Rattle.iq_block_map.proofs.NextLemmas.{distinct_parts}
use Rattle.iq_block_map.proofs.TopLemmas.{leaves_one, leaves_many, leaves_none, top_one, listed_from, addresses_from, leaves_count, leaves_fit, addresses_count}

-- no block that an object reaches is among some that were written, and none among those that may be taken still
pub record IsFree (all now : List (List ℕ)) (object : Ref) (before taken left : List ℕ) : Type 0 where
  pub few : object.pages ≤ 63504
  pub same : SameBeside taken all now
  pub split : before ≡ taken ++ left
  pub apart : AreApart all object before

pub free_of : (all now : List (List ℕ)) (object : Ref) (before taken left : List ℕ) → IsFree all now object before taken left → (b : ℕ)
    → holds before b ≡ false → (holds taken b ≡ false) × (holds left b ≡ false)
free_of all now object before taken left free b none = holds-append taken left b (ap (λ (t : List ℕ). holds t b) (sym free.split) ∙ none)

-- the leaves read the same
pub leaves_same : (all now : List (List ℕ)) (object : Ref) (before taken left : List ℕ) → IsFree all now object before taken left
    → leaves_of now object ≡ leaves_of all object
leaves_same all now object before taken left free = elim (cases_lt 252 object.pages) [
  | inl many ↦
      (let apart : holds before object.root ≡ false = subst (All (λ b. holds before b ≡ false)) (top_one object many) free.apart.top 0 0 (omega arith) in
      let root = free_of all now object before taken left free object.root apart in
      leaves_many now object many
      ∙ map_same all now 2 (leaf_count object.pages) object.root free.same.size (free.same.others object.root root.0)
      ∙ sym (leaves_many all object many))
  | inr less ↦ (elim (cases_lt 0 object.pages) [
    | inl some ↦ leaves_one now object (omega (arith, some)) less ∙ sym (leaves_one all object (omega (arith, some)) less)
    | inr none ↦ leaves_none now object (omega (arith, none)) ∙ sym (leaves_none all object (omega (arith, none)))
  ])
]

-- so does the address of each page
address_same : (all now : List (List ℕ)) (object : Ref) (before taken left : List ℕ) (n : ℕ) → IsFree all now object before taken left
    → n < object.pages → address_of now object n ≡ address_of all object n
address_same all now object before taken left n free within =
    ap (address_in now object.pages n) (leaves_same all now object before taken left free) ∙ go (leaves_of all object) refl
  where
    go : (r : Result (List ℕ) ℕ) → leaves_of all object ≡ r → address_in now object.pages n r ≡ address_in all object.pages n r
    go (Err b) is = refl
    go (Ok ls) is =
        let inside : n / 252 < length ls = omega (arith, within, leaves_count all object ls free.few is) in
        let apart = free_of all now object before taken left free (slice_index ls (n / 252)) (free.apart.leaves ls is (n / 252) 0 inside) in
        ap (at_place (n % 252)) (map_same all now 1 (used_in object.pages (n / 252)) (slice_index ls (n / 252)) free.same.size
        (free.same.others (slice_index ls (n / 252)) apart.0))

-- and the list of pages
pub addresses_same : (all now : List (List ℕ)) (object : Ref) (before taken left xs : List ℕ) → IsFree all now object before taken left
    → addresses_of all object ≡ Ok xs → addresses_of now object ≡ Ok xs
addresses_same all now object before taken left xs free is = go (leaves_of all object) refl
  where
    go : (r : Result (List ℕ) ℕ) → leaves_of all object ≡ r → addresses_of now object ≡ Ok xs
    go (Err b) leaves = absurd (no_err (sym (ap (λ (t : Result (List ℕ) ℕ). joined (Ok []) (listed_in false all object.pages t)) leaves) ∙ is))
      where
        no_err : ◌≡◌ {A = Result (List ℕ) ℕ} (Err b) (Ok xs) → ⊥
        no_err wrong = cc
    go (Ok ls) leaves =
        addresses_from now object ls (Ok xs) (leaves_same all now object before taken left free ∙ leaves)
        (listed_same false all now object.pages ls free.same.size
        (λ j inside.
        free.same.others (slice_index ls j) (free_of all now object before taken left free (slice_index ls j) (free.apart.leaves ls leaves j 0 inside)).0)
        ∙ listed_from all object ls xs leaves is)

-- what may still be taken is apart from the object as it is now
pub apart_after : (all now : List (List ℕ)) (object : Ref) (before taken left : List ℕ) → IsFree all now object before taken left → AreApart now object left
apart_after all now object before taken left free = record {
  top = λ k d within. (free_of all now object before taken left free _ (free.apart.top k d within)).1;
  leaves = λ ls is k d within. (free_of all now object before taken left free _ (free.apart.leaves ls (sym (leaves_same all now object before taken left free) ∙ is) k d within)).1;
  pages = λ n a within is. (free_of all now object before taken left free a (free.apart.pages n a within (sym (address_same all now object before taken left n free within) ∙ is))).1;
}

-- the address of a page is the item of the list
pub address_at : (all : List (List ℕ)) (object : Ref) (xs : List ℕ) (i : ℕ) → object.pages ≤ 63504 → addresses_of all object ≡ Ok xs → i < object.pages
    → address_of all object i ≡ Ok (slice_index xs i)
address_at all object xs i few is within = go (leaves_of all object) refl
  where
    go : (r : Result (List ℕ) ℕ) → leaves_of all object ≡ r → address_of all object i ≡ Ok (slice_index xs i)
    go (Err b) leaves = absurd (no_err (sym (ap (λ (t : Result (List ℕ) ℕ). joined (Ok []) (listed_in false all object.pages t)) leaves) ∙ is))
      where
        no_err : ◌≡◌ {A = Result (List ℕ) ℕ} (Err b) (Ok xs) → ⊥
        no_err wrong = cc
    go (Ok ls) leaves =
        let enough = leaves_count all object ls few leaves in
        let inside : i / 252 < length ls = omega (arith, within, enough) in
        let read = listed_at all object.pages (i / 252) ls xs (listed_from all object ls xs leaves is) (leaves_fit all object ls few leaves) inside in
        let place : 252 * (i / 252) + i % 252 ≡ i = omega arith in
        let small : i % 252 < 252 = omega arith in
        let at : slice_index (piece (i / 252) xs) (i % 252) ≡ slice_index xs i
        = get_or-take 252 (drop (252 * (i / 252)) xs) (i % 252) 0 small ∙ get_or-drop (252 * (i / 252)) xs (i % 252) 0 ∙ ap (slice_index xs) place in
        ap (address_in all object.pages i) leaves ∙ ap (at_place (i % 252)) read ∙ ap Ok at

-- a block holds a page with this content
pub record HoldsIn (all : List (List ℕ)) (a : ℕ) (p : List ℕ) : Type 0 where
  pub header : has_header page_kind a (block_of all a) ≡ true
  pub content : payload_of (block_of all a) ≡ p

-- each block of a list holds the page in the same place of another
abbrev pub ArePages : List (List ℕ) → List ℕ → List (List ℕ) → Type 0
ArePages all [] [] = Unit {0}
ArePages all [] (p ∷ ps) = ⊥
ArePages all (x ∷ xs) [] = ⊥
ArePages all (x ∷ xs) (p ∷ ps) = HoldsIn all x p × ArePages all xs ps

is_page : List (List ℕ) → ℕ → Bool
is_page all a = has_header page_kind a (block_of all a)

content_of : List (List ℕ) → ℕ → List ℕ
content_of all a = payload_of (block_of all a)

pub cut_some : (b : Bool) (xs ys : List (List ℕ)) → (if b then Some xs else None) ≡ Some ys → (b ≡ true) × (xs ≡ ys)
cut_some true xs ys is = (refl, cc)
cut_some false xs ys is = cc

pub pages_from : (all : List (List ℕ)) (xs : List ℕ) (ps : List (List ℕ))
    → list_all (λ a. has_header page_kind a (block_of all a)) xs ≡ true → map (λ a. payload_of (block_of all a)) xs ≡ ps → ArePages all xs ps
pages_from all [] [] right is = tt
pages_from all [] (p ∷ ps) right is = cc
pages_from all (x ∷ xs) [] right is = cc
pages_from all (x ∷ xs) (p ∷ ps) right is =
    let parts = and_parts _ _ right in
    let head : payload_of (block_of all x) ≡ p = cc in
    let rest : map (λ a. payload_of (block_of all a)) xs ≡ ps = cc in
    (record { header = parts.0; content = head }, pages_from all xs ps parts.1 rest)

-- what an object holds, block by block
pub pages_held : (all : List (List ℕ)) (object : Ref) (ps : List (List ℕ)) → pages_of all object ≡ Some ps
    → (xs : List ℕ) × (addresses_of all object ≡ Ok xs) × ArePages all xs ps
pages_held all object ps is = go (addresses_of all object) refl
  where
    go : (r : Result (List ℕ) ℕ) → addresses_of all object ≡ r → (xs : List ℕ) × (addresses_of all object ≡ Ok xs) × ArePages all xs ps
    go (Err b) bad = absurd (never (sym (ap (contents all) bad) ∙ is))
      where
        never : ◌≡◌ {A = Option (List (List ℕ))} None (Some ps) → ⊥
        never wrong = cc
    go (Ok xs) good =
        let parts = cut_some (list_all (λ a. has_header page_kind a (block_of all a)) xs) (map (λ a. payload_of (block_of all a)) xs) ps (sym (ap (contents all) good) ∙ is) in
        (xs, good, pages_from all xs ps parts.0 parts.1)

pub all_right : (all : List (List ℕ)) (xs : List ℕ) (ps : List (List ℕ)) → ArePages all xs ps
    → (list_all (λ a. has_header page_kind a (block_of all a)) xs ≡ true) × (map (λ a. payload_of (block_of all a)) xs ≡ ps)
all_right all [] [] are = (refl, refl)
all_right all [] (p ∷ ps) are = absurd are
all_right all (x ∷ xs) [] are = absurd are
all_right all (x ∷ xs) (p ∷ ps) are =
    let rest = all_right all xs ps are.1 in
    (rw (are.0.header, rest.0) refl, ap (λ (q : List ℕ). q ∷ map (λ a. payload_of (block_of all a)) xs) are.0.content ∙ ap (λ (qs : List (List ℕ)). p ∷ qs) rest.1)

pub pages_hold : (all : List (List ℕ)) (object : Ref) (xs : List ℕ) (ps : List (List ℕ)) → addresses_of all object ≡ Ok xs → ArePages all xs ps
    → pages_of all object ≡ Some ps
pages_hold all object xs ps is are =
    let parts = all_right all xs ps are in
    ap (contents all) is ∙ ap (λ (b : Bool). if b then Some (map (λ a. payload_of (block_of all a)) xs) else None) parts.0 ∙ ap Some parts.1

pub pages_same : (all now : List (List ℕ)) (xs : List ℕ) (ps : List (List ℕ)) → ArePages all xs ps
    → ((i : ℕ) → i < length xs → block_of now (slice_index xs i) ≡ block_of all (slice_index xs i)) → ArePages now xs ps
pages_same all now [] [] are same = tt
pages_same all now [] (p ∷ ps) are same = are
pages_same all now (x ∷ xs) [] are same = are
pages_same all now (x ∷ xs) (p ∷ ps) are same =
    let here = same 0 (omega arith) in (
      record { header = ap (has_header page_kind x) here ∙ are.0.header; content = ap payload_of here ∙ are.0.content },
      pages_same all now xs ps are.1 (λ i within. same (suc i) (omega (arith, within))),
    )

pub pages_set : (all : List (List ℕ)) (xs : List ℕ) (ps : List (List ℕ)) (i a : ℕ) (p : List ℕ) → ArePages all xs ps → HoldsIn all a p
    → ArePages all (slice_set xs i a) (slice_set ps i p)
pages_set all [] [] i a p are here = tt
pages_set all [] (q ∷ ps) i a p are here = absurd are
pages_set all (x ∷ xs) [] i a p are here = absurd are
pages_set all (x ∷ xs) (q ∷ ps) zero a p are here = (here, are.1)
pages_set all (x ∷ xs) (q ∷ ps) (suc i) a p are here = (are.0, pages_set all xs ps i a p are.1 here)

pub pages_push : (all : List (List ℕ)) (xs : List ℕ) (ps : List (List ℕ)) (a : ℕ) (p : List ℕ) → ArePages all xs ps → HoldsIn all a p
    → ArePages all (xs ++ a ∷ []) (ps ++ p ∷ [])
pages_push all [] [] a p are here = (here, tt)
pages_push all [] (q ∷ ps) a p are here = absurd are
pages_push all (x ∷ xs) [] a p are here = absurd are
pages_push all (x ∷ xs) (q ∷ ps) a p are here = (are.0, pages_push all xs ps a p are.1 here)

-- what is known once a page was written and the object remapped
pub record IsPaged (all mid now : List (List ℕ)) (object : Ref) (before taken left taken' after : List ℕ) (at : ℕ) (from : List ℕ) : Type 0 where
  pub free : IsFree all mid object before taken left
  pub first : before ≡ at ∷ left
  pub distinct : IsDistinct nat_eq before
  pub fits : at < 2 ^ 32
  pub block : block_of mid at ≡ framed page_kind at 0 from
  pub same : SameBeside taken' mid now
  pub split : left ≡ taken' ++ after

-- the new page is where it was put
pub new_page : (all mid now : List (List ℕ)) (object : Ref) (before taken left taken' after : List ℕ) (at : ℕ) (from : List ℕ)
    → IsPaged all mid now object before taken left taken' after at from → HoldsIn now at from
new_page all mid now object before taken left taken' after at from paged =
    let parts = distinct_parts at left (subst (IsDistinct nat_eq) paged.first paged.distinct) in
    let apart = holds-append taken' after at (ap (λ (t : List ℕ). holds t at) (sym paged.split) ∙ parts.0) in
    let here : block_of now at ≡ framed page_kind at 0 from = paged.same.others at apart.0 ∙ paged.block in
    record {
      header = ap (has_header page_kind at) here ∙ has_header-framed page_kind at 0 from (omega arith) paged.fits (omega arith) (inr refl);
      content = ap payload_of here ∙ payload_of-framed page_kind at 0 from;
    }

-- the old pages stay where they were
pub old_pages : (all mid now : List (List ℕ)) (object : Ref) (before taken left taken' after : List ℕ) (at : ℕ) (from xs : List ℕ) (ps : List (List ℕ))
    → IsPaged all mid now object before taken left taken' after at from → addresses_of all object ≡ Ok xs → ArePages all xs ps → ArePages now xs ps
old_pages all mid now object before taken left taken' after at from xs ps paged is are = pages_same all now xs ps are
    (λ i inside.
    let count = addresses_count all object xs paged.free.few is in
    let within : i < object.pages = omega (arith, inside, count) in
    let none = paged.free.apart.pages i (slice_index xs i) within (address_at all object xs i paged.free.few is within) in
    let free = free_of all mid object before taken left paged.free (slice_index xs i) none in
    let later = holds-append taken' after (slice_index xs i) (ap (λ (t : List ℕ). holds t (slice_index xs i)) (sym paged.split) ∙ free.1) in
    paged.same.others (slice_index xs i) later.0 ∙ paged.free.same.others (slice_index xs i) free.0)

-- and all that it reaches
blocks_same : (all now : List (List ℕ)) (object : Ref) (before taken left : List ℕ) → IsFree all now object before taken left
    → blocks_of now object ≡ blocks_of all object
blocks_same all now object before taken left free =
    ap (λ (r : Result (List ℕ) ℕ). joined (Ok (top_of true object)) (listed_in true now object.pages r)) (leaves_same all now object before taken left free)
    ∙ go (leaves_of all object) refl
  where
    go : (r : Result (List ℕ) ℕ) → leaves_of all object ≡ r
        → joined (Ok (top_of true object)) (listed_in true now object.pages r) ≡ joined (Ok (top_of true object)) (listed_in true all object.pages r)
    go (Err b) is = refl
    go (Ok ls) is =
        ap (joined (Ok (top_of true object)))
        (listed_same true all now object.pages ls free.same.size
        (λ j inside.
        free.same.others (slice_index ls j) (free_of all now object before taken left free (slice_index ls j) (free.apart.leaves ls is j 0 inside)).0))

-- what became of an object as it was after a page was put became of it as it was before
pub remapped_before : (all mid now : List (List ℕ)) (object new : Ref) (before taken left : List ℕ) (xs ys zs rest after : List ℕ)
    → IsFree all mid object before taken left → HasRemapped mid now object new xs zs rest after → zs ≡ ys → HasRemapped all now object new xs ys rest after
remapped_before all mid now object new before taken left xs ys zs rest after free remapped same =
    subst (λ (t : List ℕ). HasRemapped all now object new xs t rest after) same record {
      size = remapped.size;
      addresses = remapped.addresses;
      count = remapped.count;
      maps = λ ls ms is_old is_new. remapped.maps ls ms (leaves_same all mid object before taken left free ∙ is_old) is_new;
      apart = remapped.apart;
      reach = record {
        blocks = remapped.reach.blocks;
        is = remapped.reach.is;
        among = λ reached is. remapped.reach.among reached (blocks_same all mid object before taken left free ∙ is);
      };
    }

-- What an object reaches, part by part.
use Rattle.std.specs.Prelude.{◌≡◌, ℕ, zero, suc, ◌+◌, ◌-◌, ◌<◌, ◌≤◌, min, Bool, true, false, ◌&&◌, List, [], ◌∷◌, ◌++◌, length, map, slice_index, slice_index_or, if◌then◌else◌, Result, Ok, Err, Some, None}
use Rattle.std.specs.List.{All, list_all}
use Rattle.std.proofs.Common.{refl, sym, ap, subst, ◌∙◌, inl, inr, arith, length-append}
use Rattle.std.proofs.lemmas.List.{get_or_append_left, get_or-append_right}
use Rattle.std.proofs.lemmas.Bool.{cases_lt}
use Rattle.iq_outside.specs.Devices.{block_of}
use Rattle.iq_block_store.specs.Frames.{page_kind, has_header, payload_of}
use Rattle.iq_base.specs.declared.refs.Ref.{Ref}
use Rattle.iq_block_map.specs.Objects.{leaf_count, map_at, leaves_of, listed, listed_in, joined, top_of, walked, address_of, addresses_of, blocks_of, contents}
use Rattle.iq_block_map.specs.Writing.{holds}
use Rattle.iq_block_map.specs.Editing.{AreApart}
use Rattle.iq_block_map.specs.Laws.{SameOn, SameObject}
use Rattle.iq_block_map.proofs.StepLemmas.{listed_same, map_same, both_parts, ok_is}
use Rattle.iq_block_map.proofs.TopLemmas.{leaves_one, leaves_many, leaves_none, top_one, addresses_from, addresses_count}
use Rattle.iq_block_map.proofs.ReachLemmas.{address_at}

pub all_front : (P : ℕ → Type 0) (xs ys : List ℕ) → All P (xs ++ ys) → All P xs
all_front P xs ys each k d within =
    subst P (get_or_append_left xs ys d k within) (each k d (omega (arith, within, length-append xs ys)))

pub all_back : (P : ℕ → Type 0) (xs ys : List ℕ) → All P (xs ++ ys) → All P ys
all_back P xs ys each k d within =
    let at : slice_index_or (xs ++ ys) (length xs + k) d ≡ slice_index_or ys k d
    = get_or-append_right xs ys (length xs) (length xs + k) d refl (omega arith) ∙ ap (λ (n : ℕ). slice_index_or ys n d) (omega arith) in
    subst P at (each (length xs + k) d (omega (arith, within, length-append xs ys)))

pub all_cons : (P : ℕ → Type 0) (x : ℕ) (xs : List ℕ) → P x → All P xs → All P (x ∷ xs)
all_cons P x xs here rest zero d within = here
all_cons P x xs here rest (suc k) d within = rest k d (omega (arith, within))

pub all_both : (P : ℕ → Type 0) (xs ys : List ℕ) → All P xs → All P ys → All P (xs ++ ys)
all_both P [] ys first second = second
all_both P (x ∷ xs) ys first second =
    all_cons P x (xs ++ ys) (first 0 0 (omega arith)) (all_both P xs ys (λ k d within. first (suc k) d (omega (arith, within))) second)

-- what holds of all that leaves reach holds of the leaves and of their pages
pub record HoldsOfParts (P : ℕ → Type 0) (all : List (List ℕ)) (pages : ℕ) (ls : List ℕ) : Type 0 where
  pub leaves : All P ls
  pub xs : List ℕ
  pub named : listed false all pages ls ≡ Ok xs
  pub pages_of_them : All P xs

parts_of : (P : ℕ → Type 0) (all : List (List ℕ)) (pages : ℕ) (ls bs : List ℕ) → listed true all pages ls ≡ Ok bs → All P bs → HoldsOfParts P all pages ls
parts_of P all pages [] bs is each = record {
  leaves = λ k d within. absurd (omega (arith, within));
  xs = [];
  named = refl;
  pages_of_them = λ k d within. absurd (omega (arith, within));
}
parts_of P all pages (l ∷ ls) bs is each =
    let parts = both_parts (joined (Ok (l ∷ [])) (map_at all 1 (min 252 pages) l)) (listed true all (pages - 252) ls) bs is in
    let first = both_parts (Ok (l ∷ [])) (map_at all 1 (min 252 pages) l) parts.0 parts.2 in
    let one : l ∷ [] ≡ first.0 = cc in
    let here : All P (parts.0 ++ parts.1) = subst (All P) parts.4 each in
    let mine : All P (first.0 ++ first.1) = subst (All P) first.4 (all_front P parts.0 parts.1 here) in
    let leaf : All P (l ∷ []) = subst (All P) (sym one) (all_front P first.0 first.1 mine) in
    let named : All P first.1 = all_back P first.0 first.1 mine in
    let rest = parts_of P all (pages - 252) ls parts.1 parts.3 (all_back P parts.0 parts.1 here) in
    record {
      leaves = all_cons P l ls (leaf 0 0 (omega arith)) rest.leaves;
      xs = first.1 ++ rest.xs;
      named =
          ap (λ (r : Result (List ℕ) ℕ). joined (joined (Ok []) r) (listed false all (pages - 252) ls)) first.3
          ∙ ap (joined (Ok first.1)) rest.named;
      pages_of_them = all_both P first.1 rest.xs named rest.pages_of_them;
    }

-- the same of all that an object reaches
pub record HoldsOfObject (P : ℕ → Type 0) (all : List (List ℕ)) (object : Ref) : Type 0 where
  pub top : All P (top_of true object)
  pub ls : List ℕ
  pub is : leaves_of all object ≡ Ok ls
  pub parts : HoldsOfParts P all object.pages ls

no_list : (xs : List ℕ) (b : ℕ) → ◌≡◌ {A = Result (List ℕ) ℕ} (Err b) (Ok xs) → ⊥
no_list xs b wrong = cc

pub object_parts : (P : ℕ → Type 0) (all : List (List ℕ)) (object : Ref) (bs : List ℕ) → blocks_of all object ≡ Ok bs → All P bs → HoldsOfObject P all object
object_parts P all object bs is each =
    let parts = both_parts (Ok (top_of true object)) (listed_in true all object.pages (leaves_of all object)) bs is in
    let top : top_of true object ≡ parts.0 = ok_is (top_of true object) parts.0 (Ok (top_of true object)) refl parts.2 in
    let here : All P (parts.0 ++ parts.1) = subst (All P) parts.4 each in
    go (leaves_of all object) refl (subst (All P) (sym top) (all_front P parts.0 parts.1 here)) parts.1 parts.3 (all_back P parts.0 parts.1 here)
  where
    go : (r : Result (List ℕ) ℕ) → leaves_of all object ≡ r → All P (top_of true object) → (ys : List ℕ)
        → listed_in true all object.pages (leaves_of all object) ≡ Ok ys → All P ys → HoldsOfObject P all object
    go (Err b) leaves top ys read rest = absurd (no_list ys b (sym (ap (listed_in true all object.pages) leaves) ∙ read))
    go (Ok ls) leaves top ys read rest = record {
      top = top;
      ls = ls;
      is = leaves;
      parts = parts_of P all object.pages ls ys (sym (ap (listed_in true all object.pages) leaves) ∙ read) rest;
    }

same_top : (all now : List (List ℕ)) (object : Ref) → length now ≡ length all → All (λ b. block_of now b ≡ block_of all b) (top_of true object)
    → leaves_of now object ≡ leaves_of all object
same_top all now object size top = elim (cases_lt 252 object.pages) [
  | inl many ↦
      (let root : block_of now object.root ≡ block_of all object.root
      = subst (All (λ b. block_of now b ≡ block_of all b)) (top_one object many) top 0 0 (omega arith) in
      leaves_many now object many ∙ map_same all now 2 (leaf_count object.pages) object.root size root ∙ sym (leaves_many all object many))
  | inr less ↦ (elim (cases_lt 0 object.pages) [
    | inl some ↦ leaves_one now object (omega (arith, some)) less ∙ sym (leaves_one all object (omega (arith, some)) less)
    | inr none ↦ leaves_none now object (omega (arith, none)) ∙ sym (leaves_none all object (omega (arith, none)))
  ])
]

pub same_right : (all now : List (List ℕ)) (xs : List ℕ) → All (λ b. block_of now b ≡ block_of all b) xs
    → list_all (λ a. has_header page_kind a (block_of now a)) xs ≡ list_all (λ a. has_header page_kind a (block_of all a)) xs
same_right all now [] same = refl
same_right all now (x ∷ xs) same =
    ap (λ (block : List ℕ). has_header page_kind x block && list_all (λ a. has_header page_kind a (block_of now a)) xs) (same 0 0 (omega arith))
    ∙ ap (λ (b : Bool). has_header page_kind x (block_of all x) && b) (same_right all now xs (λ k d within. same (suc k) d (omega (arith, within))))

pub same_contents : (all now : List (List ℕ)) (xs : List ℕ) → All (λ b. block_of now b ≡ block_of all b) xs
    → map (λ a. payload_of (block_of now a)) xs ≡ map (λ a. payload_of (block_of all a)) xs
same_contents all now [] same = refl
same_contents all now (x ∷ xs) same =
    ap (λ (block : List ℕ). payload_of block ∷ map (λ a. payload_of (block_of now a)) xs) (same 0 0 (omega arith))
    ∙ ap (λ (ps : List (List ℕ)). payload_of (block_of all x) ∷ ps) (same_contents all now xs (λ k d within. same (suc k) d (omega (arith, within))))

pub frame_law : (all now : List (List ℕ)) (object : Ref) (blocks : List ℕ) → object.pages ≤ 63504 → blocks_of all object ≡ Ok blocks
    → SameOn blocks all now → SameObject all now object
frame_law all now object blocks few is same =
    let held = object_parts (λ b. block_of now b ≡ block_of all b) all object blocks is same.blocks in
    let leaves : leaves_of now object ≡ leaves_of all object = same_top all now object same.size held.top in
    let each : (j : ℕ) → j < length held.ls → block_of now (slice_index held.ls j) ≡ block_of all (slice_index held.ls j)
    = λ j within. held.parts.leaves j 0 within in
    let walk : (maps : Bool) → walked maps now object ≡ walked maps all object
    = λ maps.
    ap (λ (r : Result (List ℕ) ℕ). joined (Ok (top_of maps object)) (listed_in maps now object.pages r)) (leaves ∙ held.is)
    ∙ ap (joined (Ok (top_of maps object))) (listed_same maps all now object.pages held.ls same.size each)
    ∙ ap (λ (r : Result (List ℕ) ℕ). joined (Ok (top_of maps object)) (listed_in maps all object.pages r)) (sym held.is) in
    let named : addresses_of all object ≡ Ok held.parts.xs = addresses_from all object held.ls (Ok held.parts.xs) held.is held.parts.named in
    record {
      leaves = leaves;
      addresses = walk false;
      blocks = walk true;
      pages =
          ap (contents now) (walk false ∙ named)
          ∙ ap (λ (b : Bool). if b then Some (map (λ a. payload_of (block_of now a)) held.parts.xs) else None) (same_right all now held.parts.xs held.parts.pages_of_them)
          ∙ ap (λ (ps : List (List ℕ)). if list_all (λ a. has_header page_kind a (block_of all a)) held.parts.xs then Some ps else None)
          (same_contents all now held.parts.xs held.parts.pages_of_them)
          ∙ sym (ap (contents all) named);
    }

pub apart_law : (all : List (List ℕ)) (object : Ref) (blocks left : List ℕ) → object.pages ≤ 63504 → blocks_of all object ≡ Ok blocks
    → All (λ b. holds left b ≡ false) blocks → AreApart all object left
apart_law all object blocks left few is free =
    let held = object_parts (λ b. holds left b ≡ false) all object blocks is free in
    let named : addresses_of all object ≡ Ok held.parts.xs = addresses_from all object held.ls (Ok held.parts.xs) held.is held.parts.named in
    record {
      top = held.top;
      leaves = λ ls is_ok. subst (All (λ b. holds left b ≡ false)) (ok_is held.ls ls (leaves_of all object) held.is is_ok) held.parts.leaves;
      pages = λ n a within at.
          let count = addresses_count all object held.parts.xs few named in
          let here : slice_index held.parts.xs n ≡ a = same_ok (slice_index held.parts.xs n) a (address_of all object n) (address_at all object held.parts.xs n few named within) at in
          subst (λ (b : ℕ). holds left b ≡ false) here (held.parts.pages_of_them n 0 (omega (arith, within, count)));
    }
  where
    same_ok : (a b : ℕ) (r : Result ℕ ℕ) → r ≡ Ok a → r ≡ Ok b → a ≡ b
    same_ok a b r one two = cc

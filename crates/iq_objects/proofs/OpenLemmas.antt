-- What is read of an object that is opened.
use Rattle.std.specs.Prelude.{◌≡◌, ℕ, ◌<◌, ◌≤◌, ◌^◌, ◌==◌, Bool, true, false, ◌&&◌, cond, List, [], ◌∷◌, length, take, slice_index, slice_index_or, nat_eq, nat_lt, Ok}
use Rattle.std.specs.List.{All}
use Rattle.std.proofs.Common.{refl, sym, ap, subst, ◌∙◌, inl, inr, arith}
use Rattle.std.proofs.lemmas.List.{length-take, get_or-take, get_or_default}
use Rattle.std.proofs.lemmas.Bool.{cases_lt, ne_eqb, lt-ltb, le-ltb, le-leb, lt-leb}
use Rattle.iq_base.specs.declared.refs.Ref.{Ref}
use Rattle.iq_block_map.specs.Maps.{is_address}
use Rattle.iq_block_map.specs.Objects.{leaf_count, used_in, map_at, leaves_of, listed, addresses_of, top_of}
use Rattle.iq_block_map.specs.Writing.{holds}
use Rattle.iq_block_map.specs.Laws.{times}
use Rattle.iq_block_map.proofs.NamedLemmas.{map_names}
use Rattle.iq_block_map.proofs.StepLemmas.{ok_is, listed_at}
use Rattle.iq_block_map.proofs.PutLemmas.{address_is}
use Rattle.iq_block_map.proofs.FrameLaws.{object_parts, all_cons}
use Rattle.iq_block_map.proofs.ReachedLemmas.{all_none}
use Rattle.iq_block_map.proofs.TopLemmas.{addresses_from, leaves_one, leaves_none, leaves_many, top_none, top_one}
use Rattle.iq_block_map.proofs.TradeLaws.{reaches_parts, pages_inside}
use Rattle.iq_objects.specs.Open.{Held, unwritten, root_of, ref_of, leaves_in}
use Rattle.iq_objects.specs.Opened.{IsOpened}
use Rattle.iq_objects.proofs.CountLemmas.{times-cons}
use Rattle.iq_objects.proofs.CloseLemmas.{zero_none, root_many, root_one}
use Rattle.iq_objects.proofs.PageLemmas.{held_times, no_zero}

-- the leaves, as the object's size says
pub in_many : (object : Ref) (ps : List ℕ) → 252 < object.pages → leaves_in object ps ≡ take (leaf_count object.pages) ps
in_many object ps many = rw (lt-leb object.pages 252 many) refl

pub in_one : (object : Ref) (ps : List ℕ) → 1 ≤ object.pages → object.pages ≤ 252 → leaves_in object ps ≡ object.root ∷ []
in_one object ps some few = rw (le-leb object.pages 252 few, ne_eqb object.pages 0 (λ is. none is)) refl
  where
    none : object.pages ≡ 0 → ⊥
    none is = omega (arith, is, some)

pub in_none : (object : Ref) (ps : List ℕ) → object.pages ≡ 0 → leaves_in object ps ≡ []
in_none object ps none = rw none refl

pub leaves_read : (object : Ref) (ps : List ℕ) (all : List (List ℕ)) → leaves_of all object ≡ Ok (take (leaf_count object.pages) ps)
    → take (leaf_count object.pages) ps ≡ leaves_in object ps
leaves_read object ps all is = elim (cases_lt 252 object.pages) [
  | inl many ↦ sym (in_many object ps many)
  | inr less ↦ (elim (cases_lt 0 object.pages) [
    | inl some ↦ ok_is _ _ (leaves_of all object) is (leaves_one all object (omega (arith, some)) less) ∙ sym (in_one object ps (omega (arith, some)) less)
    | inr none ↦ ok_is _ _ (leaves_of all object) is (leaves_none all object (omega (arith, none))) ∙ sym (in_none object ps (omega (arith, none)))
  ])
]

pub leaves_size : (object : Ref) (ps : List ℕ) → object.pages ≤ 63504 → length ps ≡ 252 → length (leaves_in object ps) ≡ leaf_count object.pages
leaves_size object ps few size = elim (cases_lt 252 object.pages) [
  | inl many ↦ ap length (in_many object ps many) ∙ length-take (leaf_count object.pages) ps ∙ omega (arith, few, size)
  | inr less ↦ (elim (cases_lt 0 object.pages) [
    | inl some ↦ ap length (in_one object ps (omega (arith, some)) less) ∙ omega (arith, some, less)
    | inr none ↦ ap length (in_none object ps (omega (arith, none))) ∙ omega (arith, none)
  ])
]

pub leaves_four : (object : Ref) (ps : List ℕ) → object.pages ≤ 63504 → length ps ≡ 252 → (1 ≤ object.pages → 4 ≤ object.root)
    → ((k : ℕ) → k < leaf_count object.pages → 4 ≤ slice_index ps k) → All (λ a. 4 ≤ a) (leaves_in object ps)
leaves_four object ps few size root each = elim (cases_lt 252 object.pages) [
  | inl many ↦ subst (All (λ a. 4 ≤ a)) (sym (in_many object ps many)) (λ k d within.
      let cut : length (take (leaf_count object.pages) ps) ≡ leaf_count object.pages = length-take (leaf_count object.pages) ps ∙ omega (arith, few, size) in
      let inner : k < leaf_count object.pages = omega (arith, within, cut) in
      let at : slice_index_or (take (leaf_count object.pages) ps) k d ≡ slice_index ps k
      = get_or-take (leaf_count object.pages) ps k d inner ∙ get_or_default ps k d 0 (omega (arith, inner, few, size)) in
      let four = each k inner in
      omega (arith, at, four))
  | inr less ↦ (elim (cases_lt 0 object.pages) [
    | inl some ↦ subst (All (λ a. 4 ≤ a)) (sym (in_one object ps (omega (arith, some)) less)) (all_cons (λ a. 4 ≤ a) object.root [] (root (omega (arith, some))) (all_none (λ a. 4 ≤ a)))
    | inr none ↦ subst (All (λ a. 4 ≤ a)) (sym (in_none object ps (omega (arith, none)))) (all_none (λ a. 4 ≤ a))
  ])
]

-- leaves are blocks of the store
leaves_inside : (all : List (List ℕ)) (object : Ref) (ls : List ℕ) → (1 ≤ object.pages → 4 ≤ object.root) → (1 ≤ object.pages → object.root < length all)
    → leaves_of all object ≡ Ok ls → All (λ a. is_address (length all) a ≡ true) ls
leaves_inside all object ls above below is = elim (cases_lt 252 object.pages) [
  | inl many ↦ map_names all 2 (leaf_count object.pages) object.root ls (sym (leaves_many all object many) ∙ is)
  | inr less ↦ (elim (cases_lt 0 object.pages) [
    | inl some ↦
        (let one : object.root ∷ [] ≡ ls = ok_is (object.root ∷ []) ls (leaves_of all object) (leaves_one all object (omega (arith, some)) less) is in
        let here = address_is (length all) object.root (above (omega (arith, some))) (below (omega (arith, some))) in
        subst (All (λ a. is_address (length all) a ≡ true)) one (all_cons (λ a. is_address (length all) a ≡ true) object.root [] here (all_none (λ a. is_address (length all) a ≡ true))))
    | inr none ↦
        (let no_one : [] ≡ ls = ok_is [] ls (leaves_of all object) (leaves_none all object (omega (arith, none))) is in
        subst (All (λ a. is_address (length all) a ≡ true)) no_one (all_none (λ a. is_address (length all) a ≡ true)))
  ])
]

-- what was read of an object is that object, opened
pub opened_is : (object : Ref) (o : Held) (all : List (List ℕ)) → length all < 2 ^ 32 → object.pages ≤ 63504 → (1 ≤ object.pages → 4 ≤ object.root)
    → (1 ≤ object.pages → object.root < length all) → leaves_of all object ≡ Ok o.leaves → listed false all object.pages o.leaves ≡ Ok o.pages
    → length o.pages ≡ object.pages → length o.leaves ≡ leaf_count object.pages → (252 < object.pages → o.top ≡ object.root)
    → (object.pages ≤ 252 → o.top ≡ 0) → o.lost ≡ [] → IsOpened object o all
opened_is object o all fits few above below leaves named size count high low none =
    let pages : addresses_of all object ≡ Ok o.pages = addresses_from all object o.leaves (Ok o.pages) leaves named in
    let parts = reaches_parts all object o.leaves o.pages leaves pages in
    record {
      pages = pages;
      leaves = leaves;
      blocks = parts.blocks;
      reached = parts.is;
      each = λ b some. elim (cases_lt 252 object.pages) [
        | inl many ↦
            (let top : times b (top_of true object) ≡ times b (o.top ∷ []) = ap (times b) (top_one object many ∙ ap (λ (x : ℕ). x ∷ []) (sym (high many))) in
            omega (arith, held_times b o, parts.parts b, top, times-cons b o.top [], ap (times b) none))
        | inr less ↦
            (let top : times b (top_of true object) ≡ 0 = ap (times b) (top_none object less) in
            let gone : ◌≡◌ {A = ℕ} (cond (o.top == b) 1 0) 0 = ap {B = ℕ} (λ (x : ℕ). cond (x == b) 1 0) (low less) ∙ no_zero b some in
            omega (arith, held_times b o, parts.parts b, top, gone, ap (times b) none))
      ];
      stands = λ left zero_free free.
          let P : ℕ → Type 0 = λ b. holds left b ≡ false in
          let held = object_parts P all object parts.blocks parts.is free in
          let same : held.ls ≡ o.leaves = ok_is held.ls o.leaves (leaves_of all object) held.is leaves in
          let same_pages : held.parts.xs ≡ o.pages
          = ok_is held.parts.xs o.pages (listed false all object.pages held.ls) held.parts.named (ap (listed false all object.pages) same ∙ named) in
          let inside = leaves_inside all object o.leaves above below leaves in
          record {
            fits = fits;
            pages = pages_inside all object o.pages pages;
            leaf_places = λ k d within some. inside k d within;
            leaves = λ k within some.
                ap (λ (n : ℕ). map_at all 1 (used_in n k) (slice_index o.leaves k)) size
                ∙ listed_at all object.pages k o.leaves o.pages named (omega (arith, count)) within;
            top_place = λ some. elim (cases_lt 252 object.pages) [
              | inl many ↦ ap (is_address (length all)) (high many) ∙ address_is (length all) object.root (above (omega (arith, many))) (below (omega (arith, many)))
              | inr less ↦ absurd (omega (arith, some, low less))
            ];
            top = λ some. elim (cases_lt 252 object.pages) [
              | inl many ↦
                  ap (map_at all 2 (length o.leaves)) (high many) ∙ ap (λ (n : ℕ). map_at all 2 n object.root) count
                  ∙ sym (leaves_many all object many) ∙ leaves
              | inr less ↦ absurd (omega (arith, some, low less))
            ];
            free_pages = subst (All P) same_pages held.parts.pages_of_them;
            free_leaves = subst (All P) same held.parts.leaves;
            free_top = elim (cases_lt 252 object.pages) [
              | inl many ↦ ap (holds left) (high many) ∙ subst (All P) (top_one object many) held.top 0 0 (omega arith)
              | inr less ↦ ap (holds left) (low less) ∙ zero_free
            ];
            free_lost = subst (All P) (sym none) (all_none P);
          };
    }

-- no map of it is to be written
pub opened_settled : (object : Ref) (o : Held) → length o.pages ≡ object.pages → (1 ≤ object.pages → 4 ≤ object.root) → All (λ a. 4 ≤ a) o.leaves
    → (252 < object.pages → o.top ≡ object.root) → unwritten o ≡ 0
opened_settled object o size above each high =
    let none : times 0 o.leaves ≡ 0 = zero_none o.leaves (λ k within. let four = each k 0 within in omega (arith, four)) in
    elim (cases_lt 252 object.pages) [
      | inl many ↦
          (let four = above (omega (arith, many)) in
          let top : nat_eq o.top 0 ≡ false = ne_eqb o.top 0 (λ is. never four (high many) is) in
          let here : ◌≡◌ {A = ℕ} (cond (nat_lt 252 (length o.pages) && nat_eq o.top 0) 1 0) 0
          = ap {B = ℕ} (λ (t : Bool). cond (t && nat_eq o.top 0) 1 0) (lt-ltb 252 (length o.pages) (omega (arith, many, size)))
          ∙ ap {B = ℕ} (λ (t : Bool). cond t 1 0) top in
          omega (arith, none, here))
      | inr less ↦
          (let here : ◌≡◌ {A = ℕ} (cond (nat_lt 252 (length o.pages) && nat_eq o.top 0) 1 0) 0
          = ap {B = ℕ} (λ (t : Bool). cond (t && nat_eq o.top 0) 1 0) (le-ltb 252 (length o.pages) (omega (arith, less, size))) in
          omega (arith, none, here))
    ]
  where
    never : 4 ≤ object.root → o.top ≡ object.root → o.top ≡ 0 → ⊥
    never four one two = omega (arith, four, one, two)

-- and its reference is the one that it was opened with
pub opened_ref : (object : Ref) (o : Held) (ps : List ℕ) → length o.pages ≡ object.pages → o.leaves ≡ leaves_in object ps
    → (252 < object.pages → o.top ≡ object.root) → 1 ≤ object.pages → ref_of o ≡ object
opened_ref object o ps size leaves high some = elim (cases_lt 252 object.pages) [
  | inl many ↦ same_ref (root_of o) (length o.pages) object (root_many o (omega (arith, many, size)) ∙ high many) size
  | inr less ↦
      (let first : slice_index o.leaves 0 ≡ object.root = ap (λ (xs : List ℕ). slice_index xs 0) (leaves ∙ in_one object ps some less) in
      same_ref (root_of o) (length o.pages) object (root_one o (omega (arith, some, size)) (omega (arith, less, size)) ∙ first) size)
]
  where
    same_ref : (root pages : ℕ) (object : Ref) → root ≡ object.root → pages ≡ object.pages → ◌≡◌ {A = Ref} (record { root = root; pages = pages }) object
    same_ref root pages object one two = ap (λ (r : ℕ). record { root = r; pages = pages }) one ∙ ap (λ (n : ℕ). record { root = object.root; pages = n }) two

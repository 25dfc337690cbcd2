-- What is known of steps none of which is at fault.
use Rattle.std.specs.Prelude.{◌≡◌, ◌≢◌, ℕ, ◌<◌, ◌≤◌, ◌-◌, min, Bool, true, false, List, [], ◌∷◌, ◌++◌, length, nat_eq, slice_index_or, slice_set, Option, Some, None, Result, Ok}
use Rattle.std.specs.List.{All, list_all}
use Rattle.std.proofs.Common.{refl, sym, ap, ◌∙◌, inl, inr, arith, length-set, append-nil}
use Rattle.std.proofs.lemmas.List.{get_or-set_other, get_or-set_same, get_or_past}
use Rattle.std.proofs.lemmas.Bool.{and_parts, ltb-true, cases_eq, cases_lt}
use Rattle.iq_outside.specs.Devices.{block_of}
use Rattle.iq_block_store.specs.Frames.{map_kind, page_kind, has_header, number_at}
use Rattle.iq_base.specs.declared.refs.Ref.{Ref}
use Rattle.iq_block_map.specs.Maps.{is_address}
use Rattle.iq_block_map.specs.Objects.{leaf_count, map_at, listed, blocks_of}
use Rattle.iq_block_map.proofs.FrameLaws.{all_cons, all_both}
use Rattle.iq_block_map.proofs.TopLemmas.{leaves_one, leaves_none, leaves_many, top_none, top_one}
use Rattle.iq_opening.proofs.Parts.{low_object, high_object}
use Rattle.iq_opening.specs.declared.faults.StoreCause.{StoreCause}
use Rattle.iq_opening.specs.declared.faults.StoreCause.TheVariants.{OutOfRange, BadHeader, BadMap}
use Rattle.iq_opening.specs.Steps.{Step, visit, visit_map, page_steps, leaf_steps, leaves_steps, high_steps, object_steps, named}
use Rattle.iq_opening.specs.Walk.{Fault, unless, first_of, is_reached, reach_fault, is_map_of, is_spare_zero, fault_at, reached_after, unless_fault, walked}

-- both parts of a way without a fault
pub record Split (all : List (List ℕ)) (before after : List Bool) (xs ys : List Step) : Type 0 where
  pub mid : List Bool
  pub first : walked all before xs ≡ Ok mid
  pub second : walked all mid ys ≡ Ok after

passed_on : (o : Option Fault) (r : Result (List Bool) Fault) (after : List Bool) → unless_fault o r ≡ Ok after → (o ≡ None) × (r ≡ Ok after)
passed_on (Some f) r after is = cc
passed_on None r after is = (refl, is)

not_faulty : (o : Option Fault) (r s : Result (List Bool) Fault) → o ≡ None → r ≡ s → unless_fault o r ≡ s
not_faulty o r s none is = rw none is

-- the first step, and the others
pub step_passed : (all : List (List ℕ)) (before after : List Bool) (x : Step) (xs : List Step) → walked all before (x ∷ xs) ≡ Ok after
    → (fault_at all before x ≡ None) × (walked all (reached_after before x) xs ≡ Ok after)
unfolding walked
step_passed all before after x xs is = passed_on (fault_at all before x) (walked all (reached_after before x) xs) after is

pub step_passes : (all : List (List ℕ)) (before after : List Bool) (x : Step) (xs : List Step) → fault_at all before x ≡ None
    → walked all (reached_after before x) xs ≡ Ok after → walked all before (x ∷ xs) ≡ Ok after
unfolding walked
step_passes all before after x xs none is = not_faulty (fault_at all before x) (walked all (reached_after before x) xs) (Ok after) none is

pub split : (all : List (List ℕ)) (before after : List Bool) (xs ys : List Step) → walked all before (xs ++ ys) ≡ Ok after
    → Split all before after xs ys
unfolding walked
split all before after [] ys is = record { mid = before; first = refl; second = is }
split all before after (x ∷ xs) ys is =
    let passed = step_passed all before after x (xs ++ ys) is in
    let rest = split all (reached_after before x) after xs ys passed.1 in
    record {
      mid = rest.mid;
      first = step_passes all before rest.mid x xs passed.0 rest.first;
      second = rest.second;
    }

-- what is reached stays so
stays_set : (reached : List Bool) (at b : ℕ) → is_reached reached b ≡ true → is_reached (slice_set reached at true) b ≡ true
stays_set reached at b is = elim (cases_eq b at) [
  | inl same ↦ (elim (cases_lt b (length reached)) [
    | inl within ↦ ap (λ (i : ℕ). is_reached (slice_set reached i true) b) (sym same) ∙ get_or-set_same reached b true false within
    | inr past ↦ absurd (true_false (sym is ∙ get_or_past reached b false past))
  ])
  | inr other ↦ get_or-set_other reached at b true false other ∙ is
]
  where
    true_false : ◌≡◌ {A = Bool} true false → ⊥
    true_false e = cc

pub stays_after : (reached : List Bool) (x : Step) (b : ℕ) → is_reached reached b ≡ true → is_reached (reached_after reached x) b ≡ true
stays_after reached (Step.visit holder at kind) b is = stays_set reached at b is
stays_after reached (Step.visit_map holder at level used) b is = stays_set reached at b is
stays_after reached (Step.table format head before) b is = is

pub size_after : (reached : List Bool) (x : Step) → length (reached_after reached x) ≡ length reached
size_after reached (Step.visit holder at kind) = length-set reached at true
size_after reached (Step.visit_map holder at level used) = length-set reached at true
size_after reached (Step.table format head before) = refl

pub stays : (all : List (List ℕ)) (before after : List Bool) (xs : List Step) (b : ℕ) → walked all before xs ≡ Ok after
    → is_reached before b ≡ true → is_reached after b ≡ true
unfolding walked
stays all before after [] b is here = ap (λ (r : List Bool). is_reached r b) (ok_same before after is) ∙ here
  where
    ok_same : (x y : List Bool) → ◌≡◌ {A = Result (List Bool) Fault} (Ok x) (Ok y) → y ≡ x
    ok_same x y e = cc
stays all before after (x ∷ xs) b is here =
    let passed = step_passed all before after x xs is in
    stays all (reached_after before x) after xs b passed.1 (stays_after before x b here)

pub size_walked : (all : List (List ℕ)) (before after : List Bool) (xs : List Step) → walked all before xs ≡ Ok after → length after ≡ length before
unfolding walked
size_walked all before after [] is = ap length (ok_same before after is)
  where
    ok_same : (x y : List Bool) → ◌≡◌ {A = Result (List Bool) Fault} (Ok x) (Ok y) → y ≡ x
    ok_same x y e = cc
size_walked all before after (x ∷ xs) is =
    let passed = step_passed all before after x xs is in
    size_walked all (reached_after before x) after xs passed.1 ∙ size_after before x

-- what passed tests says
both_none : (a b : Option Fault) → first_of a b ≡ None → (a ≡ None) × (b ≡ None)
both_none (Some f) b is = cc
both_none None b is = (refl, is)

pub unless_none : (v : Bool) (block : ℕ) (cause : StoreCause) → unless v block cause ≡ None → v ≡ true
unless_none true block cause is = refl
unless_none false block cause is = cc

-- a block that an address led to
pub record Visited (all : List (List ℕ)) (after : List Bool) (at : ℕ) : Type 0 where
  pub address : is_address (length all) at ≡ true
  pub reached : is_reached after at ≡ true

visited : (all : List (List ℕ)) (before after : List Bool) (holder at : ℕ) (xs : List Step) → length before ≡ length all
    → reach_fault (length all) before holder at ≡ None → walked all (slice_set before at true) xs ≡ Ok after → Visited all after at
visited all before after holder at xs size may is =
    let address : is_address (length all) at ≡ true = unless_none (is_address (length all) at) holder OutOfRange (both_none _ _ may).0 in
    let below : at < length all = ltb-true _ _ (and_parts _ _ address).1 in
    let within : at < length before = omega (arith, below, size) in
    record {
      address = address;
      reached = stays all (slice_set before at true) after xs at is (get_or-set_same before at true false within);
    }

pub record VisitPassed (all : List (List ℕ)) (before after : List Bool) (at kind : ℕ) (xs : List Step) : Type 0 where
  pub here : Visited all after at
  pub header : has_header kind at (block_of all at) ≡ true
  pub rest : walked all (slice_set before at true) xs ≡ Ok after

pub visit_passed : (all : List (List ℕ)) (before after : List Bool) (holder at kind : ℕ) (xs : List Step) → length before ≡ length all
    → walked all before (visit holder at kind ∷ xs) ≡ Ok after → VisitPassed all before after at kind xs
unfolding fault_at
visit_passed all before after holder at kind xs size is =
    let passed = step_passed all before after (visit holder at kind) xs is in
    let tests = both_none (reach_fault (length all) before holder at) (unless (has_header kind at (block_of all at)) at BadHeader) passed.0 in
    record {
      here = visited all before after holder at xs size tests.0 passed.1;
      header = unless_none (has_header kind at (block_of all at)) at BadHeader tests.1;
      rest = passed.1;
    }

pub record MapPassed (all : List (List ℕ)) (before after : List Bool) (at level used : ℕ) (xs : List Step) : Type 0 where
  pub here : Visited all after at
  pub header : is_map_of level at (block_of all at) ≡ true
  pub spare : is_spare_zero used (block_of all at) ≡ true
  pub rest : walked all (slice_set before at true) xs ≡ Ok after

pub map_passed : (all : List (List ℕ)) (before after : List Bool) (holder at level used : ℕ) (xs : List Step) → length before ≡ length all
    → walked all before (visit_map holder at level used ∷ xs) ≡ Ok after → MapPassed all before after at level used xs
unfolding fault_at
map_passed all before after holder at level used xs size is =
    let passed = step_passed all before after (visit_map holder at level used) xs is in
    let tests = both_none (reach_fault (length all) before holder at)
    (first_of (unless (is_map_of level at (block_of all at)) at BadHeader) (unless (is_spare_zero used (block_of all at)) at BadMap)) passed.0 in
    let maps = both_none (unless (is_map_of level at (block_of all at)) at BadHeader) (unless (is_spare_zero used (block_of all at)) at BadMap) tests.1 in
    record {
      here = visited all before after holder at xs size tests.0 passed.1;
      header = unless_none (is_map_of level at (block_of all at)) at BadHeader maps.0;
      spare = unless_none (is_spare_zero used (block_of all at)) at BadMap maps.1;
      rest = passed.1;
    }

-- pages that a map names
pub record PagesPassed (all : List (List ℕ)) (after : List Bool) (xs : List ℕ) : Type 0 where
  pub addresses : list_all (is_address (length all)) xs ≡ true
  pub reached : All (λ b. is_reached after b ≡ true) xs

pub pages_passed : (all : List (List ℕ)) (before after : List Bool) (at : ℕ) (xs : List ℕ) → length before ≡ length all
    → walked all before (page_steps at xs) ≡ Ok after → PagesPassed all after xs
pages_passed all before after at [] size is = record { addresses = refl; reached = λ k d within. absurd (omega (arith, within)) }
pages_passed all before after at (x ∷ xs) size is =
    let first : VisitPassed all before after x page_kind (page_steps at xs) = visit_passed all before after at x page_kind (page_steps at xs) size is in
    let rest = pages_passed all (slice_set before x true) after at xs (length-set before x true ∙ size) first.rest in
    let address = first.here.address in
    let others = rest.addresses in
    record {
      addresses = rw (address, others) refl;
      reached = all_cons (λ b. is_reached after b ≡ true) x xs first.here.reached rest.reached;
    }

-- a map that was reached is right, where its places in use name blocks
pub map_right : (all : List (List ℕ)) (level used at : ℕ) → is_map_of level at (block_of all at) ≡ true
    → is_spare_zero used (block_of all at) ≡ true → list_all (is_address (length all)) (named all at used) ≡ true
    → map_at all level used at ≡ Ok (named all at used)
map_right all level used at header spare addresses =
    let parts = and_parts (has_header map_kind at (block_of all at)) (nat_eq (number_at (block_of all at) 12) level) header in
    let kind = parts.0 in
    let of_level = parts.1 in
    rw (kind, of_level, addresses, spare) refl

pub record LeafPassed (all : List (List ℕ)) (after : List Bool) (at used : ℕ) : Type 0 where
  pub here : Visited all after at
  pub right : map_at all 1 used at ≡ Ok (named all at used)
  pub pages : All (λ b. is_reached after b ≡ true) (named all at used)

pub leaf_passed : (all : List (List ℕ)) (before after : List Bool) (holder at used : ℕ) → length before ≡ length all
    → walked all before (leaf_steps all holder at used) ≡ Ok after → LeafPassed all after at used
unfolding leaf_steps
leaf_passed all before after holder at used size is =
    let first : MapPassed all before after at 1 used (page_steps at (named all at used)) = map_passed all before after holder at 1 used (page_steps at (named all at used)) size is in
    let pages = pages_passed all (slice_set before at true) after at (named all at used) (length-set before at true ∙ size) first.rest in
    record {
      here = first.here;
      right = map_right all 1 used at first.header first.spare pages.addresses;
      pages = pages.reached;
    }

pub record LeavesPassed (all : List (List ℕ)) (after : List Bool) (pages : ℕ) (ls : List ℕ) : Type 0 where
  pub addresses : list_all (is_address (length all)) ls ≡ true
  pub leaves : All (λ b. is_reached after b ≡ true) ls
  pub bs : List ℕ
  pub is : listed true all pages ls ≡ Ok bs
  pub reached : All (λ b. is_reached after b ≡ true) bs

still_reached : (all : List (List ℕ)) (mid after : List Bool) (steps : List Step) (xs : List ℕ) → walked all mid steps ≡ Ok after
    → All (λ b. is_reached mid b ≡ true) xs → All (λ b. is_reached after b ≡ true) xs
still_reached all mid after steps xs is each k d within = stays all mid after steps (slice_index_or xs k d) is (each k d within)

pub leaves_passed : (all : List (List ℕ)) (before after : List Bool) (top pages : ℕ) (ls : List ℕ) → length before ≡ length all
    → walked all before (leaves_steps all top pages ls) ≡ Ok after → LeavesPassed all after pages ls
unfolding leaves_steps
leaves_passed all before after top pages [] size is = record {
  addresses = refl;
  leaves = λ k d within. absurd (omega (arith, within));
  bs = [];
  is = refl;
  reached = λ k d within. absurd (omega (arith, within));
}
leaves_passed all before after top pages (l ∷ ls) size is =
    let parts : Split all before after (leaf_steps all top l (min 252 pages)) (leaves_steps all top (pages - 252) ls)
    = split all before after (leaf_steps all top l (min 252 pages)) (leaves_steps all top (pages - 252) ls) is in
    let leaf : LeafPassed all parts.mid l (min 252 pages) = leaf_passed all before parts.mid top l (min 252 pages) size parts.first in
    let mid_size : length parts.mid ≡ length all = size_walked all before parts.mid (leaf_steps all top l (min 252 pages)) parts.first ∙ size in
    let rest : LeavesPassed all after (pages - 252) ls = leaves_passed all parts.mid after top (pages - 252) ls mid_size parts.second in
    let here : is_reached after l ≡ true = stays all parts.mid after (leaves_steps all top (pages - 252) ls) l parts.second leaf.here.reached in
    let named_reached = still_reached all parts.mid after (leaves_steps all top (pages - 252) ls) (named all l (min 252 pages)) parts.second leaf.pages in
    let address = leaf.here.address in
    let others = rest.addresses in
    let right = leaf.right in
    let rest_is = rest.is in
    record {
      addresses = rw (address, others) refl;
      leaves = all_cons (λ b. is_reached after b ≡ true) l ls here rest.leaves;
      bs = (l ∷ named all l (min 252 pages)) ++ rest.bs;
      is = rw (right, rest_is) refl;
      reached = all_both (λ b. is_reached after b ≡ true) (l ∷ named all l (min 252 pages)) rest.bs
          (all_cons (λ b. is_reached after b ≡ true) l (named all l (min 252 pages)) here named_reached) rest.reached;
    }

-- an object that was reached is right, and so is each of its blocks reached
pub record ObjectPassed (all : List (List ℕ)) (after : List Bool) (object : Ref) : Type 0 where
  pub bs : List ℕ
  pub is : blocks_of all object ≡ Ok bs
  pub reached : All (λ b. is_reached after b ≡ true) bs

no_blocks : (all : List (List ℕ)) (object : Ref) → object.pages ≡ 0 → blocks_of all object ≡ Ok []
no_blocks all object none =
    let leaves = leaves_none all object none in
    let top = top_none object (omega (arith, none)) in
    rw (leaves, top) refl

low_blocks : (all : List (List ℕ)) (object : Ref) (xs : List ℕ) → object.pages ≢ 0 → object.pages ≤ 252
    → map_at all 1 object.pages object.root ≡ Ok xs → blocks_of all object ≡ Ok (object.root ∷ xs)
low_blocks all object xs some low right =
    let leaves = leaves_one all object (omega (arith, some)) low in
    let top = top_none object low in
    let same : min 252 object.pages ≡ object.pages = omega (arith, low) in
    rw (leaves, top, same, right) (ap (λ (ys : List ℕ). Ok (object.root ∷ ys)) (append-nil xs))

high_blocks : (all : List (List ℕ)) (object : Ref) (ls bs : List ℕ) → 252 < object.pages
    → map_at all 2 (leaf_count object.pages) object.root ≡ Ok ls → listed true all object.pages ls ≡ Ok bs
    → blocks_of all object ≡ Ok (object.root ∷ bs)
high_blocks all object ls bs high right is =
    let leaves = leaves_many all object high in
    let top = top_one object high in
    rw (leaves, top, right, is) refl

high_passed : (all : List (List ℕ)) (before after : List Bool) (holder : ℕ) (object : Ref) → length before ≡ length all → 252 < object.pages
    → walked all before (high_steps all holder object) ≡ Ok after → ObjectPassed all after object
unfolding high_steps
high_passed all before after holder object size high is =
    let count : ℕ = leaf_count object.pages in
    let below : List Step = leaves_steps all object.root object.pages (named all object.root (leaf_count object.pages)) in
    let first : MapPassed all before after object.root 2 (leaf_count object.pages) below
    = map_passed all before after holder object.root 2 (leaf_count object.pages) below size is in
    let leaves : LeavesPassed all after object.pages (named all object.root (leaf_count object.pages))
    = leaves_passed all (slice_set before object.root true) after object.root object.pages (named all object.root (leaf_count object.pages))
    (length-set before object.root true ∙ size) first.rest in
    record {
      bs = object.root ∷ leaves.bs;
      is = high_blocks all object (named all object.root (leaf_count object.pages)) leaves.bs high
          (map_right all 2 (leaf_count object.pages) object.root first.header first.spare leaves.addresses) leaves.is;
      reached = all_cons (λ b. is_reached after b ≡ true) object.root leaves.bs first.here.reached leaves.reached;
    }

pub object_passed : (all : List (List ℕ)) (before after : List Bool) (holder : ℕ) (object : Ref) → length before ≡ length all
    → walked all before (object_steps all holder object) ≡ Ok after → ObjectPassed all after object
object_passed all before after holder object size is = elim (cases_eq object.pages 0) [
  | inl none ↦ record { bs = []; is = no_blocks all object none; reached = λ k d within. absurd (omega (arith, within)) }
  | inr some ↦ (elim (cases_lt 252 object.pages) [
    | inl high ↦ high_passed all before after holder object size high (ap (walked all before) (sym (high_object all holder object high)) ∙ is)
    | inr low ↦ low_passed all before after holder object size some low is
  ])
]
  where
    low_passed : (all : List (List ℕ)) (before after : List Bool) (holder : ℕ) (object : Ref) → length before ≡ length all → object.pages ≢ 0
        → object.pages ≤ 252 → walked all before (object_steps all holder object) ≡ Ok after → ObjectPassed all after object
    low_passed all before after holder object size some low is =
        let leaf : LeafPassed all after object.root object.pages
        = leaf_passed all before after holder object.root object.pages size (ap (walked all before) (sym (low_object all holder object some low)) ∙ is) in
        record {
          bs = object.root ∷ named all object.root object.pages;
          is = low_blocks all object (named all object.root object.pages) some low leaf.right;
          reached = all_cons (λ b. is_reached after b ≡ true) object.root (named all object.root object.pages) leaf.here.reached leaf.pages;
        }

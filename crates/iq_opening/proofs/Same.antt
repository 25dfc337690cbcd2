-- Steps in two lists of blocks that are the same where the steps of one lead.
use Rattle.std.specs.Prelude.{◌≡◌, ◌≢◌, ℕ, suc, ◌-◌, ◌<◌, ◌≤◌, min, Bool, true, false, List, [], ◌∷◌, ◌++◌, length, take, nat_eq, nat_le, slice_index, slice_index_or, slice_set, if◌then◌else◌, None, Ok}
use Rattle.std.proofs.Common.{refl, sym, ap, ◌∙◌, inl, inr, arith, length-set}
use Rattle.std.proofs.lemmas.Bool.{cases_eq, cases_lt}
use Rattle.iq_outside.specs.Devices.{block_of}
use Rattle.iq_base.specs.declared.refs.Ref.{Ref}
use Rattle.iq_block_map.specs.Maps.{places}
use Rattle.iq_block_map.specs.Objects.{leaf_count}
use Rattle.iq_block_map.specs.Laws.{SameObject}
use Rattle.iq_block_map.proofs.FrameLaws.{frame_law}
use Rattle.iq_opening.specs.Steps.{Step, visit, visit_map, named, page_steps, leaf_steps, leaves_steps, high_steps, object_steps}
use Rattle.iq_opening.specs.Walk.{fault_at, walked}
use Rattle.iq_opening.specs.Laws.{SameWhere}
use Rattle.iq_opening.proofs.Parts.{no_object, low_object, high_object}
use Rattle.iq_opening.proofs.Passed.{step_passed, step_passes, stays, VisitPassed, visit_passed, MapPassed, map_passed, LeafPassed, leaf_passed, LeavesPassed, leaves_passed, ObjectPassed, object_passed}

-- no step tests a descriptor
abbrev pub OnlyVisits : List Step → Type 0
OnlyVisits [] = Unit {0}
OnlyVisits (Step.visit holder at kind ∷ steps) = OnlyVisits steps
OnlyVisits (Step.visit_map holder at level used ∷ steps) = OnlyVisits steps
OnlyVisits (Step.table format head before ∷ steps) = ⊥

pub visits_both : (xs ys : List Step) → OnlyVisits xs → OnlyVisits ys → OnlyVisits (xs ++ ys)
visits_both [] ys first second = second
visits_both (Step.visit holder at kind ∷ xs) ys first second = visits_both xs ys first second
visits_both (Step.visit_map holder at level used ∷ xs) ys first second = visits_both xs ys first second
visits_both (Step.table format head before ∷ xs) ys first second = absurd first

pub page_visits : (at : ℕ) (xs : List ℕ) → OnlyVisits (page_steps at xs)
page_visits at [] = tt
page_visits at (x ∷ xs) = page_visits at xs

pub leaf_visits : (all : List (List ℕ)) (holder at used : ℕ) → OnlyVisits (leaf_steps all holder at used)
unfolding leaf_steps
leaf_visits all holder at used = page_visits at (named all at used)

pub leaves_visits : (all : List (List ℕ)) (top pages : ℕ) (ls : List ℕ) → OnlyVisits (leaves_steps all top pages ls)
unfolding leaves_steps
leaves_visits all top pages [] = tt
leaves_visits all top pages (l ∷ ls) =
    visits_both (leaf_steps all top l (min 252 pages)) (leaves_steps all top (pages - 252) ls) (leaf_visits all top l (min 252 pages))
    (leaves_visits all top (pages - 252) ls)

high_visits : (all : List (List ℕ)) (holder : ℕ) (object : Ref) → OnlyVisits (high_steps all holder object)
unfolding high_steps
high_visits all holder object = leaves_visits all object.root object.pages (named all object.root (leaf_count object.pages))

pub object_visits : (all : List (List ℕ)) (holder : ℕ) (object : Ref) → OnlyVisits (object_steps all holder object)
unfolding object_steps
object_visits all holder object = by_tests (nat_eq object.pages 0) (nat_le object.pages 252)
  where
    by_tests : (a b : Bool) → OnlyVisits (if a then [] else (if b then leaf_steps all holder object.root object.pages else high_steps all holder object))
    by_tests true b = tt
    by_tests false true = leaf_visits all holder object.root object.pages
    by_tests false false = high_visits all holder object

fault_same : (all now : List (List ℕ)) (before : List Bool) (holder at kind : ℕ) → length now ≡ length all → block_of now at ≡ block_of all at
    → fault_at all before (visit holder at kind) ≡ None → fault_at now before (visit holder at kind) ≡ None
unfolding fault_at
fault_same all now before holder at kind size same none = rw (size, same) none

map_fault_same : (all now : List (List ℕ)) (before : List Bool) (holder at level used : ℕ) → length now ≡ length all → block_of now at ≡ block_of all at
    → fault_at all before (visit_map holder at level used) ≡ None → fault_at now before (visit_map holder at level used) ≡ None
unfolding fault_at
map_fault_same all now before holder at level used size same none = rw (size, same) none

-- the same steps pass in both
pub visits_same : (all now : List (List ℕ)) (before after : List Bool) (xs : List Step) → OnlyVisits xs → length before ≡ length all
    → SameWhere after all now → walked all before xs ≡ Ok after → walked now before xs ≡ Ok after
unfolding walked
visits_same all now before after [] only size same is = is
visits_same all now before after (Step.visit holder at kind ∷ xs) only size same is =
    let first : VisitPassed all before after at kind xs = visit_passed all before after holder at kind xs size is in
    let rest = visits_same all now (slice_set before at true) after xs only (length-set before at true ∙ size) same first.rest in
    step_passes now before after (visit holder at kind) xs
    (fault_same all now before holder at kind same.size (same.blocks at first.here.reached) (step_passed all before after (visit holder at kind) xs is).0) rest
visits_same all now before after (Step.visit_map holder at level used ∷ xs) only size same is =
    let first : MapPassed all before after at level used xs = map_passed all before after holder at level used xs size is in
    let rest = visits_same all now (slice_set before at true) after xs only (length-set before at true ∙ size) same first.rest in
    step_passes now before after (visit_map holder at level used) xs
    (map_fault_same all now before holder at level used same.size (same.blocks at first.here.reached)
    (step_passed all before after (visit_map holder at level used) xs is).0) rest
visits_same all now before after (Step.table format head name ∷ xs) only size same is = absurd only

-- what is named by a map that is the same
named_same : (all now : List (List ℕ)) (at used : ℕ) → block_of now at ≡ block_of all at → named now at used ≡ named all at used
named_same all now at used same = ap (λ (b : List ℕ). take used (places b)) same

-- an earlier set of reached blocks is a part of a later one
pub earlier : (all now : List (List ℕ)) (mid after : List Bool) (steps : List Step) → walked all mid steps ≡ Ok after → SameWhere after all now
    → SameWhere mid all now
earlier all now mid after steps is same = record {
  size = same.size;
  blocks = λ b here. same.blocks b (stays all mid after steps b is here);
}

leaf_same : (all now : List (List ℕ)) (holder at used : ℕ) → block_of now at ≡ block_of all at
    → leaf_steps now holder at used ≡ leaf_steps all holder at used
unfolding leaf_steps
leaf_same all now holder at used same = ap (λ (xs : List ℕ). visit_map holder at 1 used ∷ page_steps at xs) (named_same all now at used same)

leaves_same : (all now : List (List ℕ)) (top pages : ℕ) (ls : List ℕ) → ((k : ℕ) → k < length ls → block_of now (slice_index ls k) ≡ block_of all (slice_index ls k))
    → leaves_steps now top pages ls ≡ leaves_steps all top pages ls
unfolding leaves_steps
leaves_same all now top pages [] same = refl
leaves_same all now top pages (l ∷ ls) same =
    let here = leaf_same all now top l (min 252 pages) (same 0 (omega arith)) in
    let rest = leaves_same all now top (pages - 252) ls (λ k within. same (suc k) (omega (arith, within))) in
    rw (here, rest) refl

high_same : (all now : List (List ℕ)) (before after : List Bool) (holder : ℕ) (object : Ref) → length before ≡ length all
    → walked all before (high_steps all holder object) ≡ Ok after → SameWhere after all now
    → high_steps now holder object ≡ high_steps all holder object
unfolding high_steps
high_same all now before after holder object size is same =
    let below : List Step = leaves_steps all object.root object.pages (named all object.root (leaf_count object.pages)) in
    let first : MapPassed all before after object.root 2 (leaf_count object.pages) below
    = map_passed all before after holder object.root 2 (leaf_count object.pages) below size is in
    let leaves : LeavesPassed all after object.pages (named all object.root (leaf_count object.pages))
    = leaves_passed all (slice_set before object.root true) after object.root object.pages (named all object.root (leaf_count object.pages))
    (length-set before object.root true ∙ size) first.rest in
    let root = named_same all now object.root (leaf_count object.pages) (same.blocks object.root first.here.reached) in
    let under = leaves_same all now object.root object.pages (named all object.root (leaf_count object.pages))
    (λ k within. same.blocks (slice_index (named all object.root (leaf_count object.pages)) k) (leaves.leaves k 0 within)) in
    ap (λ (xs : List ℕ). visit_map holder object.root 2 (leaf_count object.pages) ∷ leaves_steps now object.root object.pages xs) root
    ∙ ap (λ (steps : List Step). visit_map holder object.root 2 (leaf_count object.pages) ∷ steps) under

pub object_same : (all now : List (List ℕ)) (before after : List Bool) (holder : ℕ) (object : Ref) → length before ≡ length all
    → walked all before (object_steps all holder object) ≡ Ok after → SameWhere after all now
    → object_steps now holder object ≡ object_steps all holder object
object_same all now before after holder object size is same = elim (cases_eq object.pages 0) [
  | inl none ↦ no_object now holder object none ∙ sym (no_object all holder object none)
  | inr some ↦ (elim (cases_lt 252 object.pages) [
    | inl high ↦
        high_object now holder object high
        ∙ (high_same all now before after holder object size (ap (walked all before) (sym (high_object all holder object high)) ∙ is) same
        ∙ sym (high_object all holder object high))
    | inr low ↦ low_same some low
  ])
]
  where
    low_same : object.pages ≢ 0 → object.pages ≤ 252 → object_steps now holder object ≡ object_steps all holder object
    low_same some low =
        let leaf : LeafPassed all after object.root object.pages
        = leaf_passed all before after holder object.root object.pages size (ap (walked all before) (sym (low_object all holder object some low)) ∙ is) in
        low_object now holder object some low
        ∙ (leaf_same all now holder object.root object.pages (same.blocks object.root leaf.here.reached) ∙ sym (low_object all holder object some low))

-- an object that was reached is the same in both, with its pages
pub object_stands : (all now : List (List ℕ)) (before after : List Bool) (holder : ℕ) (object : Ref) → length before ≡ length all
    → object.pages ≤ 63504 → walked all before (object_steps all holder object) ≡ Ok after → SameWhere after all now → SameObject all now object
object_stands all now before after holder object size few is same =
    let passed : ObjectPassed all after object = object_passed all before after holder object size is in
    frame_law all now object passed.bs few passed.is
    record { size = same.size; blocks = λ k d within. same.blocks (slice_index_or passed.bs k d) (passed.reached k d within) }

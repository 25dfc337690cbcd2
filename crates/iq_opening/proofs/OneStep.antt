-- One step, by what was read.
use Rattle.std.specs.Prelude.{◌≡◌, ◌≢◌, ℕ, Bool, true, false, List, [], ◌∷◌, length, drop, nat_eq, slice_set, Some, None, Ok, Err}
use Rattle.std.specs.List.{list_all}
use Rattle.std.proofs.Common.{refl, sym, ap, ◌∙◌, arith}
use Rattle.std.proofs.lemmas.Bool.{eq-eqb}
use Rattle.std.proofs.lemmas.Bool.Decides.{nat_tests}
use Rattle.iq_outside.specs.Devices.{block_of}
use Rattle.iq_block_store.specs.Frames.{number_at, map_kind, has_header}
use Rattle.iq_block_map.specs.declared.map_bytes.RawMap.{RawMap}
use Rattle.iq_block_map.specs.Maps.{places, IsRawMap}
use Rattle.iq_opening.specs.declared.faults.StoreCause.TheVariants.{BadHeader, BadMap}
use Rattle.iq_opening.specs.Steps.{visit, visit_map}
use Rattle.iq_opening.specs.Walk.{Fault, fault, reach_fault, fault_at, walked}

-- an address that may not be reached is the fault
pub visit_unreachable : (all : List (List ℕ)) (reached : List Bool) (holder at kind : ℕ) (f : Fault) → length reached ≡ length all
    → reach_fault (length reached) reached holder at ≡ Some f → walked all reached (visit holder at kind ∷ []) ≡ Err f
unfolding walked fault_at
visit_unreachable all reached holder at kind f size found = rw (← size, found) refl

-- a block without its header is
pub visit_wrong : (all : List (List ℕ)) (reached : List Bool) (holder at kind : ℕ) → length reached ≡ length all
    → reach_fault (length reached) reached holder at ≡ None → has_header kind at (block_of all at) ≡ false
    → walked all reached (visit holder at kind ∷ []) ≡ Err (fault at BadHeader)
unfolding walked fault_at
visit_wrong all reached holder at kind size may wrong = rw (← size, may, wrong) refl

-- else the block is reached
pub visit_right : (all : List (List ℕ)) (reached : List Bool) (holder at kind : ℕ) → length reached ≡ length all
    → reach_fault (length reached) reached holder at ≡ None → has_header kind at (block_of all at) ≡ true
    → walked all reached (visit holder at kind ∷ []) ≡ Ok (slice_set reached at true)
unfolding walked fault_at
visit_right all reached holder at kind size may right = rw (← size, may, right) refl

-- the same of maps
pub map_unreachable : (all : List (List ℕ)) (reached : List Bool) (holder at level used : ℕ) (f : Fault) → length reached ≡ length all
    → reach_fault (length reached) reached holder at ≡ Some f → walked all reached (visit_map holder at level used ∷ []) ≡ Err f
unfolding walked fault_at
map_unreachable all reached holder at level used f size found = rw (← size, found) refl

pub map_no_header : (all : List (List ℕ)) (reached : List Bool) (holder at level used : ℕ) → length reached ≡ length all
    → reach_fault (length reached) reached holder at ≡ None → has_header map_kind at (block_of all at) ≡ false
    → walked all reached (visit_map holder at level used ∷ []) ≡ Err (fault at BadHeader)
unfolding walked fault_at
map_no_header all reached holder at level used size may wrong = rw (← size, may, wrong) refl

other_number : (a b : ℕ) → a ≢ b → nat_eq a b ≡ false
other_number a b other = grind (arith, nat_tests)

pub map_level_wrong : (all : List (List ℕ)) (reached : List Bool) (holder at level used : ℕ) (raw : RawMap) → length reached ≡ length all
    → reach_fault (length reached) reached holder at ≡ None → IsRawMap raw at all → raw.level ≢ level
    → walked all reached (visit_map holder at level used ∷ []) ≡ Err (fault at BadHeader)
unfolding walked fault_at
map_level_wrong all reached holder at level used raw size may read other =
    let header = read.header in
    let level_is : number_at (block_of all at) 12 ≡ raw.level = ap (λ (r : RawMap). r.level) (sym read.is) in
    rw (← size, may, header, level_is, other_number raw.level level other) refl

pub map_spare_wrong : (all : List (List ℕ)) (reached : List Bool) (holder at level used : ℕ) (raw : RawMap) → length reached ≡ length all
    → reach_fault (length reached) reached holder at ≡ None → IsRawMap raw at all → raw.level ≡ level
    → list_all (nat_eq 0) (drop used raw.numbers) ≡ false
    → walked all reached (visit_map holder at level used ∷ []) ≡ Err (fault at BadMap)
unfolding walked fault_at
map_spare_wrong all reached holder at level used raw size may read same wrong =
    let header = read.header in
    let level_is : number_at (block_of all at) 12 ≡ level = ap (λ (r : RawMap). r.level) (sym read.is) ∙ same in
    let numbers_are : places (block_of all at) ≡ raw.numbers = ap (λ (r : RawMap). r.numbers) (sym read.is) in
    rw (← size, may, header, level_is, eq-eqb level level refl, numbers_are, wrong) refl

pub map_right : (all : List (List ℕ)) (reached : List Bool) (holder at level used : ℕ) (raw : RawMap) → length reached ≡ length all
    → reach_fault (length reached) reached holder at ≡ None → IsRawMap raw at all → raw.level ≡ level
    → list_all (nat_eq 0) (drop used raw.numbers) ≡ true
    → walked all reached (visit_map holder at level used ∷ []) ≡ Ok (slice_set reached at true)
unfolding walked fault_at
map_right all reached holder at level used raw size may read same right =
    let header = read.header in
    let level_is : number_at (block_of all at) 12 ≡ level = ap (λ (r : RawMap). r.level) (sym read.is) ∙ same in
    let numbers_are : places (block_of all at) ≡ raw.numbers = ap (λ (r : RawMap). r.numbers) (sym read.is) in
    rw (← size, may, header, level_is, eq-eqb level level refl, numbers_are, right) refl

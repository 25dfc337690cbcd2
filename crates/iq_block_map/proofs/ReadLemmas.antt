-- What was read of maps and pages.
use Rattle.std.specs.Prelude.{◌≡◌, ℕ, zero, suc, ◌<◌, ◌≤◌, Bool, true, false, ◌&&◌, if◌then◌else◌, List, [], ◌∷◌, length, take, drop, slice_index, Option, Some, Result, Ok, Err, IfOk, IfErr, IsOk, is_ok}
use Rattle.std.specs.List.{list_all}
use Rattle.std.proofs.Common.{refl, sym, ap, ◌∙◌, arith}
use Rattle.std.proofs.lemmas.List.{get_or-take, length-take}
use Rattle.std.proofs.lemmas.Bool.{ltb-true, leb-true, and_parts}
use Rattle.iq_outside.specs.Devices.{block_of}
use Rattle.iq_block_store.specs.Frames.{page_kind, map_kind, has_header, payload_of}
use Rattle.iq_block_map.specs.declared.map_bytes.RawMap.{RawMap}
use Rattle.iq_block_map.specs.Maps.{is_address, places, raw_map, is_right_map, IsRawMap}
use Rattle.iq_block_map.specs.Refs.{MayBe}
use Rattle.iq_block_map.specs.Objects.{HoldsPage, map_at}
use Rattle.iq_block_map.specs.Causes.{IsReadFault, IsWalkFault, IsEditFault, IsPutFault}
use Rattle.iq_block_map.specs.declared.faults.MapFault.{MapFault}
use Rattle.iq_block_map.specs.declared.faults.MapFault.TheVariants.{StoreFault, BadMap, NoSpace, NoMemory}

all_at : (P : ℕ → Bool) (xs : List ℕ) (k : ℕ) → list_all P xs ≡ true → k < length xs → P (slice_index xs k) ≡ true
all_at P [] k pass within = absurd (omega (arith, within))
all_at P (x ∷ xs) zero pass within = (and_parts (P x) (list_all P xs) pass).0
all_at P (x ∷ xs) (suc k) pass within = all_at P xs k (and_parts (P x) (list_all P xs) pass).1 (omega (arith, within))

-- each number in use names a block
pub address_at : (count used k : ℕ) (ps : List ℕ) → MayBe count used ps → k < used → used ≤ 252 → is_address count (slice_index ps k) ≡ true
address_at count used k ps may within fits =
    let named : list_all (is_address count) (take used ps) ≡ true = (and_parts _ _ may.places).0 in
    let inside : k < length (take used ps) = omega (arith, within, fits, may.size, length-take used ps) in
    ap (is_address count) (sym (get_or-take used ps k 0 within)) ∙ all_at (is_address count) (take used ps) k named inside

pub below_count : (count used k : ℕ) (ps : List ℕ) → MayBe count used ps → k < used → used ≤ 252 → slice_index ps k < count
below_count count used k ps may within fits = ltb-true _ _ (and_parts _ _ (address_at count used k ps may within fits)).1

pub from_four : (count used k : ℕ) (ps : List ℕ) → MayBe count used ps → k < used → used ≤ 252 → 4 ≤ slice_index ps k
from_four count used k ps may within fits = leb-true _ _ (and_parts _ _ (address_at count used k ps may within fits)).0

pub holds_page : (page block : List ℕ) (at : ℕ) (all : List (List ℕ)) → has_header page_kind at block ≡ true → block ≡ block_of all at
    → page ≡ drop 16 block → HoldsPage page at all
unfolding payload_of
holds_page page block at all header is content = record {
  header = ap (has_header page_kind at) (sym is) ∙ header;
  content = content ∙ ap (drop 16) is;
}

-- a cause is handed on by whoever looked before
pub read_fault_on : (P Q : ℕ → List (List ℕ) → Type 0) (e : MapFault) (told told' : Option (List (List ℕ))) (first first' last last' : ℕ)
    → told' ≡ told → first ≤ first' → last' ≤ last → ((b : ℕ) (all : List (List ℕ)) → told ≡ Some all → P b all → Q b all)
    → IsReadFault P e told' first' last' → IsReadFault Q e told first last
read_fault_on P Q (StoreFault before after) told told' first first' last last' same early late pass rose =
    record { since = omega (arith, early, rose.since); risen = rose.risen; until = omega (arith, late, rose.until) }
read_fault_on P Q (BadMap block) told told' first first' last last' same early late pass bad = λ all is. pass block all is (bad all (same ∙ is))
read_fault_on P Q NoSpace told told' first first' last last' same early late pass bad = bad
read_fault_on P Q NoMemory told told' first first' last last' same early late pass bad = bad

pub walk_fault_on : (P Q : ℕ → List (List ℕ) → Type 0) (e : MapFault) (told told' : Option (List (List ℕ))) (first first' last last' : ℕ)
    → told' ≡ told → first ≤ first' → last' ≤ last → ((b : ℕ) (all : List (List ℕ)) → told ≡ Some all → P b all → Q b all)
    → IsReadFault P e told' first' last' → IsWalkFault Q e told first last
walk_fault_on P Q (StoreFault before after) told told' first first' last last' same early late pass rose =
    record { since = omega (arith, early, rose.since); risen = rose.risen; until = omega (arith, late, rose.until) }
walk_fault_on P Q (BadMap block) told told' first first' last last' same early late pass bad = λ all is. pass block all is (bad all (same ∙ is))
walk_fault_on P Q NoSpace told told' first first' last last' same early late pass bad = absurd bad
walk_fault_on P Q NoMemory told told' first first' last last' same early late pass bad = tt

-- the same of what fails after something was written
pub edit_fault_on : (P Q : ℕ → Type 0) (Lacks Needs : Type 0) (e : MapFault) (first first' last last' : ℕ) → first ≤ first' → last' ≤ last
    → ((b : ℕ) → P b → Q b) → (Lacks → Needs) → IsEditFault P Lacks e first' last' → IsEditFault Q Needs e first last
edit_fault_on P Q Lacks Needs (StoreFault before after) first first' last last' early late pass lack rose =
    record { since = omega (arith, early, rose.since); risen = rose.risen; until = omega (arith, late, rose.until) }
edit_fault_on P Q Lacks Needs (BadMap block) first first' last last' early late pass lack bad = pass block bad
edit_fault_on P Q Lacks Needs NoSpace first first' last last' early late pass lack bad = lack bad
edit_fault_on P Q Lacks Needs NoMemory first first' last last' early late pass lack bad = bad

-- a fault of reading is one of editing
pub read_fault_edits : (P : ℕ → List (List ℕ) → Type 0) (Q : ℕ → Type 0) (Needs : Type 0) (e : MapFault) (told : Option (List (List ℕ)))
    (first first' last last' : ℕ) → first ≤ first' → last' ≤ last → ((b : ℕ) → ((all : List (List ℕ)) → told ≡ Some all → P b all) → Q b)
    → IsReadFault P e told first' last' → IsEditFault Q Needs e first last
read_fault_edits P Q Needs (StoreFault before after) told first first' last last' early late pass rose =
    record { since = omega (arith, early, rose.since); risen = rose.risen; until = omega (arith, late, rose.until) }
read_fault_edits P Q Needs (BadMap block) told first first' last last' early late pass bad = pass block bad
read_fault_edits P Q Needs NoSpace told first first' last last' early late pass bad = absurd bad
read_fault_edits P Q Needs NoMemory told first first' last last' early late pass bad = absurd bad

-- a fault of writing a block is one of editing
pub put_fault_edits : (Q : ℕ → Type 0) (Lacks Needs : Type 0) (e : MapFault) (first first' last last' : ℕ) → first ≤ first' → last' ≤ last
    → (Lacks → Needs) → IsPutFault Lacks e first' last' → IsEditFault Q Needs e first last
put_fault_edits Q Lacks Needs (StoreFault before after) first first' last last' early late lack rose =
    record { since = omega (arith, early, rose.since); risen = rose.risen; until = omega (arith, late, rose.until) }
put_fault_edits Q Lacks Needs (BadMap block) first first' last last' early late lack bad = absurd bad
put_fault_edits Q Lacks Needs NoSpace first first' last last' early late lack bad = lack bad
put_fault_edits Q Lacks Needs NoMemory first first' last last' early late lack bad = absurd bad

-- a cause that says as much in other words
pub read_cause : {T : Type 0} (P Q : ℕ → List (List ℕ) → Type 0) (r : Result T MapFault) (told : Option (List (List ℕ))) (first last : ℕ)
    → ((b : ℕ) (all : List (List ℕ)) → P b all → Q b all)
    → IfErr r (λ e. IsReadFault P e told first last) → IfErr r (λ e. IsReadFault Q e told first last)
read_cause P Q (Ok x) told first last pass cause = tt
read_cause P Q (Err e) told first last pass cause =
    read_fault_on P Q e told told first first last last refl (omega arith) (omega arith) (λ b all is. pass b all) cause

-- results that say as much in other words
pub ok_on : {T E : Type 0} (P Q : T → Type 0) (r : Result T E) → ((x : T) → P x → Q x) → IfOk r P → IfOk r Q
ok_on P Q (Ok x) pass is = pass x is
ok_on P Q (Err e) pass is = tt

pub ok_two : {T E : Type 0} (P Q R : T → Type 0) (r : Result T E) → ((x : T) → P x → Q x → R x) → IfOk r P → IfOk r Q → IfOk r R
ok_two P Q R (Ok x) pass one two = pass x one two
ok_two P Q R (Err e) pass one two = tt

pub err_on : {T E : Type 0} (P Q : E → Type 0) (r : Result T E) → ((e : E) → P e → Q e) → IfErr r P → IfErr r Q
err_on P Q (Ok x) pass is = tt
err_on P Q (Err e) pass is = pass e is

pub is_ok_of : {T E : Type 0} (r : Result T E) (x : T) → r ≡ Ok x → IsOk r
is_ok_of r x is = ap is_ok is

pub ok_three : {T E : Type 0} (P Q R S : T → Type 0) (r : Result T E) → ((x : T) → P x → Q x → R x → S x) → IfOk r P → IfOk r Q → IfOk r R → IfOk r S
ok_three P Q R S (Ok x) pass one two three = pass x one two three
ok_three P Q R S (Err e) pass one two three = tt

if_true : (b c : Bool) (xs : List ℕ) (at : ℕ) → b ≡ true → c ≡ true → ◌≡◌ {A = Result (List ℕ) ℕ} (if (b && c) then Ok xs else Err at) (Ok xs)
if_true b c xs at one two = rw (one, two) refl

-- a map that was read is right
pub map_read : (all : List (List ℕ)) (count level used at : ℕ) (raw : RawMap) → IsRawMap raw at all → count ≡ length all
    → is_right_map count level used raw ≡ true → map_at all level used at ≡ Ok (take used raw.numbers)
map_read all count level used at raw read size right =
    let here : is_right_map (length all) level used (raw_map (block_of all at)) ≡ true
    = ap (λ (n : ℕ). is_right_map n level used (raw_map (block_of all at))) (sym size) ∙ ap (is_right_map count level used) (sym read.is) ∙ right in
    if_true (has_header map_kind at (block_of all at)) (is_right_map (length all) level used (raw_map (block_of all at))) (take used (places (block_of all at))) at read.header here
    ∙ ap (λ (r : RawMap). Ok (take used r.numbers)) (sym read.is)

-- or isn't
pub map_not_read : (all : List (List ℕ)) (count level used at : ℕ) (raw : RawMap) → IsRawMap raw at all → count ≡ length all
    → is_right_map count level used raw ≡ false → map_at all level used at ≡ Err at
map_not_read all count level used at raw read size wrong =
    let here : is_right_map (length all) level used (raw_map (block_of all at)) ≡ false
    = ap (λ (n : ℕ). is_right_map n level used (raw_map (block_of all at))) (sym size) ∙ ap (is_right_map count level used) (sym read.is) ∙ wrong in
    rw (read.header, here) refl

pub map_no_header : (all : List (List ℕ)) (level used at : ℕ) → has_header map_kind at (block_of all at) ≡ false → map_at all level used at ≡ Err at
map_no_header all level used at wrong = rw wrong refl

-- What a call on one object leaves of all objects of a source.
use Rattle.std.specs.Prelude.{◌≡◌, ◌≢◌, ℕ, zero, suc, ◌+◌, ◌-◌, ◌<◌, ◌≤◌, ◌^◌, min, Bool, true, false, List, [], ◌∷◌, ◌++◌, length, map, slice_index, slice_index_or, slice_set, nat_lt, if◌then◌else◌, Option, Some, None, is_some, Result, Ok, Err, is_ok, is_err, IfErr, OnOk, OnErr}
use Rattle.std.specs.List.{All, slice_get, list_all}
use Rattle.std.specs.Option.{option_map}
use Rattle.std.proofs.Common.{refl, sym, ap, subst, ◌∙◌, inl, inr, arith}
use Rattle.std.proofs.lemmas.Bool.{cases_eq, cases_lt, lt-ltb, le-ltb}
use Rattle.std.proofs.lemmas.List.Elements.{All-set}
use Rattle.std.proofs.lemmas.Option.{slice_get_past, slice_get_within, get_or_from_slice_get, slice_get-get_or}
use Rattle.iq_outside.specs.declared.device.Device.{Ghosts}
use Rattle.iq_outside.specs.Devices.{block_of}
use Rattle.iq_block_store.specs.Frames.{page_kind, has_header, payload_of}
use Rattle.iq_pages.specs.Pages.{Pages, Seen, HasCause, NamesPage, KeepsObjects, ChangesObject}
use Rattle.iq_pages.specs.declared.page_faults.PageFault.{PageFault}
use Rattle.iq_pages.specs.declared.page_faults.PageFault.TheVariants.{Failed, BadPage, NoMemory as OutOfMemory}
use Rattle.iq_block_map.specs.declared.faults.MapFault.{MapFault}
use Rattle.iq_block_map.specs.declared.faults.MapFault.TheVariants.{StoreFault, BadMap, NoSpace, NoMemory}
use Rattle.iq_block_map.specs.Objects.{blocks_of, addresses_of, pages_of, contents}
use Rattle.iq_block_map.specs.Refs.{WhereTold}
use Rattle.iq_block_map.specs.Takers.{taken_of}
use Rattle.iq_block_map.specs.Writing.{holds, SameBeside, HasPut}
use Rattle.iq_block_map.specs.Laws.{SameObject}
use Rattle.iq_block_map.proofs.PutLemmas.{holds-append}
use Rattle.iq_block_map.proofs.FrameLaws.{frame_law}
use Rattle.iq_block_map.proofs.RewriteLemmas.{put_told}
use Rattle.iq_objects.specs.Open.{Held, Stands}
use Rattle.iq_objects.specs.Changes.{ChangesContents, IsWriteFault}
use Rattle.iq_table_objects.specs.Tables.{IsSound, AreSound, IsFailure, IsAnswer, if_right, told_of, told_at, count_at, slot_of, told_in, count_in, fault_count, seen_of}
use Rattle.iq_table_objects.specs.declared.table_objects.Slot.{Slot}
use Rattle.iq_objects.proofs.StandLemmas.{stands_put}
use Rattle.iq_objects.proofs.PageLemmas.{same_blocks, contents_stay}

pub free_part : (before after : List ℕ) (b : ℕ) → before ≡ taken_of before after ++ after → holds before b ≡ false
    → (holds (taken_of before after) b ≡ false) × (holds after b ≡ false)
free_part before after b split free = holds-append (taken_of before after) after b (subst (λ (ys : List ℕ). holds ys b ≡ false) split free)

pub ok_of : (r : Result (List ℕ) ℕ) → is_ok r ≡ true → (bs : List ℕ) × (r ≡ Ok bs)
ok_of (Ok bs) is = (bs, refl)
ok_of (Err e) is = cc

pub some_of : (r : Option Pages) → is_some r ≡ true → (ps : Pages) × (r ≡ Some ps)
some_of (Some ps) is = (ps, refl)
some_of None is = cc

-- what a reference names is as before
reference_same : {D : Type 0} (g : Ghosts D) (before after : List ℕ) (old new : D) (s : Slot) (all now : List (List ℕ)) → HasPut g before after old new
    → g.blocks old ≡ Some all → g.blocks new ≡ Some now → IsSound before s all → SameObject all now s.reference
reference_same g before after old new s all now put told told_now had =
    let same = same_blocks g before after old new all now put told told_now in
    let bs = ok_of (blocks_of all s.reference) had.reached in
    frame_law all now s.reference bs.0 had.few bs.1 record {
      size = same.size;
      blocks = λ k d within. same.others (slice_index_or bs.0 k d) (free_part before after (slice_index_or bs.0 k d) put.left (had.free bs.0 bs.1 k d within)).0;
    }

-- an object that changed is sound where it stands and holds pages where it held some
pub sound_change : {D : Type 0} (g : Ghosts D) (before after : List ℕ) (old new : D) (s t : Slot) (change : Pages → Pages) → HasPut g before after old new
    → t.reference ≡ s.reference → WhereTold (g.blocks old) (IsSound before s) → WhereTold (g.blocks new) (Stands after t.object)
    → ChangesContents (g.blocks old) (g.blocks new) change s.object t.object → WhereTold (g.blocks new) (IsSound after t)
sound_change g before after old new s t change put ref sound stands content now told_now =
    let there = put_told g before after old new now put told_now in
    let all = there.0 in
    let had = sound all there.1 in
    let same = reference_same g before after old new s all now put there.1 told_now had in
    record {
      stands = stands now told_now;
      few = rw ref had.few;
      reached = ap is_ok (ap (blocks_of now) ref ∙ same.blocks) ∙ had.reached;
      free = λ blocks is k d within.
          (free_part before after (slice_index_or blocks k d) put.left (had.free blocks (sym same.blocks ∙ ap (blocks_of now) (sym ref) ∙ is) k d within)).1;
      held = λ ps is.
          let was = some_of (contents all (Ok s.object.pages)) (had.held ps (sym same.pages ∙ ap (pages_of now) (sym ref) ∙ is)) in
          ap is_some (content all now was.0 there.1 told_now was.1);
    }

-- pages that may not be taken change nothing
pub same_contents : {D : Type 0} (g : Ghosts D) (before after : List ℕ) (old new : D) (o : Held) → HasPut g before after old new
    → WhereTold (g.blocks old) (Stands before o) → ChangesContents (g.blocks old) (g.blocks new) (λ (ps : Pages). ps) o o
same_contents g before after old new o put stands all now ps told told_now is =
    contents_stay g before after old new o.pages all now put told told_now (stands all told).free_pages ∙ is

pub sound_put : {D : Type 0} (g : Ghosts D) (before after : List ℕ) (old new : D) (s : Slot) → HasPut g before after old new
    → WhereTold (g.blocks old) (IsSound before s) → WhereTold (g.blocks new) (IsSound after s)
sound_put g before after old new s put sound =
    let stands : WhereTold (g.blocks old) (Stands before s.object) = λ all told. (sound all told).stands in
    sound_change g before after old new s s (λ (ps : Pages). ps) put refl sound (stands_put g before after old new s.object put stands)
    (same_contents g before after old new s.object put stands)

-- what is told of an object that changed
pub told_change : {D : Type 0} (g : Ghosts D) (before after : List ℕ) (old new : D) (s t : Slot) (change : Pages → Pages) → HasPut g before after old new
    → t.reference ≡ s.reference → WhereTold (g.blocks old) (IsSound before s) → ChangesContents (g.blocks old) (g.blocks new) change s.object t.object
    → told_of (g.blocks new) t ≡ option_map change (told_of (g.blocks old) s)
told_change g before after old new s t change put ref sound content = go (g.blocks old) refl
  where
    right : (r : Option Pages) (all now : List (List ℕ)) → pages_of all s.reference ≡ r → g.blocks old ≡ Some all → g.blocks new ≡ Some now → IsSound before s all
        → if_right r (contents now (Ok t.object.pages)) ≡ option_map change (if_right r (contents all (Ok s.object.pages)))
    right None all now is told told_now had = refl
    right (Some ps) all now is told told_now had =
        let was = some_of (contents all (Ok s.object.pages)) (had.held ps is) in
        content all now was.0 told told_now was.1 ∙ sym (ap (option_map change) was.1)

    go : (o : Option (List (List ℕ))) → g.blocks old ≡ o → told_of (g.blocks new) t ≡ option_map change (told_of (g.blocks old) s)
    go None is = ap (λ (o : Option (List (List ℕ))). told_of o t) (put.untold is) ∙ sym (ap (λ (o : Option (List (List ℕ))). option_map change (told_of o s)) is)
    go (Some all) is =
        let there = put.content all is in
        let now = there.0 in
        let had = sound all is in
        let same = reference_same g before after old new s all now put is there.1 had in
        ap (λ (o : Option (List (List ℕ))). told_of o t) there.1
        ∙ ap (λ (r : Option Pages). if_right r (contents now (Ok t.object.pages))) (ap (pages_of now) ref ∙ same.pages)
        ∙ right (pages_of all s.reference) all now refl is there.1 had
        ∙ sym (ap (λ (o : Option (List (List ℕ))). option_map change (told_of o s)) is)

option_same : (o : Option Pages) → option_map (λ (ps : Pages). ps) o ≡ o
option_same None = refl
option_same (Some ps) = refl

pub told_put : {D : Type 0} (g : Ghosts D) (before after : List ℕ) (old new : D) (s : Slot) → HasPut g before after old new
    → WhereTold (g.blocks old) (IsSound before s) → told_of (g.blocks new) s ≡ told_of (g.blocks old) s
told_put g before after old new s put sound =
    let stands : WhereTold (g.blocks old) (Stands before s.object) = λ all told. (sound all told).stands in
    told_change g before after old new s s (λ (ps : Pages). ps) put refl sound (same_contents g before after old new s.object put stands)
    ∙ option_same (told_of (g.blocks old) s)

-- all objects
pub all_put : {D : Type 0} (g : Ghosts D) (before after : List ℕ) (old new : D) (slots : List Slot) → HasPut g before after old new
    → AreSound (g.blocks old) before slots → AreSound (g.blocks new) after slots
all_put g before after old new slots put sound k d within =
    sound_put g before after old new (slice_index_or slots k d) put (sound k d within)

get_set_same : {X : Type 0} (xs : List X) (i : ℕ) (y : X) → i < length xs → slice_get (slice_set xs i y) i ≡ Some y
get_set_same [] i y within = absurd (omega (arith, within))
get_set_same (x ∷ xs) zero y within = refl
get_set_same (x ∷ xs) (suc i) y within = get_set_same xs i y (omega (arith, within))

get_set_other : {X : Type 0} (xs : List X) (i j : ℕ) (y : X) → (j ≡ i → ⊥) → slice_get (slice_set xs i y) j ≡ slice_get xs j
get_set_other [] i j y other = refl
get_set_other (x ∷ xs) zero zero y other = absurd (other refl)
get_set_other (x ∷ xs) zero (suc j) y other = refl
get_set_other (x ∷ xs) (suc i) zero y other = refl
get_set_other (x ∷ xs) (suc i) (suc j) y other = get_set_other xs i j y (λ is. other (ap suc is))

-- the object of a number among those with one changed
pub slot_here : (slots : List Slot) (first object place : ℕ) (t : Slot) → first + place ≡ object → place < length slots
    → slot_of (slice_set slots place t) first object ≡ Some t
slot_here slots first object place t is within =
    let not : nat_lt object first ≡ false = le-ltb object first (omega (arith, is)) in
    let at : object - first ≡ place = omega (arith, is) in
    rw (not, at) (get_set_same slots place t within)

pub slot_other : (slots : List Slot) (first object place other : ℕ) (t : Slot) → first + place ≡ object → (other ≡ object → ⊥)
    → slot_of (slice_set slots place t) first other ≡ slot_of slots first other
slot_other slots first object place other t is differs = elim (cases_lt other first) [
  | inl early ↦ rw (lt-ltb other first early) refl
  | inr late ↦
      (let not : nat_lt other first ≡ false = le-ltb other first late in
      rw not (get_set_other slots place (other - first) t (λ same. differs (omega (arith, is, late, same)))))
]

pub slot_at : (slots : List Slot) (first object place : ℕ) (d : Slot) → first + place ≡ object → place < length slots
    → slot_of slots first object ≡ Some (slice_index_or slots place d)
slot_at slots first object place d is within =
    let not : nat_lt object first ≡ false = le-ltb object first (omega (arith, is)) in
    let at : object - first ≡ place = omega (arith, is) in
    rw (not, at) (slice_get-get_or slots place d within)

pub slot_past : (slots : List Slot) (first object : ℕ) → ((place : ℕ) → first + place ≡ object → length slots ≤ place) → slot_of slots first object ≡ None
slot_past slots first object past = elim (cases_lt object first) [
  | inl early ↦ rw (lt-ltb object first early) refl
  | inr late ↦
      (let not : nat_lt object first ≡ false = le-ltb object first late in
      rw not (slice_get_past slots (object - first) (past (object - first) (omega (arith, late)))))
]

-- of an object of any number, what is told is as before
pub told_all : {D : Type 0} (g : Ghosts D) (before after : List ℕ) (old new : D) (slots : List Slot) (first object : ℕ) → HasPut g before after old new
    → AreSound (g.blocks old) before slots → told_in (g.blocks new) slots first object ≡ told_in (g.blocks old) slots first object
told_all g before after old new slots first object put sound = go (slot_of slots first object) refl
  where
    go : (o : Option Slot) → slot_of slots first object ≡ o → told_at (g.blocks new) (slot_of slots first object) ≡ told_at (g.blocks old) (slot_of slots first object)
    go None is = rw is refl
    go (Some s) is =
        let place = object - first in
        let got : slice_get slots place ≡ Some s = slot_some (nat_lt object first) (slice_get slots place) s is in
        let within : place < length slots = slice_get_within slots place s got in
        let at : slice_index_or slots place s ≡ s = get_or_from_slice_get slots place s s got in
        let mine : WhereTold (g.blocks old) (IsSound before s) = subst (λ (t : Slot). WhereTold (g.blocks old) (IsSound before t)) at (sound place s within) in
        rw is (told_put g before after old new s put mine)
      where
        slot_some : (b : Bool) (r : Option Slot) (s : Slot) → (if b then None else r) ≡ Some s → r ≡ Some s
        slot_some true r s is = absurd (none_some s is)
          where
            none_some : (s : Slot) → ◌≡◌ {A = Option Slot} None (Some s) → ⊥
            none_some s wrong = cc
        slot_some false r s is = is

-- a call that writes reads no map
pub write_failure : (Lacks : Type 0) (e : MapFault) (first last : ℕ) → IsWriteFault Lacks e first last → IsFailure e first last
write_failure Lacks (StoreFault before after) first last rose = rose
write_failure Lacks (BadMap block) first last bad = bad
write_failure Lacks NoSpace first last lacks = tt
write_failure Lacks NoMemory first last any = tt

pub err_failure : {T : Type 0} (Lacks : Type 0) (r : Result T MapFault) (first last : ℕ) → IfErr r (λ e. IsWriteFault Lacks e first last)
    → IfErr r (λ e. IsFailure e first last)
err_failure Lacks (Ok x) first last is = tt
err_failure Lacks (Err e) first last is = write_failure Lacks e first last is

answer_cause : (object : ℕ) (before after : Seen) (e : PageFault) → IsAnswer e before.faults after.faults → HasCause object before after e
answer_cause object before after (Failed x y) rose = rose
answer_cause object before after (BadPage named page) bad = absurd bad
answer_cause object before after OutOfMemory any = tt

pub err_cause : {T : Type 0} (object : ℕ) (before after : Seen) (r : Result T PageFault) → IfErr r (λ e. IsAnswer e before.faults after.faults)
    → IfErr r (HasCause object before after)
err_cause object before after (Ok x) is = tt
err_cause object before after (Err e) is = answer_cause object before after e is

pub err_names : {T : Type 0} (n first last : ℕ) (r : Result T PageFault) → IfErr r (λ e. IsAnswer e first last) → IfErr r (NamesPage n)
err_names n first last (Ok x) is = tt
err_names n first last (Err (Failed x y)) is = tt
err_names n first last (Err (BadPage named page)) is = absurd is
err_names n first last (Err OutOfMemory) is = tt

-- what holds at the outcome holds at the answer
pub on_ok : {S T E F : Type 0} (P : Type 0) (r : Result S E) (o : Result T F) → is_err r ≡ is_err o → OnOk o P → OnOk r P
on_ok P (Ok x) (Ok y) same is = is
on_ok P (Ok x) (Err f) same is = cc
on_ok P (Err e) o same is = tt

pub on_err : {S T E F : Type 0} (P : Type 0) (r : Result S E) (o : Result T F) → is_err r ≡ is_err o → OnErr o P → OnErr r P
on_err P (Err e) (Err f) same is = is
on_err P (Err e) (Ok y) same is = cc
on_err P (Ok x) o same is = tt

pub ok_map : {T E : Type 0} (P Q : Type 0) (r : Result T E) → (P → Q) → OnOk r P → OnOk r Q
ok_map P Q (Ok x) f is = f is
ok_map P Q (Err e) f is = tt

pub ok_both : {T E : Type 0} (P Q R : Type 0) (r : Result T E) → (P → Q → R) → OnOk r P → OnOk r Q → OnOk r R
ok_both P Q R (Ok x) f one two = f one two
ok_both P Q R (Err e) f one two = tt

pub err_map : {T E : Type 0} (P Q : Type 0) (r : Result T E) → (P → Q) → OnErr r P → OnErr r Q
err_map P Q (Err e) f is = f is
err_map P Q (Ok x) f is = tt

-- one object changed, and the others are as they were
pub changes_is : {D : Type 0} (g : Ghosts D) (before after : List ℕ) (old new : D) (slots : List Slot) (first object place f0 f1 r0 r1 : ℕ) (t : Slot)
    (change : Pages → Pages) (count : ℕ) → HasPut g before after old new → AreSound (g.blocks old) before slots → first + place ≡ object
    → (within : place < length slots) → t.reference ≡ (slice_index_or slots place t).reference
    → ChangesContents (g.blocks old) (g.blocks new) change (slice_index_or slots place t).object t.object → length t.object.pages ≡ count
    → ChangesObject object change count (seen_of (g.blocks old) slots first f0 r0) (seen_of (g.blocks new) (slice_set slots place t) first f1 r1)
changes_is g before after old new slots first object place f0 f1 r0 r1 t change count put sound is within ref content size =
    let s = slice_index_or slots place t in
    let here = slot_here slots first object place t is within in
    let was = slot_at slots first object place t is within in
    record {
      told_here =
          ap (told_at (g.blocks new)) here ∙ told_change g before after old new s t change put ref (sound place t within) content
          ∙ sym (ap (λ (o : Option Slot). option_map change (told_at (g.blocks old) o)) was);
      count_here = ap count_at here ∙ size;
      told_others = λ other differs.
          ap (told_at (g.blocks new)) (slot_other slots first object place other t is differs)
          ∙ told_all g before after old new slots first other put sound;
      counts_others = λ other differs. ap count_at (slot_other slots first object place other t is differs);
    }

-- no object changed
pub keeps_is : {D : Type 0} (g : Ghosts D) (before after : List ℕ) (old new : D) (slots : List Slot) (first object place f0 f1 r0 r1 : ℕ) (t : Slot)
    → HasPut g before after old new → AreSound (g.blocks old) before slots → first + place ≡ object
    → (within : place < length slots) → t.reference ≡ (slice_index_or slots place t).reference
    → t.object.pages ≡ (slice_index_or slots place t).object.pages
    → KeepsObjects (seen_of (g.blocks old) slots first f0 r0) (seen_of (g.blocks new) (slice_set slots place t) first f1 r1)
keeps_is g before after old new slots first object place f0 f1 r0 r1 t put sound is within ref same =
    let s = slice_index_or slots place t in
    let here = slot_here slots first object place t is within in
    let was = slot_at slots first object place t is within in
    let sound_here = sound place t within in
    let content : ChangesContents (g.blocks old) (g.blocks new) (λ (ps : Pages). ps) s.object t.object
    = λ all now ps told told_now held. ap (λ (xs : List ℕ). contents now (Ok xs)) same
    ∙ same_contents g before after old new s.object put (λ blocks told_blocks. (sound_here blocks told_blocks).stands) all now ps told told_now held in
    record {
      told = λ other. elim (cases_eq other object) [
        | inl mine ↦
            (ap (told_in (g.blocks new) (slice_set slots place t) first) mine ∙ ap (told_at (g.blocks new)) here
            ∙ told_change g before after old new s t (λ (ps : Pages). ps) put ref sound_here content
            ∙ option_same (told_of (g.blocks old) s) ∙ sym (ap (told_at (g.blocks old)) was) ∙ sym (ap (told_in (g.blocks old) slots first) mine))
        | inr differs ↦
            (ap (told_at (g.blocks new)) (slot_other slots first object place other t is differs)
            ∙ told_all g before after old new slots first other put sound)
      ];
      counts = λ other. elim (cases_eq other object) [
        | inl mine ↦
            (ap (count_in (slice_set slots place t) first) mine ∙ ap count_at here ∙ ap length same
            ∙ sym (ap count_at was) ∙ sym (ap (count_in slots first) mine))
        | inr differs ↦ ap count_at (slot_other slots first object place other t is differs)
      ];
    }

-- all objects are sound after a call on one
pub all_change : {D : Type 0} (g : Ghosts D) (before after : List ℕ) (old new : D) (slots : List Slot) (place : ℕ) (t : Slot) → HasPut g before after old new
    → AreSound (g.blocks old) before slots → WhereTold (g.blocks new) (IsSound after t) → AreSound (g.blocks new) after (slice_set slots place t)
all_change g before after old new slots place t put sound mine =
    All-set (λ (s : Slot). WhereTold (g.blocks new) (IsSound after s)) slots place t mine (all_put g before after old new slots put sound)

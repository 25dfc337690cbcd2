-- What one call does, as the traits of pages have it.
use Rattle.std.specs.Prelude.{◌≡◌, ◌≢◌, ◌⊎◌, ℕ, ◌+◌, ◌<◌, ◌≤◌, ◌^◌, min, Bool, true, false, ◌&&◌, List, [], ◌∷◌, ◌++◌, length, slice_index, slice_index_or, slice_set, if◌then◌else◌, Option, Some, None, Result, Ok, Err, is_err, IfErr, OnOk, OnErr}
use Rattle.std.specs.List.{list_all, slice_get}
use Rattle.std.specs.Option.{option_map}
use Rattle.std.proofs.Common.{refl, sym, ap, subst, ◌∙◌, inl, inr, arith, length-append, length-set}
use Rattle.std.proofs.lemmas.List.{get_or_default}
use Rattle.iq_outside.specs.declared.device.Device.{Ghosts}
use Rattle.iq_outside.specs.Devices.{block_of}
use Rattle.iq_outside.specs.Faults.{RoseWithin}
use Rattle.iq_block_store.specs.Frames.{page_kind, has_header, payload_of}
use Rattle.iq_block_store.specs.Looks.{HasLooked}
use Rattle.iq_pages.specs.Pages.{Pages, Seen, HasCause, NamesPage, KeepsObjects, ChangesObject, Writes, ReadsPage, IsPageOf}
use Rattle.iq_pages.specs.declared.page_faults.PageFault.{PageFault}
use Rattle.iq_pages.specs.declared.page_faults.PageFault.TheVariants.{Failed, BadPage, NoMemory as OutOfMemory}
use Rattle.iq_block_map.specs.declared.faults.MapFault.{MapFault}
use Rattle.iq_block_map.specs.declared.faults.MapFault.TheVariants.{StoreFault, BadMap, NoSpace, NoMemory}
use Rattle.iq_block_map.specs.Objects.{pages_of, contents, HoldsPage}
use Rattle.iq_block_map.specs.Refs.{WhereTold}
use Rattle.iq_block_map.specs.Causes.{IsReadFault, IsNoPage, NoneLeft}
use Rattle.iq_block_map.specs.Takers.{taken_of}
use Rattle.iq_block_map.specs.Writing.{HasPut}
use Rattle.iq_objects.specs.Open.{Held, Stands, with_page, with_more, cleared}
use Rattle.iq_objects.specs.Changes.{ChangesContents, TakesFor, LosesTaken, IsWriteFault}
use Rattle.iq_table_objects.specs.Tables.{IsSound, AreSound, IsFailure, IsAnswer, ReadsFault, if_right, told_of, told_at, count_at, slot_of, told_in, count_in, fault_count, seen_of}
use Rattle.iq_table_objects.specs.declared.table_objects.Slot.{Slot}
use Rattle.iq_table_objects.proofs.TableLemmas.{changes_is, keeps_is, all_change, sound_change, slot_at, same_contents, on_ok, on_err, ok_map, ok_both, err_map, err_cause, err_names}

-- an object with the reference that it was opened with
abbrev pub slot_with : Slot → Held → Slot
slot_with s o = record { reference = s.reference; object = o }

-- what stands in a place, whatever stands for none
at_place : (slots : List Slot) (place : ℕ) (s t : Slot) → place < length slots → s ≡ slice_index_or slots place s → slice_index_or slots place t ≡ s
at_place slots place s t within is = get_or_default slots place t s within ∙ sym is

pub sound_at : (told : Option (List (List ℕ))) (left : List ℕ) (slots : List Slot) (place : ℕ) (s : Slot) → AreSound told left slots → place < length slots
    → s ≡ slice_index_or slots place s → WhereTold told (IsSound left s)
sound_at told left slots place s sound within is = subst (λ (t : Slot). WhereTold told (IsSound left t)) (sym is) (sound place s within)

pub stands_at : (told : Option (List (List ℕ))) (left : List ℕ) (slots : List Slot) (place : ℕ) (s : Slot) → AreSound told left slots → place < length slots
    → s ≡ slice_index_or slots place s → WhereTold told (Stands left s.object)
stands_at told left slots place s sound within is = λ all told_all. (sound_at told left slots place s sound within is all told_all).stands

pub count_here : (slots : List Slot) (first object place : ℕ) (s : Slot) → first + place ≡ object → place < length slots → s ≡ slice_index_or slots place s
    → count_in slots first object ≡ length s.object.pages
count_here slots first object place s here within is = ap count_at (slot_at slots first object place s here within) ∙ ap (λ (t : Slot). length t.object.pages) (sym is)

-- a call on one object
pub writes_is : {D : Type 0} (g : Ghosts D) (before after : List ℕ) (old new : D) (slots : List Slot) (first object place : ℕ) (s : Slot) (o : Held)
    (change : Pages → Pages) (count pages r0 r1 : ℕ) (r : Result (Unit {0}) PageFault) (outcome : Result (Unit {0}) MapFault)
    → HasPut g before after old new → AreSound (g.blocks old) before slots → first + place ≡ object → place < length slots → s ≡ slice_index_or slots place s
    → is_err r ≡ is_err outcome → OnOk outcome (ChangesContents (g.blocks old) (g.blocks new) change s.object o) → OnOk outcome (length o.pages ≡ count)
    → OnErr outcome (o.pages ≡ s.object.pages) → r0 ≤ r1
    → IfErr r (λ e. IsAnswer e (fault_count (g.faults old) r0) (fault_count (g.faults new) r1))
    → Writes object change count pages r (seen_of (g.blocks old) slots first (g.faults old) r0)
    (seen_of (g.blocks new) (slice_set slots place (slot_with s o)) first (g.faults new) r1)
writes_is g before after old new slots first object place s o change count pages r0 r1 r outcome put sound here within is variant content size same more cause =
    let t = slot_with s o in
    let at : slice_index_or slots place t ≡ s = at_place slots place s t within is in
    let ref : t.reference ≡ (slice_index_or slots place t).reference = ap (λ (u : Slot). u.reference) (sym at) in
    let seen_old = seen_of (g.blocks old) slots first (g.faults old) r0 in
    let seen_new = seen_of (g.blocks new) (slice_set slots place t) first (g.faults new) r1 in
    record {
      done = on_ok (ChangesObject object change count seen_old seen_new) r outcome variant
          (ok_both (ChangesContents (g.blocks old) (g.blocks new) change s.object o) (length o.pages ≡ count) (ChangesObject object change count seen_old seen_new) outcome
          (λ contents_is size_is. changes_is g before after old new slots first object place (g.faults old) (g.faults new) r0 r1 t change count put sound here within ref
          (subst (λ (u : Slot). ChangesContents (g.blocks old) (g.blocks new) change u.object o) (sym at) contents_is) size_is)
          content size);
      kept = on_err (KeepsObjects seen_old seen_new) r outcome variant
          (err_map (o.pages ≡ s.object.pages) (KeepsObjects seen_old seen_new) outcome
          (λ same_pages. keeps_is g before after old new slots first object place (g.faults old) (g.faults new) r0 r1 t put sound here within ref
          (same_pages ∙ ap (λ (u : Slot). u.object.pages) (sym at)))
          same);
      reads = refl;
      writes = ok_any r;
      unwritten = err_any r;
      later = counts_up (g.faults old) (g.faults new) r0 r1 put.later more;
      cause = err_cause object seen_old seen_new r cause;
    }
  where
    ok_any : (r : Result (Unit {0}) PageFault) → OnOk r (Unit {0})
    ok_any (Ok x) = tt
    ok_any (Err e) = tt

    err_any : (r : Result (Unit {0}) PageFault) → OnErr r (◌≡◌ {A = Option ℕ} None None)
    err_any (Ok x) = tt
    err_any (Err e) = refl

    counts_up : (f0 f1 r0 r1 : ℕ) → f0 ≤ f1 → r0 ≤ r1 → fault_count f0 r0 ≤ fault_count f1 r1
    counts_up f0 f1 r0 r1 faults more = omega (arith, faults, more)

-- all objects are sound after it
pub sound_after : {D : Type 0} (g : Ghosts D) (before after : List ℕ) (old new : D) (slots : List Slot) (place : ℕ) (s : Slot) (o : Held)
    (change : Pages → Pages) → HasPut g before after old new → AreSound (g.blocks old) before slots → place < length slots → s ≡ slice_index_or slots place s
    → WhereTold (g.blocks new) (Stands after o) → ChangesContents (g.blocks old) (g.blocks new) change s.object o
    → AreSound (g.blocks new) after (slice_set slots place (slot_with s o))
sound_after g before after old new slots place s o change put sound within is stands content =
    all_change g before after old new slots place (slot_with s o) put sound
    (sound_change g before after old new s (slot_with s o) change put refl (sound_at (g.blocks old) before slots place s sound within is) stands content)

-- an object that isn't there tells no pages
pub missing_cause : (object : ℕ) (before after : Seen) (page : ℕ) → before.told object ≡ None → HasCause object before after (BadPage object page)
missing_cause object before after page none = (refl, none)

pub keeps_refl : (s : Seen) → KeepsObjects s s
keeps_refl s = record { told = λ object. refl; counts = λ object. refl }

-- a call on an object that isn't there
pub writes_nothing : (object : ℕ) (change : Pages → Pages) (count pages page : ℕ) (s : Seen) → s.told object ≡ None
    → Writes object change count pages (Err (BadPage object page)) s s
writes_nothing object change count pages page s none = record {
  done = tt;
  kept = keeps_refl s;
  reads = refl;
  writes = tt;
  unwritten = refl;
  later = omega arith;
  cause = (refl, none);
}

-- the same of a call that may have failed
pub sound_call : {D : Type 0} (g : Ghosts D) (before after : List ℕ) (old new : D) (slots : List Slot) (place : ℕ) (s : Slot) (o : Held)
    (change : Pages → Pages) (outcome : Result (Unit {0}) MapFault) → HasPut g before after old new → AreSound (g.blocks old) before slots
    → place < length slots → s ≡ slice_index_or slots place s → OnOk outcome (ChangesContents (g.blocks old) (g.blocks new) change s.object o)
    → OnErr outcome (o.pages ≡ s.object.pages) → WhereTold (g.blocks new) (Stands after o) → AreSound (g.blocks new) after (slice_set slots place (slot_with s o))
sound_call g before after old new slots place s o change (Ok x) put sound within is content same stands =
    sound_after g before after old new slots place s o change put sound within is stands content
sound_call g before after old new slots place s o change (Err e) put sound within is content same stands =
    sound_after g before after old new slots place s o (λ (ps : Pages). ps) put sound within is stands
    (λ all now ps told told_now held. ap (λ (xs : List ℕ). contents now (Ok xs)) same
    ∙ same_contents g before after old new s.object put (stands_at (g.blocks old) before slots place s sound within is) all now ps told told_now held)

-- where a call found no block, none is left
pub lack_after : (before after : List ℕ) (r0 r1 f0 f1 : ℕ) (outcome : Result (Unit {0}) MapFault) → before ≡ taken_of before after ++ after
    → (1 ≤ r0 → before ≡ []) → (1 ≤ r1 → (1 ≤ r0) ⊎ (outcome ≡ Err NoSpace)) → IfErr outcome (λ e. IsWriteFault (NoneLeft before after) e f0 f1)
    → 1 ≤ r1 → after ≡ []
lack_after before after r0 r1 f0 f1 outcome split lack more cause some = elim (more some) [
  | inl was ↦ none_behind before after split (lack was)
  | inr is ↦ (subst (λ (o : Result (Unit {0}) MapFault). IfErr o (λ e. IsWriteFault (NoneLeft before after) e f0 f1)) is cause).1
]
  where
    back_none : (front after : List ℕ) → front ++ after ≡ [] → after ≡ []
    back_none [] after is = is
    back_none (x ∷ front) after is = cc

    none_behind : (before after : List ℕ) → before ≡ taken_of before after ++ after → before ≡ [] → after ≡ []
    none_behind before after split none = back_none (taken_of before after) after (sym split ∙ none)

pub lack_clear : (left : List ℕ) (r0 r1 : ℕ) (outcome : Result (Unit {0}) MapFault) → (1 ≤ r0 → left ≡ [])
    → (1 ≤ r1 → (1 ≤ r0) ⊎ (outcome ≡ Err NoSpace)) → IfErr outcome (λ e. e ≡ NoMemory) → 1 ≤ r1 → left ≡ []
lack_clear left r0 r1 outcome lack more cause some = elim (more some) [
  | inl was ↦ lack was
  | inr is ↦ absurd (never (subst (λ (o : Result (Unit {0}) MapFault). IfErr o (λ e. e ≡ NoMemory)) is cause))
]
  where
    never : NoSpace ≡ NoMemory → ⊥
    never is = cc

-- how many pages there are then
pub push_size : (outcome : Result (Unit {0}) MapFault) (left : List ℕ) (old new : Held) (count : ℕ) → count ≡ length old.pages
    → OnOk outcome (TakesFor with_more left old new) → OnOk outcome (length new.pages ≡ count + 1)
push_size outcome left old new count is = ok_map (TakesFor with_more left old new) (length new.pages ≡ count + 1) outcome
    (λ took. ap (λ (o : Held). length o.pages) took ∙ length-append old.pages (slice_index left 0 ∷ []) ∙ ap (λ (n : ℕ). n + 1) (sym is))

pub set_size : (outcome : Result (Unit {0}) MapFault) (n : ℕ) (left : List ℕ) (old new : Held) (count : ℕ) → count ≡ length old.pages
    → OnOk outcome (TakesFor (with_page n) left old new) → OnOk outcome (length new.pages ≡ count)
set_size outcome n left old new count is = ok_map (TakesFor (with_page n) left old new) (length new.pages ≡ count) outcome
    (λ took. ap (λ (o : Held). length o.pages) took ∙ length-set old.pages n (slice_index left 0) ∙ sym is)

pub lost_same : (outcome : Result (Unit {0}) MapFault) (before after : List ℕ) (old new : Held) → OnErr outcome (LosesTaken before after old new)
    → OnErr outcome (new.pages ≡ old.pages)
lost_same outcome before after old new = err_map (LosesTaken before after old new) (new.pages ≡ old.pages) outcome (λ loses. ap (λ (o : Held). o.pages) loses)

-- of an object that was cleared
pub clear_size : (outcome : Result (Unit {0}) MapFault) (old new : Held) → OnOk outcome (new ≡ cleared old) → OnOk outcome (length new.pages ≡ 0)
clear_size outcome old new = ok_map (new ≡ cleared old) (length new.pages ≡ 0) outcome (λ is. ap (λ (o : Held). length o.pages) is)

pub clear_same : (outcome : Result (Unit {0}) MapFault) (old new : Held) → OnErr outcome (new ≡ old) → OnErr outcome (new.pages ≡ old.pages)
clear_same outcome old new = err_map (new ≡ old) (new.pages ≡ old.pages) outcome (λ is. ap (λ (o : Held). o.pages) is)

pub clear_content : (outcome : Result (Unit {0}) MapFault) (told : Option (List (List ℕ))) (old new : Held) → OnOk outcome (new ≡ cleared old)
    → OnOk outcome (ChangesContents told told (λ (ps : Pages). []) old new)
clear_content outcome told old new = ok_map (new ≡ cleared old) (ChangesContents told told (λ (ps : Pages). []) old new) outcome
    (λ is all now ps told_all told_now held. ap (λ (o : Held). contents now (Ok o.pages)) is)

pub clear_failure : (outcome : Result (Unit {0}) MapFault) (first last : ℕ) → IfErr outcome (λ e. e ≡ NoMemory) → IfErr outcome (λ e. IsFailure e first last)
clear_failure (Ok x) first last is = tt
clear_failure (Err e) first last is = subst (λ (f : MapFault). IsFailure f first last) (sym is) tt

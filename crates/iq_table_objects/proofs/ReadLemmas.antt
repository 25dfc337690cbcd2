-- What a read of a page does, as the traits of pages have it.
use Rattle.std.specs.Prelude.{◌≡◌, ℕ, zero, suc, ◌+◌, ◌<◌, ◌≤◌, ◌^◌, min, Bool, true, false, ◌&&◌, List, [], ◌∷◌, length, map, slice_index, slice_index_or, if◌then◌else◌, Option, Some, None, Result, Ok, Err, is_err, IfSome, IfErr, OnOk}
use Rattle.std.specs.List.{list_all, slice_get}
use Rattle.std.proofs.Common.{refl, sym, ap, subst, ◌∙◌, arith}
use Rattle.iq_outside.specs.declared.device.Device.{Ghosts}
use Rattle.iq_outside.specs.Devices.{block_of}
use Rattle.iq_outside.specs.Faults.{RoseWithin}
use Rattle.iq_block_store.specs.Frames.{page_kind, has_header, payload_of}
use Rattle.iq_block_store.specs.Looks.{HasLooked}
use Rattle.iq_pages.specs.Pages.{Pages, Seen, HasCause, NamesPage, ReadsPage, IsPageOf}
use Rattle.iq_pages.specs.declared.page_faults.PageFault.{PageFault}
use Rattle.iq_pages.specs.declared.page_faults.PageFault.TheVariants.{Failed, BadPage, NoMemory as OutOfMemory}
use Rattle.iq_block_map.specs.declared.faults.MapFault.{MapFault}
use Rattle.iq_block_map.specs.declared.faults.MapFault.TheVariants.{StoreFault, BadMap, NoSpace, NoMemory}
use Rattle.iq_block_map.specs.Objects.{pages_of, contents, HoldsPage}
use Rattle.iq_block_map.specs.Refs.{WhereTold}
use Rattle.iq_block_map.specs.Causes.{IsReadFault, IsNoPage}
use Rattle.iq_block_map.specs.Editing.{AreBlocks}
use Rattle.iq_objects.specs.Open.{Stands}
use Rattle.iq_table_objects.specs.Tables.{ReadsFault, if_right, told_of, told_at, slot_of, told_in, fault_count, seen_of}
use Rattle.iq_table_objects.specs.declared.table_objects.Slot.{Slot}
use Rattle.iq_table_objects.proofs.TableLemmas.{slot_at}

-- one that isn't is enough
one_false : (f : ℕ → Bool) (xs : List ℕ) (n : ℕ) → n < length xs → f (slice_index xs n) ≡ false → list_all f xs ≡ false
one_false f [] n within is = absurd (omega (arith, within))
one_false f (x ∷ xs) zero within is = ap (λ (b : Bool). b && list_all f xs) is
one_false f (x ∷ xs) (suc n) within is = ap (λ (b : Bool). f x && b) (one_false f xs n (omega (arith, within)) is) ∙ both (f x)
  where
    both : (b : Bool) → (b && false) ≡ false
    both true = refl
    both false = refl

mapped_at : (f : ℕ → List ℕ) (xs : List ℕ) (n : ℕ) → n < length xs → slice_get (map f xs) n ≡ Some (f (slice_index xs n))
mapped_at f [] n within = absurd (omega (arith, within))
mapped_at f (x ∷ xs) zero within = refl
mapped_at f (x ∷ xs) (suc n) within = mapped_at f xs n (omega (arith, within))

-- a block that is no page leaves an object without contents
no_page : (all : List (List ℕ)) (pages : List ℕ) (n block : ℕ) → n < length pages → IsNoPage (slice_index pages n) block all → contents all (Ok pages) ≡ None
no_page all pages n block within bad =
    let lacks : has_header page_kind (slice_index pages n) (block_of all (slice_index pages n)) ≡ false
    = subst (λ (b : ℕ). has_header page_kind b (block_of all b) ≡ false) bad.0 bad.1 in
    ap (λ (b : Bool). if b then Some (map (λ a. payload_of (block_of all a)) pages) else None)
    (one_false (λ a. has_header page_kind a (block_of all a)) pages n within lacks)

-- and a page is the one in its place
page_here : (all : List (List ℕ)) (pages : List ℕ) (n : ℕ) (into : List ℕ) → n < length pages → HoldsPage into (slice_index pages n) all
    → IsPageOf (contents all (Ok pages)) n into
page_here all pages n into within holds = go (list_all (λ a. has_header page_kind a (block_of all a)) pages)
  where
    go : (b : Bool) → IsPageOf (if b then Some (map (λ a. payload_of (block_of all a)) pages) else None) n into
    go true = mapped_at (λ a. payload_of (block_of all a)) pages n within ∙ ap Some (sym holds.content)
    go false = tt

-- the pages of the object that was read
told_here : (told : Option (List (List ℕ))) (slots : List Slot) (first object place : ℕ) (s : Slot) → first + place ≡ object → place < length slots
    → s ≡ slice_index_or slots place s → told_in told slots first object ≡ told_of told s
told_here told slots first object place s here within is = ap (told_at told) (slot_at slots first object place s here within) ∙ ap (told_of told) (sym is)

right_page : (r : Option Pages) (now : Option Pages) (n : ℕ) (into : List ℕ) → IsPageOf now n into → IsPageOf (if_right r now) n into
right_page None now n into is = tt
right_page (Some ps) now n into is = is

right_none : (r : Option Pages) (now : Option Pages) → now ≡ None → if_right r now ≡ None
right_none None now is = refl
right_none (Some ps) now is = is

page_of_slot : (told : Option (List (List ℕ))) (s : Slot) (n : ℕ) (into : List ℕ) → n < length s.object.pages
    → WhereTold told (HoldsPage into (slice_index s.object.pages n)) → IsPageOf (told_of told s) n into
page_of_slot None s n into within holds = tt
page_of_slot (Some all) s n into within holds =
    right_page (pages_of all s.reference) (contents all (Ok s.object.pages)) n into (page_here all s.object.pages n into within (holds all refl))

untold_slot : (told : Option (List (List ℕ))) (s : Slot) (n block : ℕ) → n < length s.object.pages
    → ((all : List (List ℕ)) → told ≡ Some all → IsNoPage (slice_index s.object.pages n) block all) → told_of told s ≡ None
untold_slot None s n block within bad = refl
untold_slot (Some all) s n block within bad =
    right_none (pages_of all s.reference) (contents all (Ok s.object.pages)) (no_page all s.object.pages n block within (bad all refl))

-- what a read of a page does
pub reads_is : {D : Type 0} (g : Ghosts D) (old new : D) (slots : List Slot) (first object place n : ℕ) (s : Slot) (into : List ℕ) (r0 : ℕ)
    (r : Result (Unit {0}) PageFault) (outcome : Result (Unit {0}) MapFault) → HasLooked g old new → first + place ≡ object → place < length slots
    → s ≡ slice_index_or slots place s → n < length s.object.pages → is_err r ≡ is_err outcome
    → OnOk outcome (WhereTold (g.blocks old) (HoldsPage into (slice_index s.object.pages n)))
    → IfErr outcome (λ e. IsReadFault (IsNoPage (slice_index s.object.pages n)) e (g.blocks old) (g.faults old) (g.faults new))
    → IfErr outcome (λ e. ReadsFault (fault_count (g.faults old) r0) (fault_count (g.faults new) r0) object n e r)
    → ReadsPage object n into r (seen_of (g.blocks old) slots first (g.faults old) r0) (seen_of (g.blocks new) slots first (g.faults new) r0)
reads_is g old new slots first object place n s into r0 r outcome looked here within is inner variant done cause answers =
    let seen_old = seen_of (g.blocks old) slots first (g.faults old) r0 in
    let seen_new = seen_of (g.blocks new) slots first (g.faults new) r0 in
    record {
      done = done_is r outcome variant done;
      kept = record {
        told = λ other. ap (λ (told : Option (List (List ℕ))). told_in told slots first other) looked.unchanged;
        counts = λ other. refl;
      };
      reads = tt;
      writes = refl;
      later = up (g.faults old) (g.faults new) looked.later;
      cause = cause_is r outcome variant cause answers;
      names = names_is r outcome variant answers;
    }
  where
    up : (f0 f1 : ℕ) → f0 ≤ f1 → fault_count f0 r0 ≤ fault_count f1 r0
    up f0 f1 later = omega (arith, later)

    done_is : (r : Result (Unit {0}) PageFault) (outcome : Result (Unit {0}) MapFault) → is_err r ≡ is_err outcome
        → OnOk outcome (WhereTold (g.blocks old) (HoldsPage into (slice_index s.object.pages n)))
        → OnOk r (IsPageOf (told_in (g.blocks old) slots first object) n into)
    done_is (Err e) outcome variant done = tt
    done_is (Ok x) (Err e) variant done = cc
    done_is (Ok x) (Ok y) variant done =
        subst (λ (told : Option Pages). IsPageOf told n into) (sym (told_here (g.blocks old) slots first object place s here within is))
        (page_of_slot (g.blocks old) s n into inner done)

    rose : (f0 x y f1 : ℕ) → RoseWithin f0 x y f1 → RoseWithin (fault_count f0 r0) (fault_count f0 r0) (fault_count f1 r0) (fault_count f1 r0)
    rose f0 x y f1 is =
        let since = is.since in
        let risen = is.risen in
        let until = is.until in
        record { since = omega arith; risen = omega (arith, since, risen, until); until = omega arith }

    cause_is : (r : Result (Unit {0}) PageFault) (outcome : Result (Unit {0}) MapFault) → is_err r ≡ is_err outcome
        → IfErr outcome (λ e. IsReadFault (IsNoPage (slice_index s.object.pages n)) e (g.blocks old) (g.faults old) (g.faults new))
        → IfErr outcome (λ e. ReadsFault (fault_count (g.faults old) r0) (fault_count (g.faults new) r0) object n e r)
        → IfErr r (HasCause object (seen_of (g.blocks old) slots first (g.faults old) r0) (seen_of (g.blocks new) slots first (g.faults new) r0))
    cause_is (Ok x) outcome variant cause answers = tt
    cause_is (Err e) (Ok y) variant cause answers = cc
    cause_is (Err e) (Err (StoreFault x y)) variant cause answers =
        subst (λ (q : Result (Unit {0}) PageFault). IfErr q (HasCause object (seen_of (g.blocks old) slots first (g.faults old) r0) (seen_of (g.blocks new) slots first (g.faults new) r0)))
        (sym answers) (rose (g.faults old) x y (g.faults new) cause)
    cause_is (Err e) (Err (BadMap block)) variant cause answers =
        subst (λ (q : Result (Unit {0}) PageFault). IfErr q (HasCause object (seen_of (g.blocks old) slots first (g.faults old) r0) (seen_of (g.blocks new) slots first (g.faults new) r0)))
        (sym answers) (refl, told_here (g.blocks old) slots first object place s here within is ∙ untold_slot (g.blocks old) s n block inner cause)
    cause_is (Err e) (Err NoSpace) variant cause answers = absurd cause
    cause_is (Err e) (Err NoMemory) variant cause answers = absurd cause

    names_is : (r : Result (Unit {0}) PageFault) (outcome : Result (Unit {0}) MapFault) → is_err r ≡ is_err outcome
        → IfErr outcome (λ e. ReadsFault (fault_count (g.faults old) r0) (fault_count (g.faults new) r0) object n e r) → IfErr r (NamesPage n)
    names_is (Ok x) outcome variant answers = tt
    names_is (Err e) (Ok y) variant answers = cc
    names_is (Err e) (Err (StoreFault x y)) variant answers = subst (λ (q : Result (Unit {0}) PageFault). IfErr q (NamesPage n)) (sym answers) tt
    names_is (Err e) (Err (BadMap block)) variant answers = subst (λ (q : Result (Unit {0}) PageFault). IfErr q (NamesPage n)) (sym answers) refl
    names_is (Err e) (Err NoSpace) variant answers = subst (λ (q : Result (Unit {0}) PageFault). IfErr q (NamesPage n)) (sym answers) tt
    names_is (Err e) (Err NoMemory) variant answers = subst (λ (q : Result (Unit {0}) PageFault). IfErr q (NamesPage n)) (sym answers) tt

-- the blocks of pages of what stands are of the store
pub inside_at : (told : Option (List (List ℕ))) (left : List ℕ) (s : Slot) → WhereTold told (Stands left s.object) → AreBlocks told s.object.pages
inside_at told left s stands = λ all is. (stands all is).pages

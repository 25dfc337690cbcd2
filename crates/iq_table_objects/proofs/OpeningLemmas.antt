-- Objects that are opened one after the other.
use Rattle.std.specs.Prelude.{◌≡◌, ℕ, zero, suc, ◌+◌, ◌<◌, ◌≤◌, false, List, [], ◌∷◌, ◌++◌, length, map, take, slice_index_or, Option, Some, None, Ok, Err, is_ok, is_some, nat_lt}
use Rattle.std.specs.List.{All}
use Rattle.std.proofs.Common.{refl, sym, ap, subst, ◌∙◌, arith, add-one}
use Rattle.std.proofs.lemmas.List.{get_or_default, map-append}
use Rattle.std.proofs.lemmas.List.Elements.{All-push}
use Rattle.std.proofs.Math.Seq.{take-suc}
use Rattle.iq_base.specs.declared.refs.Ref.{Ref}
use Rattle.iq_outside.specs.Faults.{RoseWithin}
use Rattle.iq_block_map.specs.declared.faults.MapFault.{MapFault}
use Rattle.iq_block_map.specs.declared.faults.MapFault.TheVariants.{StoreFault, BadMap, NoSpace, NoMemory}
use Rattle.iq_block_map.specs.Objects.{addresses_of, pages_of, contents}
use Rattle.iq_block_map.specs.Refs.{IsIn, WhereTold}
use Rattle.iq_block_map.specs.Causes.{IsWalkFault}
use Rattle.iq_base.specs.declared.sizes.TheConstants.{MOST_PAGES}
use Rattle.iq_pages.specs.Pages.{Pages}
use Rattle.iq_block_map.specs.Takers.{AreSpare}
use Rattle.iq_block_map.specs.Writing.{holds}
use Rattle.iq_objects.proofs.StandLemmas.{zero_free}
use Rattle.iq_objects.specs.Open.{Held, Stands}
use Rattle.iq_objects.specs.Opened.{IsOpened}
use Rattle.iq_table_objects.specs.declared.table_objects.Slot.{Slot}
use Rattle.iq_table_objects.specs.Opening.{IsApart, MayOpen, MayOpenAll, IsSlotOpened, IsOpenFault, references_of}
use Rattle.iq_table_objects.specs.Tables.{IsSound, AreSound, if_right, told_of, told_at, count_at, seen_of}
use Rattle.iq_table_objects.specs.Views.{AreOpened}
use Rattle.iq_table_objects.proofs.TableLemmas.{slot_at, slot_past}

-- a device that was only looked at
pub still_in : (told told_now : Option (List (List ℕ))) (objects : List Ref) (k : ℕ) (d : Ref) → told_now ≡ told → All (IsIn told) objects → k < length objects
    → IsIn told_now (slice_index_or objects k d)
still_in told told_now objects k d same each within = subst (λ (t : Option (List (List ℕ))). IsIn t (slice_index_or objects k d)) (sym same) (each k d within)

-- why the object in a place wasn't opened
pub open_fault : (objects : List Ref) (k : ℕ) (e : MapFault) (object d : Ref) (told told_now : Option (List (List ℕ))) (f0 f1 f2 : ℕ) → told_now ≡ told → f0 ≤ f1
    → k < length objects → object ≡ slice_index_or objects k d → IsWalkFault (λ b all. addresses_of all object ≡ Err b) e told_now f1 f2
    → IsOpenFault objects told e f0 f2
open_fault objects k (StoreFault x y) object d told told_now f0 f1 f2 same later within is rose = record {
  since = omega (arith, later, rose.since);
  risen = rose.risen;
  until = rose.until;
}
open_fault objects k (BadMap block) object d told told_now f0 f1 f2 same later within is bad = (
  k,
  within,
  λ e all told_all.
      ap (addresses_of all) (get_or_default objects k e d within ∙ sym is) ∙ bad all (same ∙ told_all),
)
open_fault objects k NoSpace object d told told_now f0 f1 f2 same later within is bad = absurd bad
open_fault objects k NoMemory object d told told_now f0 f1 f2 same later within is any = tt

-- one more object is opened
pub references_push : (slots items : List Slot) (s : Slot) (objects : List Ref) (k : ℕ) (d : Ref) → items ≡ slots ++ s ∷ [] → references_of slots ≡ take k objects
    → s.reference ≡ slice_index_or objects k d → k < length objects → references_of items ≡ take (k + 1) objects
references_push slots items s objects k d is had here within =
    ap references_of is ∙ map-append (λ (t : Slot). t.reference) slots (s ∷ []) ∙ ap (λ (xs : List Ref). xs ++ s.reference ∷ []) had
    ∙ ap (λ (r : Ref). take k objects ++ r ∷ []) here ∙ sym (take-suc objects k d within) ∙ ap (λ (n : ℕ). take n objects) (sym (add-one k))

pub opened_push : (told told_now : Option (List (List ℕ))) (slots items : List Slot) (object : Ref) (o : Held) → told_now ≡ told
    → items ≡ slots ++ record { reference = object; object = o } ∷ [] → All (IsSlotOpened told) slots → length o.pages ≡ object.pages → o.lost ≡ []
    → WhereTold told_now (IsOpened object o) → All (IsSlotOpened told) items
opened_push told told_now slots items object o same is had size lost opened =
    let s : Slot = record { reference = object; object = o } in
    let one : IsSlotOpened told s = record {
      size = size;
      lost = lost;
      opened = subst (λ (t : Option (List (List ℕ))). WhereTold t (IsOpened object o)) same opened;
    } in
    subst (All (IsSlotOpened told)) (sym is) (All-push (IsSlotOpened told) slots s had one)

-- what stands in a place of a list of slots, by its reference
reference_at : (slots : List Slot) (k : ℕ) (d : Slot) → slice_index_or (references_of slots) k d.reference ≡ (slice_index_or slots k d).reference
reference_at [] k d = refl
reference_at (s ∷ slots) zero d = refl
reference_at (s ∷ slots) (suc k) d = reference_at slots k d

reference_is : (slots : List Slot) (objects : List Ref) (k : ℕ) (d : Slot) (e : Ref) → references_of slots ≡ objects → k < length objects
    → (slice_index_or slots k d).reference ≡ slice_index_or objects k e
reference_is slots objects k d e are within =
    sym (reference_at slots k d) ∙ ap (λ (rs : List Ref). slice_index_or rs k d.reference) are ∙ get_or_default objects k d.reference e within

pub references_size : (slots : List Slot) (objects : List Ref) → references_of slots ≡ objects → length slots ≡ length objects
references_size slots objects are = sym (mapped slots) ∙ ap length are
  where
    mapped : (slots : List Slot) → length (references_of slots) ≡ length slots
    mapped [] = refl
    mapped (s ∷ slots) = ap suc (mapped slots)

-- an object that was opened is sound
sound_one : (left : List ℕ) (s : Slot) (all : List (List ℕ)) → holds left 0 ≡ false → s.reference.pages ≤ MOST_PAGES → IsApart left s.reference all
    → IsOpened s.reference s.object all → IsSound left s all
sound_one left s all none few apart opened = record {
  stands = opened.stands left none (apart opened.blocks opened.reached);
  few = few;
  reached = ap is_ok opened.reached;
  free = apart;
  held = λ ps is. ap is_some (sym (ap (contents all) opened.pages) ∙ is);
}

pub sound_open : (told : Option (List (List ℕ))) (left : List ℕ) (slots : List Slot) (objects : List Ref) → AreSpare told left → MayOpenAll told left objects
    → references_of slots ≡ objects → All (IsSlotOpened told) slots → AreSound told left slots
sound_open told left slots objects spare may are opened k d within all told_all =
    let inside : k < length objects = omega (arith, within, references_size slots objects are) in
    let s = slice_index_or slots k d in
    let same = reference_is slots objects k d d.reference are inside in
    let one : MayOpen told left s.reference = subst (MayOpen told left) (sym same) (may k d.reference inside) in
    sound_one left s all (zero_free left spare.above) one.is_in.few (one.apart all told_all) ((opened k d within).opened all told_all)

right_same : (r : Option Pages) → if_right r r ≡ r
right_same None = refl
right_same (Some ps) = refl

-- what is told of objects that were opened
pub opened_are : (told told_now : Option (List (List ℕ))) (slots : List Slot) (first faults : ℕ) (objects : List Ref) (e : Slot) → told_now ≡ told
    → references_of slots ≡ objects → All (IsSlotOpened told) slots → AreOpened told first objects (seen_of told_now slots first faults 0)
opened_are told told_now slots first faults objects e same are opened = record {
  told = λ k d inside all told_all.
      (let within : k < length slots = omega (arith, inside, references_size slots objects are) in
      let s = slice_index_or slots k e in
      let had : IsOpened s.reference s.object all = (opened k e within).opened all told_all in
      let right : pages_of all s.reference ≡ contents all (Ok s.object.pages) = ap (contents all) had.pages in
      ap (told_at told_now) (slot_at slots first (first + k) k e refl within)
      ∙ ap (λ (t : Option (List (List ℕ))). told_of t s) (same ∙ told_all)
      ∙ ap (if_right (pages_of all s.reference)) (sym right) ∙ right_same (pages_of all s.reference)
      ∙ ap (pages_of all) (reference_is slots objects k e d are inside));
  counts = λ k d inside.
      (let within : k < length slots = omega (arith, inside, references_size slots objects are) in
      ap count_at (slot_at slots first (first + k) k e refl within) ∙ (opened k e within).size
      ∙ ap (λ (r : Ref). r.pages) (reference_is slots objects k e d are inside));
  missing = λ object past.
      ap count_at (slot_past slots first object (λ k is. subst (λ (n : ℕ). n ≤ k) (sym (references_size slots objects are)) (past k is)));
}

-- The objects of a source over a device: of each the reference that it was opened with, and what it is now.
use Rattle.iq_base.specs.declared.sizes.TheConstants.{MOST_PAGES}
use Rattle.std.specs.Prelude.{◌≡◌, ℕ, ◌+◌, ◌-◌, ◌^◌, ◌≤◌, min, true, false, List, Option, Some, None, is_some, Result, Ok, Err, is_ok, length, nat_lt, if◌then◌else◌}
use Rattle.std.specs.List.{All, slice_get}
use Rattle.iq_pages.specs.Pages.{Pages, Seen}
use Rattle.iq_pages.specs.declared.page_faults.PageFault.{PageFault}
use Rattle.iq_pages.specs.declared.page_faults.PageFault.TheVariants.{Failed, BadPage, NoMemory as OutOfMemory}
use Rattle.iq_outside.specs.Faults.{RoseWithin}
use Rattle.iq_block_map.specs.declared.faults.MapFault.{MapFault}
use Rattle.iq_block_map.specs.declared.faults.MapFault.TheVariants.{StoreFault, BadMap, NoSpace, NoMemory}
use Rattle.iq_block_map.specs.Objects.{blocks_of, pages_of, contents}
use Rattle.iq_block_map.specs.Refs.{WhereTold}
use Rattle.iq_block_map.specs.Writing.{holds}
use Rattle.iq_objects.specs.Open.{Stands}
use Rattle.iq_table_objects.specs.declared.table_objects.Slot.{Slot}

-- It stands; what its reference reaches isn't among the blocks that may be taken; and where the reference's pages are right, its own
-- are.
pub record IsSound (left : List ℕ) (s : Slot) (all : List (List ℕ)) : Type 0 where
  pub stands : Stands left s.object all
  pub few : s.reference.pages ≤ MOST_PAGES
  pub reached : is_ok (blocks_of all s.reference) ≡ true
  pub free : (blocks : List ℕ) → blocks_of all s.reference ≡ Ok blocks → All (λ b. holds left b ≡ false) blocks
  pub held : (ps : Pages) → pages_of all s.reference ≡ Some ps → is_some (contents all (Ok s.object.pages)) ≡ true

-- each of them is, where the device tells its blocks
abbrev pub AreSound : Option (List (List ℕ)) → List ℕ → List Slot → Type 0
AreSound told left slots = All (λ (s : Slot). WhereTold told (IsSound left s)) slots

-- pages, if the ones of the reference are right
abbrev pub if_right : Option Pages → Option Pages → Option Pages
if_right None now = None
if_right (Some ps) now = now

-- the pages of an object, where the device tells its blocks and the pages of its reference are right
abbrev pub told_of : Option (List (List ℕ)) → Slot → Option Pages
told_of None s = None
told_of (Some all) s = if_right (pages_of all s.reference) (contents all (Ok s.object.pages))

abbrev pub told_at : Option (List (List ℕ)) → Option Slot → Option Pages
told_at told None = None
told_at told (Some s) = told_of told s

abbrev pub count_at : Option Slot → ℕ
count_at None = 0
count_at (Some s) = length s.object.pages

-- the object of a number; the first one has a number of its own
abbrev pub slot_of : List Slot → ℕ → ℕ → Option Slot
slot_of slots first object = if nat_lt object first then None else slice_get slots (object - first)

abbrev pub told_in : Option (List (List ℕ)) → List Slot → ℕ → ℕ → Option Pages
told_in told slots first object = told_at told (slot_of slots first object)

abbrev pub count_in : List Slot → ℕ → ℕ → ℕ
count_in slots first object = count_at (slot_of slots first object)

-- the faults of the device and the refusals for want of a block, as far as a u64 counts
abbrev pub fault_count : ℕ → ℕ → ℕ
fault_count faults refused = min (faults + refused) (2 ^ 64 - 1)

-- all that is seen of the objects
abbrev pub seen_of : Option (List (List ℕ)) → List Slot → ℕ → ℕ → ℕ → Seen
seen_of told slots first faults refused = record {
  counts = λ object. count_in slots first object;
  told = λ object. told_in told slots first object;
  reads = None;
  writes = None;
  faults = fault_count faults refused;
}

-- why a call that writes failed, as the device's count of faults has it: no map is read
abbrev pub IsFailure : MapFault → ℕ → ℕ → Type 0
IsFailure (StoreFault before after) first last = RoseWithin first before after last
IsFailure (BadMap block) first last = ⊥
IsFailure NoSpace first last = Unit {0}
IsFailure NoMemory first last = Unit {0}

-- and as the source has it
abbrev pub IsAnswer : PageFault → ℕ → ℕ → Type 0
IsAnswer (Failed before after) first last = RoseWithin first before after last
IsAnswer (BadPage object page) first last = ⊥
IsAnswer OutOfMemory first last = Unit {0}

-- what a read that failed answers
abbrev pub ReadsFault : ℕ → ℕ → ℕ → ℕ → MapFault → Result (Unit {0}) PageFault → Type 0
ReadsFault before after object n (StoreFault x y) result = result ≡ Err (Failed before after)
ReadsFault before after object n (BadMap block) result = result ≡ Err (BadPage object n)
ReadsFault before after object n NoSpace result = result ≡ Err (Failed before after)
ReadsFault before after object n NoMemory result = result ≡ Err OutOfMemory

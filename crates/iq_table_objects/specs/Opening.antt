-- What opening objects, and closing them, does.
use Rattle.iq_base.specs.declared.sizes.TheConstants.{MOST_PAGES}
use Rattle.std.specs.Prelude.{◌≡◌, ℕ, ◌+◌, ◌≤◌, ◌<◌, false, List, [], length, map, Option, Some, Ok, Err, slice_index_or}
use Rattle.std.specs.List.{All}
use Rattle.iq_base.specs.declared.refs.Ref.{Ref}
use Rattle.iq_outside.specs.Faults.{RoseWithin}
use Rattle.iq_pages.specs.Pages.{Pages, Seen}
use Rattle.iq_block_map.specs.declared.faults.MapFault.{MapFault}
use Rattle.iq_block_map.specs.declared.faults.MapFault.TheVariants.{StoreFault, BadMap, NoSpace, NoMemory}
use Rattle.iq_block_map.specs.Objects.{addresses_of, blocks_of, pages_of}
use Rattle.iq_block_map.specs.Refs.{IsIn, WhereTold}
use Rattle.iq_block_map.specs.Writing.{holds}
use Rattle.iq_block_map.specs.Laws.{times}
use Rattle.iq_objects.specs.Open.{Held, Stands, blocks_held}
use Rattle.iq_objects.specs.Opened.{IsOpened}
use Rattle.iq_table_objects.specs.declared.table_objects.Slot.{Slot}
use Rattle.iq_table_objects.specs.Tables.{told_of}

-- what a reference reaches isn't among the blocks that may be taken
abbrev pub IsApart : List ℕ → Ref → List (List ℕ) → Type 0
IsApart left object all = (blocks : List ℕ) → blocks_of all object ≡ Ok blocks → All (λ b. holds left b ≡ false) blocks

-- a reference may stand in the store, apart from what may be taken
pub record MayOpen (told : Option (List (List ℕ))) (left : List ℕ) (object : Ref) : Type 0 where
  pub is_in : IsIn told object
  pub apart : WhereTold told (IsApart left object)

abbrev pub MayOpenAll : Option (List (List ℕ)) → List ℕ → List Ref → Type 0
MayOpenAll told left objects = All (MayOpen told left) objects

-- an object was opened
pub record IsSlotOpened (told : Option (List (List ℕ))) (s : Slot) : Type 0 where
  pub size : length s.object.pages ≡ s.reference.pages
  pub lost : s.object.lost ≡ []
  pub opened : WhereTold told (IsOpened s.reference s.object)

-- the references that slots were opened with
abbrev pub references_of : List Slot → List Ref
references_of slots = map (λ (s : Slot). s.reference) slots

-- objects weren't opened: the count of faults rose, a map of one of them isn't right, or memory is wanting
abbrev pub IsOpenFault : List Ref → Option (List (List ℕ)) → MapFault → ℕ → ℕ → Type 0
IsOpenFault objects told (StoreFault before after) first last = RoseWithin first before after last
IsOpenFault objects told (BadMap block) first last =
    (k : ℕ) × (k < length objects) × ((d : Ref) → WhereTold told (λ all. addresses_of all (slice_index_or objects k d) ≡ Err block))
IsOpenFault objects told NoSpace first last = ⊥
IsOpenFault objects told NoMemory first last = Unit {0}

-- The reference of an object names its pages; it reaches the blocks that the object has, each as often, those that the object lost are
-- counted beside them, and none of them may be taken.
pub record IsSettled (left : List ℕ) (s : Slot) (all : List (List ℕ)) : Type 0 where
  pub few : s.reference.pages ≤ MOST_PAGES
  pub pages : addresses_of all s.reference ≡ Ok s.object.pages
  pub blocks : List ℕ
  pub reached : blocks_of all s.reference ≡ Ok blocks
  pub each : (b : ℕ) → 1 ≤ b → times b (blocks_held s.object) ≡ times b blocks + times b s.object.lost
  pub free : All (λ b. holds left b ≡ false) blocks

-- what was told of an object is what its reference reads as
abbrev pub ReadsAsTold : Option (List (List ℕ)) → Slot → Slot → List (List ℕ) → Type 0
ReadsAsTold told old new all = (ps : Pages) → told_of told old ≡ Some ps → pages_of all new.reference ≡ Some ps

-- each object stands
abbrev pub AreStanding : Option (List (List ℕ)) → List ℕ → List Slot → Type 0
AreStanding told left slots = All (λ (s : Slot). WhereTold told (Stands left s.object)) slots

-- An object was closed, where the device tells its blocks. On every device its reference has as many pages, and may stand in the
-- store.
pub record IsSlotClosed (told : Option (List (List ℕ))) (left : List ℕ) (s : Slot) : Type 0 where
  pub size : s.reference.pages ≡ length s.object.pages
  pub settled : WhereTold told (IsSettled left s)
  pub is_in : IsIn told s.reference

-- each object is closed
abbrev pub AreSettled : Option (List (List ℕ)) → List ℕ → List Slot → Type 0
AreSettled told left slots = All (IsSlotClosed told left) slots

-- the objects have their pages in the same blocks
pub record SamePages (old new : List Slot) : Type 0 where
  pub size : length new ≡ length old
  pub each : (k : ℕ) (d : Slot) → k < length old → (slice_index_or new k d).object.pages ≡ (slice_index_or old k d).object.pages

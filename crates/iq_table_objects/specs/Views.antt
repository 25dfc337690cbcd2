-- What contracts see of the objects of a table beside their pages.
use Rattle.std.specs.Prelude.{◌≡◌, ℕ, ◌+◌, ◌<◌, ◌≤◌, Bool, length, nat_lt, List, Option, Some, slice_index_or}
use Rattle.iq_base.specs.declared.refs.Ref.{Ref}
use Rattle.iq_outside.specs.declared.device.Device.{Ghosts}
use Rattle.iq_pages.specs.Pages.{Pages, Seen}
use Rattle.iq_block_map.specs.Objects.{pages_of}
use Rattle.iq_block_map.specs.Refs.{WhereTold}
use Rattle.iq_table_objects.specs.declared.table_objects.Slot.{Slot}
use Rattle.iq_table_objects.specs.declared.table_objects.TableObjects.{TableObjects}
use Rattle.iq_table_objects.specs.Tables.{seen_of}

-- their device
abbrev pub device_of : {D T : Type 0} {g : _} {h : _} → TableObjects D T g h → D
device_of s = s.disk

-- where the blocks that they may take come from
abbrev pub space_of : {D T : Type 0} {g : _} {h : _} → TableObjects D T g h → T
space_of s = s.space

-- the number of the first one
abbrev pub first_of : {D T : Type 0} {g : _} {h : _} → TableObjects D T g h → ℕ
first_of s = s.first

-- how many there are
abbrev pub size_of : {D T : Type 0} {g : _} {h : _} → TableObjects D T g h → ℕ
size_of s = length s.slots.items

-- whether a call found no block to take
abbrev pub lacked_by : {D T : Type 0} {g : _} {h : _} → TableObjects D T g h → Bool
lacked_by s = nat_lt 0 s.refused

-- all that is seen of them as a source
abbrev pub seen_by : {D T : Type 0} {g : _} {h : _} → Ghosts D → TableObjects D T g h → Seen
seen_by d s = seen_of (d.blocks s.disk) s.slots.items s.first (d.faults s.disk) s.refused

-- Objects as a source tells them are those of references, where the device tells its blocks: each has the pages that its reference
-- reads as, and on every device as many as it says. No other object has pages.
pub record AreOpened (blocks : Option (List (List ℕ))) (first : ℕ) (objects : List Ref) (now : Seen) : Type 0 where
  pub told : (k : ℕ) (d : Ref) → k < length objects → WhereTold blocks (λ all. now.told (first + k) ≡ pages_of all (slice_index_or objects k d))
  pub counts : (k : ℕ) (d : Ref) → k < length objects → now.counts (first + k) ≡ (slice_index_or objects k d).pages
  pub missing : (object : ℕ) → ((k : ℕ) → first + k ≡ object → length objects ≤ k) → now.counts object ≡ 0

-- the references of slots read as objects were told, and say how many pages they had
pub record ReadAsTold (told_now : Option (List (List ℕ))) (first : ℕ) (slots : List Slot) (before : Seen) : Type 0 where
  pub told : (k : ℕ) (d : Slot) (ps : Pages) → k < length slots → before.told (first + k) ≡ Some ps
      → WhereTold told_now (λ all. pages_of all (slice_index_or slots k d).reference ≡ Some ps)
  pub counts : (k : ℕ) (d : Slot) → k < length slots → (slice_index_or slots k d).reference.pages ≡ before.counts (first + k)

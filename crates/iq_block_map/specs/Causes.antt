-- Why an object wasn't read or written.
use Rattle.std.specs.Prelude.{◌≡◌, ◌⊎◌, ℕ, false, List, [], Ok, Err, Option, Some}
use Rattle.iq_outside.specs.Faults.{RoseWithin}
use Rattle.iq_outside.specs.Devices.{block_of}
use Rattle.iq_block_store.specs.Frames.{page_kind, map_kind, has_header}
use Rattle.iq_block_store.specs.declared.blocks.BlockFault.{BlockFault}
use Rattle.iq_block_store.specs.declared.blocks.BlockFault.TheVariants.{StoreFault as Rose, BadHeader}
use Rattle.iq_base.specs.declared.refs.Ref.{Ref}
use Rattle.iq_block_map.specs.declared.faults.MapFault.{MapFault}
use Rattle.iq_block_map.specs.declared.faults.MapFault.TheVariants.{StoreFault, BadMap, NoSpace, NoMemory}
use Rattle.iq_block_map.specs.Objects.{map_at, address_of}

-- the bytes of a map weren't read: the count of faults rose meanwhile, or the block isn't of that kind and place
abbrev pub IsRawFault : BlockFault → ℕ → Option (List (List ℕ)) → ℕ → ℕ → Type 0
IsRawFault (Rose before after) at told first last = RoseWithin first before after last
IsRawFault (BadHeader block) at told first last =
    (block ≡ at) × ((all : List (List ℕ)) → told ≡ Some all → has_header map_kind at (block_of all at) ≡ false)

-- or where this block is bad, which the device's blocks tell
abbrev pub IsReadFault : (ℕ → List (List ℕ) → Type 0) → MapFault → Option (List (List ℕ)) → ℕ → ℕ → Type 0
IsReadFault IsBad (StoreFault before after) told first last = RoseWithin first before after last
IsReadFault IsBad (BadMap block) told first last = (all : List (List ℕ)) → told ≡ Some all → IsBad block all
IsReadFault IsBad NoSpace told first last = ⊥
IsReadFault IsBad NoMemory told first last = ⊥

-- the same, or for want of memory
abbrev pub IsWalkFault : (ℕ → List (List ℕ) → Type 0) → MapFault → Option (List (List ℕ)) → ℕ → ℕ → Type 0
IsWalkFault IsBad (StoreFault before after) told first last = RoseWithin first before after last
IsWalkFault IsBad (BadMap block) told first last = (all : List (List ℕ)) → told ≡ Some all → IsBad block all
IsWalkFault IsBad NoSpace told first last = ⊥
IsWalkFault IsBad NoMemory told first last = Unit {0}

-- a block isn't the map that is read there
abbrev pub IsWrongMap : ℕ → ℕ → ℕ → ℕ → List (List ℕ) → Type 0
IsWrongMap level used at block all = (block ≡ at) × (map_at all level used at ≡ Err at)

-- a block isn't the page that is read there
abbrev pub IsNoPage : ℕ → ℕ → List (List ℕ) → Type 0
IsNoPage at block all = (block ≡ at) × (has_header page_kind block (block_of all block) ≡ false)

-- a page's way: a map on it isn't right, or the block at its end is no page
abbrev pub IsBadOnWay : Ref → ℕ → ℕ → List (List ℕ) → Type 0
IsBadOnWay object n block all =
    (address_of all object n ≡ Err block) ⊎ ((address_of all object n ≡ Ok block) × (has_header page_kind block (block_of all block) ≡ false))

-- an object wasn't written: too few blocks were left, the count of faults rose meanwhile, or this block is bad
abbrev pub IsEditFault : (ℕ → Type 0) → Type 0 → MapFault → ℕ → ℕ → Type 0
IsEditFault IsBad Lacks (StoreFault before after) first last = RoseWithin first before after last
IsEditFault IsBad Lacks (BadMap block) first last = IsBad block
IsEditFault IsBad Lacks NoSpace first last = Lacks
IsEditFault IsBad Lacks NoMemory first last = ⊥

-- a block wasn't written: none was left, or the count of faults rose meanwhile
abbrev pub IsPutFault : Type 0 → MapFault → ℕ → ℕ → Type 0
IsPutFault Lacks (StoreFault before after) first last = RoseWithin first before after last
IsPutFault Lacks (BadMap block) first last = ⊥
IsPutFault Lacks NoSpace first last = Lacks
IsPutFault Lacks NoMemory first last = ⊥

-- no block was left, and so none is
abbrev pub NoneLeft : List ℕ → List ℕ → Type 0
NoneLeft before after = (before ≡ []) × (after ≡ [])

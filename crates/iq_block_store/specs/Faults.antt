-- Why a block wasn't read or written.
use Rattle.std.specs.Prelude.{◌≡◌, ℕ, false, List, Option, Some}
use Rattle.iq_outside.specs.Faults.{RoseWithin}
use Rattle.iq_outside.specs.Devices.{block_of}
use Rattle.iq_block_store.specs.Frames.{has_header}
use Rattle.iq_block_store.specs.declared.store_faults.StoreFault.{StoreFault as Rise}
use Rattle.iq_block_store.specs.declared.blocks.BlockFault.{BlockFault}
use Rattle.iq_block_store.specs.declared.blocks.BlockFault.TheVariants.{StoreFault, BadHeader}

-- the count of faults rose from the one number to the other meanwhile
abbrev pub IsRise : Rise → ℕ → ℕ → Type 0
IsRise fault first last = RoseWithin first fault.before fault.after last

-- a read fails where the count of faults rose meanwhile, or where the block that came isn't of this kind and place
abbrev pub ReadFails : BlockFault → ℕ → ℕ → List ℕ → ℕ → ℕ → Type 0
ReadFails (StoreFault before after) kind at came first last = RoseWithin first before after last
ReadFails (BadHeader block) kind at came first last = (block ≡ at) × (has_header kind at came ≡ false)

-- a write fails only where the count of faults rose meanwhile
abbrev pub WriteFails : BlockFault → ℕ → ℕ → Type 0
WriteFails (StoreFault before after) first last = RoseWithin first before after last
WriteFails (BadHeader block) first last = ⊥

-- the block that came is the one in its place, where the device tells its blocks
abbrev pub IsBlockAt : ℕ → List ℕ → Option (List (List ℕ)) → Type 0
IsBlockAt at came told = (all : List (List ℕ)) → told ≡ Some all → came ≡ block_of all at

-- a fault of the device alone says nothing of the block
abbrev pub CameUnlessFault : BlockFault → ℕ → List ℕ → Option (List (List ℕ)) → Type 0
CameUnlessFault (StoreFault before after) at came told = Unit {0}
CameUnlessFault (BadHeader block) at came told = IsBlockAt at came told

-- Why a descriptor wasn't read or written.
use Rattle.std.specs.Prelude.{◌≡◌, ◌<◌, ℕ, List, [], length, Option, Some}
use Rattle.iq_outside.specs.Faults.{RoseWithin}
use Rattle.iq_descriptors.specs.declared.faults.DescriptorFault.{DescriptorFault}
use Rattle.iq_descriptors.specs.declared.faults.DescriptorFault.TheVariants.{StoreFault, Bad, NoSpace, NoMemory}

-- it wasn't read: the count of faults rose meanwhile, this block is bad, which the device's blocks tell, or memory is wanting
abbrev pub IsReadFault : (ℕ → List (List ℕ) → Type 0) → DescriptorFault → Option (List (List ℕ)) → ℕ → ℕ → Type 0
IsReadFault IsBad (StoreFault before after) told first last = RoseWithin first before after last
IsReadFault IsBad (Bad block) told first last = (all : List (List ℕ)) → told ≡ Some all → IsBad block all
IsReadFault IsBad NoSpace told first last = ⊥
IsReadFault IsBad NoMemory told first last = Unit {0}

-- it wasn't written: fewer blocks were left than it takes, and none is now; the count of faults rose meanwhile; or memory is wanting
abbrev pub IsWriteFault : ℕ → DescriptorFault → List ℕ → List ℕ → ℕ → ℕ → Type 0
IsWriteFault needed (StoreFault before after) left now first last = RoseWithin first before after last
IsWriteFault needed (Bad block) left now first last = ⊥
IsWriteFault needed NoSpace left now first last = (length left < needed) × (now ≡ [])
IsWriteFault needed NoMemory left now first last = Unit {0}

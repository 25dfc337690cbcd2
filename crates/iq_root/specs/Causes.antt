-- Why there is no root.
use Rattle.std.specs.Prelude.{◌≡◌, ℕ, List, Option, Some, None}
use Rattle.iq_outside.specs.Faults.{RoseWithin}
use Rattle.iq_root.specs.Roots.{newest}
use Rattle.iq_root.specs.declared.root.RootFault.{RootFault}
use Rattle.iq_root.specs.declared.root.RootFault.TheVariants.{StoreFault, NoRoot}

-- no root: the count of faults rose meanwhile, or no slot is valid
abbrev pub HasNoRoot : RootFault → Option (List (List ℕ)) → ℕ → ℕ → Type 0
HasNoRoot (StoreFault before after) told first last = RoseWithin first before after last
HasNoRoot NoRoot told first last = (all : List (List ℕ)) → told ≡ Some all → newest all ≡ None

-- not published: only where the count of faults rose meanwhile
abbrev pub HasFault : RootFault → ℕ → ℕ → Type 0
HasFault (StoreFault before after) first last = RoseWithin first before after last
HasFault NoRoot first last = ⊥

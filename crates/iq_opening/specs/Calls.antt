-- What calls that make steps of the way through a store promise.
use Rattle.std.specs.Prelude.{◌≡◌, ℕ, Bool, List, length, Option, Some, Result, Ok, Err}
use Rattle.iq_outside.specs.Faults.{RoseWithin}
use Rattle.iq_outside.specs.declared.device.Device.{Ghosts}
use Rattle.iq_block_store.specs.Looks.{HasLooked}
use Rattle.iq_block_map.specs.Refs.{WhereTold}
use Rattle.iq_opening.specs.declared.faults.OpenFault.{OpenFault}
use Rattle.iq_opening.specs.declared.faults.OpenFault.TheVariants.{StoreFault, NotAStore, NoMemory}
use Rattle.iq_opening.specs.Steps.{Step}
use Rattle.iq_opening.specs.Walk.{Fault, fault, walked}

-- steps, which depend on the blocks
abbrev pub Way : Type 0
Way = List (List ℕ) → List Step

-- a cause: the count of faults rose meanwhile, or this is the first fault of the blocks, where they are told
abbrev pub IsOpenFault : (List (List ℕ) → Result (List Bool) Fault) → OpenFault → Option (List (List ℕ)) → ℕ → ℕ → Type 0
IsOpenFault outcome (StoreFault before after) told first last = RoseWithin first before after last
IsOpenFault outcome (NotAStore block cause) told first last = WhereTold told (λ all. outcome all ≡ Err (fault block cause))
IsOpenFault outcome NoMemory told first last = Unit {0}

-- some steps were made, none of which is at fault
pub record Goes {D : Type 0} (g : Ghosts D) (steps : Way) (old new : D) (before after : List Bool) : Type 0 where
  pub looked : HasLooked g old new
  pub size : length after ≡ length before
  pub walked : WhereTold (g.blocks old) (λ all. walked all before (steps all) ≡ Ok after)

-- not all of some steps were made
pub record Stops {D : Type 0} (g : Ghosts D) (steps : Way) (old new : D) (before : List Bool) (e : OpenFault) : Type 0 where
  pub looked : HasLooked g old new
  pub cause : IsOpenFault (λ all. walked all before (steps all)) e (g.blocks old) (g.faults old) (g.faults new)

-- what is left of a way gives what the whole gives
pub record Leads {D : Type 0} (g : Ghosts D) (whole left : Way) (old new : D) (before after : List Bool) : Type 0 where
  pub looked : HasLooked g old new
  pub size : length after ≡ length before
  pub same : WhereTold (g.blocks old) (λ all. walked all before (whole all) ≡ walked all after (left all))

-- there is a bit for each block, where they are told
abbrev pub HasBits : Option (List (List ℕ)) → List Bool → Type 0
HasBits told reached = WhereTold told (λ all. length reached ≡ length all)

-- an address may not be reached, for this fault
abbrev pub IsUnreachable : OpenFault → Option Fault → Type 0
IsUnreachable (StoreFault before after) found = ⊥
IsUnreachable (NotAStore block cause) found = found ≡ Some (fault block cause)
IsUnreachable NoMemory found = ⊥

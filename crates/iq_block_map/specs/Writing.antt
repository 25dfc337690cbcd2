-- What calls that write blocks change.
use Rattle.std.specs.Prelude.{◌≡◌, ℕ, ◌≤◌, Bool, false, List, ◌++◌, length, nat_eq, Some, None}
use Rattle.std.specs.List.{list_any}
use Rattle.iq_outside.specs.declared.device.Device.{Ghosts}
use Rattle.iq_outside.specs.Devices.{block_of}
use Rattle.iq_outside.specs.DeviceCalls.{KeepsPast}
use Rattle.iq_block_map.specs.Takers.{taken_of}

-- whether a block is among some
abbrev pub holds : List ℕ → ℕ → Bool
holds blocks b = list_any (nat_eq b) blocks

-- two lists of blocks differ at most in these places
pub record SameBeside (places : List ℕ) (old new : List (List ℕ)) : Type 0 where
  pub size : length new ≡ length old
  pub others : (i : ℕ) → holds places i ≡ false → block_of new i ≡ block_of old i

-- what a stop meanwhile may leave differs in these places from what a stop before could have left
abbrev pub AddsBeside : {D : Type 0} → Ghosts D → List ℕ → D → D → Type 0
AddsBeside g places old new = (t : ℕ) (b : List (List ℕ)) → g.clock old ≤ t → t ≤ g.clock new → g.image new t b
    → (c : List (List ℕ)) × g.image old (g.clock old) c × SameBeside places c b

-- of the blocks that might be taken some were, and no other was written
pub record HasPut {D : Type 0} (g : Ghosts D) (before after : List ℕ) (old new : D) : Type 0 where
  pub left : before ≡ taken_of before after ++ after
  pub content : (all : List (List ℕ)) → g.blocks old ≡ Some all
      → (now : List (List ℕ)) × (g.blocks new ≡ Some now) × SameBeside (taken_of before after) all now
  pub untold : g.blocks old ≡ None → g.blocks new ≡ None
  pub later : g.faults old ≤ g.faults new
  pub past : KeepsPast g old new
  pub since : AddsBeside g (taken_of before after) old new

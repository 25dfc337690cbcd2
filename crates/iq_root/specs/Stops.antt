-- What a stop meanwhile may leave.
use Rattle.std.specs.Prelude.{◌≡◌, ◌≢◌, ℕ, ◌≤◌, List, length}
use Rattle.iq_outside.specs.declared.device.Device.{Ghosts}
use Rattle.iq_outside.specs.Devices.{block_of}
use Rattle.iq_root.specs.Roots.{body_place, gate_place}

-- two lists of blocks differ at most in a slot
pub record SameButSlot (slot : ℕ) (old new : List (List ℕ)) : Type 0 where
  pub size : length new ≡ length old
  pub others : (i : ℕ) → i ≢ body_place slot → i ≢ gate_place slot → block_of new i ≡ block_of old i

-- a stop at any moment from the one device to the other leaves blocks of which P holds
abbrev pub LeavesOnly : {D : Type 0} → Ghosts D → D → D → (List (List ℕ) → Type 0) → Type 0
LeavesOnly g old new P = (t : ℕ) (b : List (List ℕ)) → g.clock old ≤ t → t ≤ g.clock new → g.image new t b → P b

-- what a stop before could have left, but for a slot
abbrev pub LeftButSlot : {D : Type 0} → Ghosts D → ℕ → D → List (List ℕ) → Type 0
LeftButSlot g slot old b = (c : List (List ℕ)) × g.image old (g.clock old) c × SameButSlot slot c b

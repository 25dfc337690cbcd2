-- What contracts see of the devices in memory.
use Rattle.std.specs.Prelude.{ℕ, ◌<◌, ◌≤◌, ◌-◌, ◌^◌, false, List, Some, None}
use Rattle.iq_outside.specs.Calls.{Plan}
use Rattle.iq_outside.specs.Devices.{Seen}
use Rattle.iq_outside.specs.Changes.{Recording, recording_seen}

-- blocks, and a count of faults
pub record Held : Type 0 where
  pub blocks : List (List ℕ)
  pub faults : ℕ

-- both can be told as numbers of their types
pub record IsHeld (count faults : ℕ) : Type 0 where
  pub few : count < 2 ^ 32
  pub fits : faults ≤ 2 ^ 64 - 1

-- a sure device as a device: it tells its blocks, and nothing of stops
abbrev pub held_seen : Held → Seen
held_seen held = record {
  blocks = Some held.blocks;
  faults = held.faults;
  tells = false;
  clock = 0;
  image = λ t b. ⊥;
  whole = λ t i x. ⊥;
}

-- a file as a device, with its count of faults: it tells nothing
abbrev pub untold_seen : ℕ → Seen
untold_seen faults = record {
  blocks = None;
  faults = faults;
  tells = false;
  clock = 0;
  image = λ t b. ⊥;
  whole = λ t i x. ⊥;
}

-- a memory device: its record, and its calls
pub record Taped : Type 0 where
  pub kept : Recording
  pub plan : Plan

-- it tells its blocks, and what a stop may leave
abbrev pub taped_seen : Taped → Seen
taped_seen taped = recording_seen taped.plan.faults taped.kept

-- a fuse device: its record, how many calls it still passes, and how many have failed
pub record Fused : Type 0 where
  pub kept : Recording
  pub passes : ℕ
  pub faults : ℕ

-- it tells its blocks, and what a stop may leave
abbrev pub fused_seen : Fused → Seen
fused_seen fused = recording_seen fused.faults fused.kept

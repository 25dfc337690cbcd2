-- Where each step is possible, in plain facts.
use Rattle.std.specs.Prelude.{◌≡◌, ℕ, ◌+◌, ◌<◌, ◌≤◌, true, false, List, [], length}
use Rattle.iq_world.specs.declared.worlds.World.{World}
use Rattle.iq_world.specs.declared.worlds.WorldStep.{WorldStep}
use Rattle.iq_world.specs.declared.worlds.WorldStep.TheVariants.{Begin, Reserve, Take, Back, Commit, End, Sync, Apply, Send, Lose, TakeReport, Own, Restart, Exclude, Include}
use Rattle.iq_world.specs.World.{times, node_at, latest_of, run_place, is_running, run_of, report_place}
use Rattle.iq_world.specs.Space.{reach_of}
use Rattle.iq_world.specs.Steps.{home}

-- the last number of 32 bits, and of 64
abbrev pub last_u32 : ℕ
last_u32 = 4294967295

abbrev pub last_u64 : ℕ
last_u64 = 18446744073709551615

-- a session has a run
abbrev pub IsRunning : World → ℕ → Type 0
IsRunning w s = run_place w s < length w.runs

-- the world has the node, and that isn't excluded
pub record IsIncluded (w : World) (n : ℕ) : Type 0 where
  pub known : n < length w.nodes
  pub included : (node_at w n).excluded ≡ false

-- it is a node beside the coordinator, and isn't excluded
pub record IsSecondary (w : World) (n : ℕ) : Type 0 where
  pub beside : 0 < n
  pub known : n < length w.nodes
  pub included : (node_at w n).excluded ≡ false

-- a node is free to reserve blocks: it is a secondary without a reservation, and some block is free
pub record CanReserve (w : World) (n : ℕ) : Type 0 where
  pub secondary : IsSecondary w n
  pub empty : (node_at w n).reserved ≡ []
  pub some : 0 < length w.free

-- a session's run may end in a commit that reaches these blocks: none stands twice among them, and each is reached by the latest
-- commit or private to the session
pub record CanCommit (w : World) (s : ℕ) (blocks : List ℕ) : Type 0 where
  pub running : IsRunning w s
  pub room : latest_of w < last_u64
  pub once : (b : ℕ) → times b blocks ≤ 1
  pub from : (b : ℕ) → 0 < times b blocks → 0 < times b (reach_of w.reach (latest_of w)) + times b (run_of w s).private

-- where a step is possible
abbrev pub CanStep : World → WorldStep → Type 0
CanStep w (Begin s n) = (is_running w s ≡ false) × IsIncluded w n
CanStep w (Reserve n) = CanReserve w n
CanStep w (Take s b) = IsRunning w s × (0 < times b (home w (run_of w s).node))
CanStep w (Back s kept) = IsRunning w s × (kept ≤ length (run_of w s).private)
CanStep w (Commit s blocks) = CanCommit w s blocks
CanStep w (End s) = IsRunning w s
CanStep w (Sync n) = IsIncluded w n
CanStep w (Apply n) = IsIncluded w n × ((node_at w n).position < latest_of w)
CanStep w (Send n) = IsSecondary w n × (w.next < last_u32)
CanStep w (Lose k) = report_place w k < length w.bag
CanStep w (TakeReport k) = report_place w k < length w.bag
CanStep w Own = Unit {0}
CanStep w (Restart n) = IsSecondary w n × ((node_at w n).incarnation < last_u32)
CanStep w (Exclude n) = IsSecondary w n × ((node_at w n).incarnation < last_u32)
CanStep w (Include n) = (n < length w.nodes) × ((node_at w n).excluded ≡ true)

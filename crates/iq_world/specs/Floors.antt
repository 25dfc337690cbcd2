-- How far back versions are wanted: floors, the horizon and the live snapshots.
use Rattle.std.specs.Prelude.{◌≡◌, ℕ, ◌<◌, ◌≤◌, Bool, false, not, List, ◌∷◌, ◌++◌, length, map, drop}
use Rattle.std.specs.List.{All, filter}
use Rattle.iq_floors.specs.Floors.{floor, horizon}
use Rattle.iq_world.specs.declared.worlds.World.{World}
use Rattle.iq_world.specs.declared.worlds.WorldNode.{WorldNode}
use Rattle.iq_world.specs.declared.worlds.WorldRun.{WorldRun}
use Rattle.iq_world.specs.World.{node_at, latest_of, runs_on}

-- the snapshots of a node's runs
abbrev pub snapshots_on : ℕ → List WorldRun → List ℕ
snapshots_on n runs = map (λ (r : WorldRun). r.snapshot) (filter (runs_on n) runs)

-- a node's floor: the least of its position and the snapshots of its runs
abbrev pub floor_of : World → ℕ → ℕ
floor_of w n = floor (node_at w n).position (snapshots_on n w.runs)

-- whether a node counts: it isn't excluded
abbrev pub is_counted : WorldNode → Bool
is_counted n = not n.excluded

-- the taken floors of the nodes that count
abbrev pub taken_floors : List WorldNode → List ℕ
taken_floors nodes = map (λ (n : WorldNode). n.taken) (filter is_counted nodes)

-- the horizon: the least of the coordinator's floor and the taken floors of the secondaries that aren't excluded
abbrev pub horizon_of : World → ℕ
horizon_of w = horizon (floor_of w 0) (taken_floors (drop 1 w.nodes))

-- every node that counts is known to be past a commit: the coordinator and its runs by themselves, the others by a report that was
-- taken
pub record IsPast (w : World) (c : ℕ) : Type 0 where
  pub coordinator : c ≤ (node_at w 0).position
  pub runs : All (λ (r : WorldRun). r.node ≡ 0 → c ≤ r.snapshot) w.runs
  pub reports : (n : ℕ) → 0 < n → n < length w.nodes → (node_at w n).excluded ≡ false → c ≤ (node_at w n).taken

-- the live snapshots: the latest commit, the position of every node that isn't excluded, and every run's snapshot
abbrev pub live : World → List ℕ
live w =
    latest_of w ∷ (map (λ (n : WorldNode). n.position) (filter is_counted w.nodes)
    ++ map (λ (r : WorldRun). r.snapshot) w.runs)

-- A sound world: its form, the place of every block, the versions and the floors.
use Rattle.std.specs.Prelude.{◌≡◌, ℕ, ◌+◌, ◌-◌, ◌==◌, ◌<◌, ◌≤◌, true, false, nat_lt, if◌then◌else◌, [], length, map, count_by}
use Rattle.std.specs.List.{All, range_with_len}
use Rattle.iq_world.specs.declared.worlds.World.{World}
use Rattle.iq_world.specs.declared.worlds.WorldRun.{WorldRun}
use Rattle.iq_world.specs.declared.worlds.Report.{Report}
use Rattle.iq_world.specs.declared.worlds.Reach.{Reach}
use Rattle.iq_world.specs.World.{times, node_at, latest_of}
use Rattle.iq_world.specs.Floors.{floor_of}
use Rattle.iq_world.specs.Space.{reach_of, dropped_after, places}

-- a report's node is a secondary of the world, and its number was given
pub record ReportFits (w : World) (p : Report) : Type 0 where
  pub secondary : 0 < p.node
  pub known : p.node < length w.nodes
  pub given : p.number < w.next

-- the parts fit together: node 0 is the coordinator, which has no taken floor and no reservation and is never excluded; the kept
-- commits are those from the base to the latest, once each, ascending; no session has two runs, and no two reports one number
pub record Form (w : World) : Type 0 where
  pub coordinator : 0 < length w.nodes
  pub no_taken : (node_at w 0).taken ≡ 0
  pub no_reserved : (node_at w 0).reserved ≡ []
  pub not_excluded : (node_at w 0).excluded ≡ false
  pub base_made : w.base ≤ latest_of w
  pub commits : map (λ (r : Reach). r.commit) w.reach ≡ range_with_len w.base (latest_of w - w.base + 1)
  pub sessions : (s : ℕ) → count_by (λ (r : WorldRun). r.session == s) w.runs ≤ 1
  pub numbers : (k : ℕ) → count_by (λ (p : Report). p.number == k) w.bag ≤ 1
  pub reports : All (ReportFits w) w.bag

-- every block of the store is at one place, and no other number is at any
abbrev pub HasOnePlace : World → Type 0
HasOnePlace w = (b : ℕ) → places w b ≡ (if nat_lt b w.count then 1 else 0)

-- each block that a kept commit reaches, the latest reaches or it was dropped after that commit
abbrev pub KeepsVersions : World → Type 0
KeepsVersions w =
    (b c : ℕ) → w.base ≤ c → c ≤ latest_of w → 0 < times b (reach_of w.reach c) → 0 < times b (reach_of w.reach (latest_of w)) + times b (dropped_after w.reach c (latest_of w - c))

-- a run is on a node of the world that isn't excluded, and sees no later commit than that node
pub record RunFits (w : World) (r : WorldRun) : Type 0 where
  pub known : r.node < length w.nodes
  pub not_excluded : (node_at w r.node).excluded ≡ false
  pub seen : r.snapshot ≤ (node_at w r.node).position

-- a node is at no later commit than the latest; its floor is at least its taken floor and, unless it is excluded, at least the
-- base; an excluded node has no reservation
pub record NodeFits (w : World) (n : ℕ) : Type 0 where
  pub made : (node_at w n).position ≤ latest_of w
  pub taken : (node_at w n).taken ≤ floor_of w n
  pub base : (node_at w n).excluded ≡ false → w.base ≤ floor_of w n
  pub idle : (node_at w n).excluded ≡ true → (node_at w n).reserved ≡ []

-- every run and every node fits, and no report of a node is above its floor
pub record Floors (w : World) : Type 0 where
  pub runs : All (RunFits w) w.runs
  pub nodes : (n : ℕ) → n < length w.nodes → NodeFits w n
  pub reports : All (λ (p : Report). p.floor ≤ floor_of w p.node) w.bag

-- a sound world
pub record IsSound (w : World) : Type 0 where
  pub form : Form w
  pub places : HasOnePlace w
  pub versions : KeepsVersions w
  pub floors : Floors w

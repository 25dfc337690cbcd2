-- Where each block is: what commits reach, what was dropped, what waits, and the places of a block.
use Rattle.std.specs.Prelude.{ℕ, zero, suc, ◌+◌, ◌-◌, ◌==◌, if◌then◌else◌, List, [], ◌∷◌, ◌++◌}
use Rattle.std.specs.List.{flat_map}
use Rattle.iq_world.specs.declared.worlds.World.{World}
use Rattle.iq_world.specs.declared.worlds.WorldNode.{WorldNode}
use Rattle.iq_world.specs.declared.worlds.WorldRun.{WorldRun}
use Rattle.iq_world.specs.declared.worlds.Reach.{Reach}
use Rattle.iq_world.specs.World.{times, without, latest_of}

-- the blocks that a commit reaches, none where it isn't kept
abbrev pub reach_of : List Reach → ℕ → List ℕ
reach_of [] c = []
reach_of (r ∷ rs) c = if r.commit == c then r.blocks else reach_of rs c

-- the blocks dropped at commit c: those that the commit before it reaches and c doesn't
abbrev pub dropped : List Reach → ℕ → List ℕ
dropped rs c = without (reach_of rs (c - 1)) (reach_of rs c)

-- the blocks dropped at the n commits after c
abbrev pub dropped_after : List Reach → ℕ → ℕ → List ℕ
dropped_after rs c zero = []
dropped_after rs c (suc n) = dropped rs (c + 1) ++ dropped_after rs (c + 1) n

-- the waiting blocks: those dropped at the commits after the base
abbrev pub waiting : World → List ℕ
waiting w = dropped_after w.reach w.base (latest_of w - w.base)

-- the blocks in reservations
abbrev pub all_reserved : World → List ℕ
all_reserved w = flat_map (λ (n : WorldNode). n.reserved) w.nodes

-- the private blocks of running transactions
abbrev pub all_private : World → List ℕ
all_private w = flat_map (λ (r : WorldRun). r.private) w.runs

-- the root blocks
abbrev pub roots : List ℕ
roots = 0 ∷ 1 ∷ 2 ∷ 3 ∷ []

-- how often a block is free: on the free list or in a reservation
abbrev pub times_free : World → ℕ → ℕ
times_free w b = times b w.free + times b (all_reserved w)

-- how often it is free or private
abbrev pub times_loose : World → ℕ → ℕ
times_loose w b = times_free w b + times b (all_private w)

-- how often it is reached by the latest commit or waits
abbrev pub times_bound : World → ℕ → ℕ
times_bound w b = times b (reach_of w.reach (latest_of w)) + times b (waiting w)

-- at how many places a block is
abbrev pub places : World → ℕ → ℕ
places w b = times b roots + times_loose w b + times_bound w b

-- The steps of a world: where each is possible, and what it changes.
use Rattle.std.specs.Prelude.{ℕ, ◌+◌, ◌-◌, ◌==◌, Bool, true, false, ◌&&◌, ◌||◌, not, nat_lt, nat_le, max, if◌then◌else◌, List, [], ◌∷◌, ◌++◌, length, take, drop, slice_set}
use Rattle.std.specs.List.{filter, flat_map, fold, remove, list_all, position_or_len}
use Rattle.iq_world.specs.declared.worlds.World.{World}
use Rattle.iq_world.specs.declared.worlds.WorldNode.{WorldNode}
use Rattle.iq_world.specs.declared.worlds.WorldRun.{WorldRun}
use Rattle.iq_world.specs.declared.worlds.Reach.{Reach}
use Rattle.iq_world.specs.declared.worlds.WorldStep.{WorldStep}
use Rattle.iq_world.specs.declared.worlds.WorldStep.TheVariants.{Begin, Reserve, Take, Back, Commit, End, Sync, Apply, Send, Lose, TakeReport, Own, Restart, Exclude, Include}
use Rattle.iq_world.specs.World.{times, holds, without, put_all, node_at, is_node, is_included, is_secondary, latest_of, run_place, is_running, run_of, report_place, is_sent, report_of, runs_on}
use Rattle.iq_world.specs.Floors.{floor_of, horizon_of}
use Rattle.iq_world.specs.Space.{reach_of, dropped_after}

-- The parts of a change.

-- a node in place of the one at a place
abbrev pub with_node : ℕ → WorldNode → World → World
with_node n node w = record w { nodes = slice_set w.nodes n node }

-- a node at another position
abbrev pub moved : ℕ → ℕ → World → World
moved n c w = with_node n (record (node_at w n) { position = c }) w

-- a node with another reservation
abbrev pub with_reserved : ℕ → List ℕ → World → World
with_reserved n blocks w = with_node n (record (node_at w n) { reserved = blocks }) w

-- more blocks on the free list
abbrev pub freed : List ℕ → World → World
freed blocks w = record w { free = put_all w.free blocks }

-- the blocks at home of a node's transactions: the free list, or the node's reservation
abbrev pub home : World → ℕ → List ℕ
home w n = if n == 0 then w.free else (node_at w n).reserved

-- more blocks at home of a node's transactions
abbrev pub sent_home : ℕ → List ℕ → World → World
sent_home n blocks w =
    let node = node_at w n in
    record w {
      free = if n == 0 then put_all w.free blocks else w.free;
      nodes = if n == 0 then w.nodes else slice_set w.nodes n (record node { reserved = put_all node.reserved blocks });
    }

-- a list without the first of a number
abbrev pub less : List ℕ → ℕ → List ℕ
less xs b = remove xs (position_or_len (λ x. x == b) xs)

-- one block less at home of a node's transactions
abbrev pub left_home : ℕ → ℕ → World → World
left_home n b w =
    let node = node_at w n in
    record w {
      free = if n == 0 then less w.free b else w.free;
      nodes = if n == 0 then w.nodes else slice_set w.nodes n (record node { reserved = less node.reserved b });
    }

-- a session's run with other private blocks
abbrev pub with_private : ℕ → List ℕ → World → World
with_private s blocks w = record w { runs = slice_set w.runs (run_place w s) (record (run_of w s) { private = blocks }) }

-- without a session's run
abbrev pub without_run : ℕ → World → World
without_run s w = record w { runs = remove w.runs (run_place w s) }

-- the blocks in a node's reservation, and its runs' private ones
abbrev pub held_by : World → ℕ → List ℕ
held_by w n = (node_at w n).reserved ++ flat_map (λ (r : WorldRun). r.private) (filter (runs_on n) w.runs)

-- the runs of a node end, and their blocks and the node's reservation are free
abbrev pub cleared : ℕ → World → World
cleared n w = freed (held_by w n) (record w { runs = filter (λ (r : WorldRun). not (runs_on n r)) w.runs })

-- without the commits before one from the base on, the blocks dropped up to it being free
abbrev pub reclaimed_to : ℕ → World → World
reclaimed_to c w =
    freed (dropped_after w.reach w.base (c - w.base))
    (record w { reach = filter (λ (r : Reach). nat_le c r.commit) w.reach; base = c })

-- the same up to the horizon, where that is past the base
abbrev pub reclaimed : World → World
reclaimed w = reclaimed_to (max w.base (horizon_of w)) w

-- a number of 32 bits that can rise
abbrev pub can_rise : ℕ → Bool
can_rise n = nat_lt n 4294967295

-- whether no number stands twice in the list
abbrev pub are_distinct : List ℕ → Bool
are_distinct xs = list_all (λ x. times x xs == 1) xs

-- whether each number of the first list stands in one of the others
abbrev pub are_from : List ℕ → List ℕ → List ℕ → Bool
are_from xs ys zs = list_all (λ x. holds ys x || holds zs x) xs

-- whether a session's run may end in a commit that reaches these blocks
abbrev pub can_commit : World → ℕ → List ℕ → Bool
can_commit w s blocks =
    is_running w s && nat_lt (latest_of w) 18446744073709551615 && are_distinct blocks
    && are_from blocks (reach_of w.reach (latest_of w)) (run_of w s).private

-- whether a node's incarnation may rise: that of a secondary that isn't excluded
abbrev pub can_end : World → ℕ → Bool
can_end w n = is_secondary w n && can_rise (node_at w n).incarnation

-- Whether a step is possible.
unfoldable pub possible : World → WorldStep → Bool
possible w (Begin s n) = not (is_running w s) && is_included w n
possible w (Reserve n) = is_secondary w n && (length (node_at w n).reserved == 0) && not (length w.free == 0)
possible w (Take s b) = is_running w s && holds (home w (run_of w s).node) b
possible w (Back s kept) = is_running w s && nat_le kept (length (run_of w s).private)
possible w (Commit s blocks) = can_commit w s blocks
possible w (End s) = is_running w s
possible w (Sync n) = is_included w n
possible w (Apply n) = is_included w n && nat_lt (node_at w n).position (latest_of w)
possible w (Send n) = is_secondary w n && can_rise w.next
possible w (Lose k) = is_sent w k
possible w (TakeReport k) = is_sent w k
possible w Own = true
possible w (Restart n) = can_end w n
possible w (Exclude n) = can_end w n
possible w (Include n) = is_node w n && (node_at w n).excluded

-- What each step changes, one function a step.

-- a session runs at its node's position, with no private blocks
abbrev pub begun : World → ℕ → ℕ → World
begun w s n = record w { runs = w.runs ++ record { session = s; node = n; snapshot = (node_at w n).position; private = [] } ∷ [] }

-- the least 32 free blocks, or all, are reserved
abbrev pub reserving : World → ℕ → World
reserving w n =
    let free = put_all [] w.free in with_reserved n (take 32 free) (record w { free = drop 32 free })

-- a block from home is the last private block
abbrev pub taking : World → ℕ → ℕ → World
taking w s b = with_private s ((run_of w s).private ++ b ∷ []) (left_home (run_of w s).node b w)

-- the private blocks past the first ones go home
abbrev pub backed : World → ℕ → ℕ → World
backed w s kept =
    sent_home (run_of w s).node (drop kept (run_of w s).private) (with_private s (take kept (run_of w s).private) w)

-- the run ends, and some of its private blocks go home
abbrev pub ended_with : World → ℕ → List ℕ → World
ended_with w s blocks = sent_home (run_of w s).node blocks (without_run s w)

-- a new commit reaches these blocks, and the coordinator and the committing node are at it
abbrev pub committed : World → ℕ → List ℕ → World
committed w s blocks =
    let c = latest_of w + 1 in
    let ended = ended_with w s (without (run_of w s).private blocks) in
    let at = moved 0 c (moved (run_of w s).node c ended) in
    record at { reach = w.reach ++ record { commit = c; blocks = blocks } ∷ [] }

-- the node is at the latest commit
abbrev pub synced : World → ℕ → World
synced w n = moved n (latest_of w) w

-- the node is at the next commit
abbrev pub applied : World → ℕ → World
applied w n = moved n ((node_at w n).position + 1) w

-- a report of the node's floor is in the bag under the next number
abbrev pub report_sent : World → ℕ → World
report_sent w n = record w { bag = w.bag ++ record { number = w.next; node = n; floor = floor_of w n } ∷ []; next = w.next + 1 }

-- the report isn't in the bag
abbrev pub report_lost : World → ℕ → World
report_lost w k = record w { bag = remove w.bag (report_place w k) }

-- a node's taken floor is at least a floor
abbrev pub with_taken : ℕ → ℕ → World → World
with_taken n f w = with_node n (record (node_at w n) { taken = max (node_at w n).taken f }) w

-- the node of the report has its taken floor raised, and what was dropped up to the horizon is free
abbrev pub report_taken : World → ℕ → World
report_taken w k = reclaimed (with_taken (report_of w k).node (report_of w k).floor w)

-- the node is cleared, its incarnation is one more, and it is at the latest commit
abbrev pub node_restarted : World → ℕ → World
node_restarted w n =
    let node = node_at w n in
    with_node n (record node { position = latest_of w; incarnation = node.incarnation + 1; reserved = [] }) (cleared n w)

-- the node is cleared, its incarnation is one more, and it is excluded where it stands
abbrev pub node_excluded : World → ℕ → World
node_excluded w n =
    let node = node_at w n in
    with_node n (record node { incarnation = node.incarnation + 1; excluded = true; reserved = [] }) (cleared n w)

-- the node isn't excluded, and its position and its taken floor are the latest commit
abbrev pub node_included : World → ℕ → World
node_included w n = with_node n (record (node_at w n) { position = latest_of w; taken = latest_of w; excluded = false }) w

-- what a step changes where it is possible
unfoldable pub change : World → WorldStep → World
change w (Begin s n) = begun w s n
change w (Reserve n) = reserving w n
change w (Take s b) = taking w s b
change w (Back s kept) = backed w s kept
change w (Commit s blocks) = committed w s blocks
change w (End s) = ended_with w s (run_of w s).private
change w (Sync n) = synced w n
change w (Apply n) = applied w n
change w (Send n) = report_sent w n
change w (Lose k) = report_lost w k
change w (TakeReport k) = report_taken w k
change w Own = reclaimed w
change w (Restart n) = node_restarted w n
change w (Exclude n) = node_excluded w n
change w (Include n) = node_included w n

-- the world after a step, which changes nothing where it isn't possible
unfoldable pub after : World → WorldStep → World
after w step = if possible w step then change w step else w

-- the world after all steps, one after the other
abbrev pub after_all : World → List WorldStep → World
after_all w steps = fold after w steps

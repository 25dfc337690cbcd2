-- How often a number stands in a list, and a world's nodes, runs and reports by their names.
use Rattle.std.specs.Prelude.{ℕ, ◌==◌, Bool, false, ◌&&◌, not, nat_lt, List, [], length, count_by, slice_index_or}
use Rattle.std.specs.List.{list_any, filter, fold, insert, position_or_len}
use Rattle.iq_world.specs.declared.worlds.World.{World}
use Rattle.iq_world.specs.declared.worlds.WorldNode.{WorldNode}
use Rattle.iq_world.specs.declared.worlds.WorldRun.{WorldRun}
use Rattle.iq_world.specs.declared.worlds.Report.{Report}

-- how often a number stands in a list
abbrev pub times : ℕ → List ℕ → ℕ
times b xs = count_by (λ x. x == b) xs

-- whether it stands there
abbrev pub holds : List ℕ → ℕ → Bool
holds xs b = list_any (λ x. x == b) xs

-- the numbers of one list that another lacks
abbrev pub without : List ℕ → List ℕ → List ℕ
without xs ys = filter (λ x. not (holds ys x)) xs

-- a list with one more number, before the first that is greater
abbrev pub put : List ℕ → ℕ → List ℕ
put xs b = insert xs (position_or_len (λ x. nat_lt b x) xs) b

-- a list with more numbers, each put before the first that is greater
abbrev pub put_all : List ℕ → List ℕ → List ℕ
put_all xs bs = fold put xs bs

-- what stands where a world has no such node
abbrev pub no_node : WorldNode
no_node = record { position = 0; taken = 0; incarnation = 0; excluded = false; reserved = [] }

-- the node at a place
abbrev pub node_at : World → ℕ → WorldNode
node_at w n = slice_index_or w.nodes n no_node

-- whether the world has the node
abbrev pub is_node : World → ℕ → Bool
is_node w n = nat_lt n (length w.nodes)

-- whether it has the node and that isn't excluded
abbrev pub is_included : World → ℕ → Bool
is_included w n = is_node w n && not (node_at w n).excluded

-- whether it is a node beside the coordinator, and isn't excluded
abbrev pub is_secondary : World → ℕ → Bool
is_secondary w n = nat_lt 0 n && is_included w n

-- the latest commit, which is the coordinator's position
abbrev pub latest_of : World → ℕ
latest_of w = (node_at w 0).position

-- whether a run is on a node
abbrev pub runs_on : ℕ → WorldRun → Bool
runs_on n r = r.node == n

-- the place of a session's run, or the number of runs where it doesn't run
abbrev pub run_place : World → ℕ → ℕ
run_place w s = position_or_len (λ (r : WorldRun). r.session == s) w.runs

-- whether a session runs
abbrev pub is_running : World → ℕ → Bool
is_running w s = nat_lt (run_place w s) (length w.runs)

-- what stands where a session doesn't run
abbrev pub no_run : WorldRun
no_run = record { session = 0; node = 0; snapshot = 0; private = [] }

-- a session's run
abbrev pub run_of : World → ℕ → WorldRun
run_of w s = slice_index_or w.runs (run_place w s) no_run

-- the place of a report in the bag, or the number of reports where it isn't there
abbrev pub report_place : World → ℕ → ℕ
report_place w k = position_or_len (λ (p : Report). p.number == k) w.bag

-- whether a report is in the bag
abbrev pub is_sent : World → ℕ → Bool
is_sent w k = nat_lt (report_place w k) (length w.bag)

-- what stands where no such report is in the bag
abbrev pub no_report : Report
no_report = record { number = 0; node = 0; floor = 0 }

-- the report of a number
abbrev pub report_of : World → ℕ → Report
report_of w k = slice_index_or w.bag (report_place w k) no_report

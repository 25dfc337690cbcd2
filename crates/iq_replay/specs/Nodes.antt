-- Nodes of the replayed state: positions, floors, the horizon.
use Rattle.std.specs.Prelude.{ℕ, ◌+◌, Bool, true, false, List, [], ◌∷◌, Option, Some, None, nat_eq, find, if◌then◌else◌}
use Rattle.std.specs.List.{filter_map}
use Rattle.iq_base.specs.Shorts.{Name}
use Rattle.iq_base.specs.declared.nodes.NodeKind.{NodeKind}
use Rattle.iq_base.specs.declared.nodes.NodeKind.TheVariants as node_kinds
use Rattle.iq_floors.specs.Floors.{floor, horizon}
use Rattle.iq_conditions.specs.Servers.{same_name}
use Rattle.iq_replay.specs.State.{State, Session, Standing, idle, lost, running, Node, Report}

abbrev pub is_coordinator : NodeKind → Bool
is_coordinator node_kinds.Coordinator = true
is_coordinator node_kinds.Writer = false
is_coordinator node_kinds.Reader = false

abbrev pub is_reader : NodeKind → Bool
is_reader node_kinds.Coordinator = false
is_reader node_kinds.Writer = false
is_reader node_kinds.Reader = true

abbrev pub node_named : State → Name → Option Node
node_named s name = find (λ (node : Node). same_name node.name name) s.nodes

-- POSITIONS

-- a node's position: the coordinator's is the latest commit
abbrev pub kind_position : NodeKind → ℕ → ℕ → ℕ
kind_position node_kinds.Coordinator latest position = latest
kind_position node_kinds.Writer latest position = position
kind_position node_kinds.Reader latest position = position

abbrev pub node_position : ℕ → Node → ℕ
node_position latest node = kind_position node.kind latest node.position

-- FLOORS

abbrev pub snapshot_of : Standing → Option ℕ
snapshot_of idle = None
snapshot_of lost = None
snapshot_of (running run) = Some run.snapshot

-- the snapshot of a session's running transaction, where it is on this node
abbrev pub snapshot_on : ℕ → Session → Option ℕ
snapshot_on n session = if nat_eq session.node n then snapshot_of session.standing else None

abbrev pub snapshots_on : State → ℕ → List ℕ
snapshots_on s n = filter_map (snapshot_on n) s.sessions

-- the least of a node's position and the snapshots of its running transactions
abbrev pub floor_of : State → ℕ → Node → ℕ
floor_of s n node = floor (node_position s.latest node) (snapshots_on s n)

-- the taken floor of a secondary; the coordinator's is its floor
abbrev pub taken_of : State → ℕ → Node → ℕ
taken_of s n node = if is_coordinator node.kind then floor_of s n node else node.taken

-- THE HORIZON

-- what bounds it: the coordinator's floor, and the taken floors of secondaries that aren't excluded
abbrev pub bounds_from : State → ℕ → List Node → List ℕ
bounds_from s n [] = []
bounds_from s n (node ∷ nodes) = if node.excluded then bounds_from s (n + 1) nodes else taken_of s n node ∷ bounds_from s (n + 1) nodes

-- the least of these, none of which is above the latest commit
abbrev pub horizon_of : State → ℕ
horizon_of s = horizon s.latest (bounds_from s 0 s.nodes)

-- REPORTS

abbrev pub report_of : ℕ → List Report → Option Report
report_of number bag = find (λ (report : Report). nat_eq report.number number) bag

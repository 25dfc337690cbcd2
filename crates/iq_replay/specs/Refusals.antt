-- Why a line is refused: one list of tests in order. Why a step is.
use Rattle.std.specs.Prelude.{ℕ, Bool, true, false, ◌&&◌, List, [], ◌∷◌, ◌++◌, ◌+◌, Option, Some, None, nat_lt, nat_le, nat_eq, length, filter, find, not, is_none, is_some, if◌then◌else◌}
use Rattle.std.specs.List.{slice_get}
use Rattle.std.specs.Option.{option_or}
use Rattle.iq_base.specs.Shorts.{Name}
use Rattle.iq_base.specs.declared.refusals.Refusal.{Refusal}
use Rattle.iq_base.specs.declared.refusals.Refusal.TheVariants as refusals
use Rattle.iq_ast.specs.declared.statements.Statement.{Statement}
use Rattle.iq_ast.specs.declared.statements.Statement.TheVariants as statements
use Rattle.iq_model.specs.declared.scripts.Step.{Step}
use Rattle.iq_model.specs.declared.scripts.Step.TheVariants as steps
use Rattle.iq_conditions.specs.Servers.{same_name}
use Rattle.iq_statements.specs.Checks.{Check, found_if, first_found}
use Rattle.iq_statements.specs.Statements.{statement_checks, room_checks, locks, is_ddl}
use Rattle.iq_replay.specs.State.{State, Session, Standing, idle, lost, running, Run, Save, Node, Written, not_held, has_some, has_name, held_by}
use Rattle.iq_replay.specs.Nodes.{node_named, is_coordinator, is_reader, node_position, report_of}
use Rattle.iq_replay.specs.Commits.{latest_of}

-- TESTS OF THE SESSION AND ITS NODE

-- the session's transaction was ended by a restart or an exclusion of its node; the node's incarnation now
abbrev pub lost_refusal : Option Node → Standing → Option Refusal
lost_refusal None standing = None
lost_refusal (Some node) idle = None
lost_refusal (Some node) lost = Some (refusals.Lost node.incarnation)
lost_refusal (Some node) (running run) = None

-- the refusal of a node, where it is there
abbrev pub at_node : (Node → Option Refusal) → Option Node → Option Refusal
at_node test None = None
at_node test (Some node) = test node

-- a node that is excluded
abbrev pub excluded_refusal : Node → Option Refusal
excluded_refusal node = found_if node.excluded (refusals.Excluded node.name)

-- a write on a reader
abbrev pub reader_refusal : Option Node → Statement → Option Refusal
reader_refusal None statement = None
reader_refusal (Some node) (statements.Write write) = found_if (is_reader node.kind) (refusals.ReadOnly node.name)
reader_refusal (Some node) (statements.Select select) = None
reader_refusal (Some node) statements.Begin = None
reader_refusal (Some node) statements.Commit = None
reader_refusal (Some node) statements.Rollback = None
reader_refusal (Some node) (statements.Savepoint name) = None
reader_refusal (Some node) (statements.BackTo name) = None
reader_refusal (Some node) (statements.Release name) = None
reader_refusal (Some node) statements.Sync = None

-- THE TEST OF THE TRANSACTION

-- the transaction that the session had before its line
abbrev pub before_line : Standing → Option Run
before_line idle = None
before_line lost = None
before_line (running run) = if run.own then None else Some run

abbrev pub most_saves : ℕ
most_saves = 16

abbrev pub save_named : List Save → Name → Option Save
save_named saves name = find (λ (save : Save). same_name save.name name) saves

abbrev pub no_save : Option Run → Name → Option Refusal
no_save None name = Some refusals.NoTransaction
no_save (Some run) name = found_if (is_none (save_named run.saves name)) (refusals.NoSavepoint name)

abbrev pub full_saves : Option Run → Option Refusal
full_saves None = Some refusals.NoTransaction
full_saves (Some run) = found_if (nat_le most_saves (length run.saves)) refusals.TooManySavepoints

-- what a statement asks of the transaction that the session had
abbrev pub transaction_refusal : Option Run → Statement → Option Refusal
transaction_refusal run (statements.Write write) = found_if (is_some run && is_ddl write) refusals.DdlInTransaction
transaction_refusal run (statements.Select select) = None
transaction_refusal run statements.Begin = found_if (is_some run) refusals.InTransaction
transaction_refusal run statements.Commit = found_if (is_none run) refusals.NoTransaction
transaction_refusal run statements.Rollback = found_if (is_none run) refusals.NoTransaction
transaction_refusal run (statements.Savepoint name) = full_saves run
transaction_refusal run (statements.BackTo name) = no_save run name
transaction_refusal run (statements.Release name) = no_save run name
transaction_refusal run statements.Sync = found_if (is_some run) refusals.InTransaction

-- TESTS OF A RUNNING TRANSACTION

-- whether a statement asks that commits can still be made: a write, and a COMMIT of a transaction that holds a name
abbrev pub asks_commits : Statement → Run → Bool
asks_commits (statements.Write write) run = true
asks_commits (statements.Select select) run = false
asks_commits statements.Begin run = false
asks_commits statements.Commit run = has_some run.now.held
asks_commits statements.Rollback run = false
asks_commits (statements.Savepoint name) run = false
asks_commits (statements.BackTo name) run = false
asks_commits (statements.Release name) run = false
asks_commits statements.Sync run = false

abbrev pub halted_refusal : Option ℕ → Bool → Option Refusal
halted_refusal None asks = None
halted_refusal (Some c) asks = found_if asks (refusals.Halted c)

-- the first session from this place on, but the one that asks, whose running transaction holds the name
abbrev pub holder_from : ℕ → List Session → ℕ → Name → Option ℕ
holder_from place [] asks name = None
holder_from place (session ∷ sessions) asks name =
    if nat_eq place asks then holder_from (place + 1) sessions asks name
    else (if has_name (held_by session.standing) name then Some place else holder_from (place + 1) sessions asks name)

abbrev pub locked_by : Name → Option ℕ → Option Refusal
locked_by name None = None
locked_by name (Some holder) = Some (refusals.Locked name holder)

-- a name that another running transaction holds
abbrev pub locked_refusal : List Session → ℕ → Name → Option Refusal
locked_refusal sessions asks name = locked_by name (holder_from 0 sessions asks name)

-- a name whose latest commit is past the snapshot
abbrev pub later_refusal : List Written → ℕ → Name → Option Refusal
later_refusal wrote snapshot name = found_if (nat_lt snapshot (latest_of name wrote)) (refusals.Later name (latest_of name wrote))

-- the names that a statement locks and its transaction doesn't hold
abbrev pub wanted : Statement → Run → List Name
wanted statement run = not_held run.now.held (locks statement)

-- the tests that only a transaction can fail, over the tables as its line began and the names that it has
abbrev pub run_checks : State → ℕ → Standing → Statement → List Check
run_checks s place idle statement = []
run_checks s place lost statement = []
run_checks s place (running run) statement =
    statement_checks statement run.start.seen
    ++ record { order = 7; found = halted_refusal s.halted (asks_commits statement run) }
    ∷ record { order = 8; found = first_found (locked_refusal s.sessions place) (wanted statement run) }
    ∷ record { order = 9; found = first_found (later_refusal s.wrote run.snapshot) (wanted statement run) }
    ∷ room_checks statement run.start.seen

-- ALL TESTS OF A LINE, in the order in which they are made: 2 a lost transaction and an excluded node, 3 the transaction's state, 4 a reader, 5 names,
-- 6 types and values, 7 a halt, 8 a lock of another, 9 a later commit, 10 room
abbrev pub line_checks : State → ℕ → Session → Statement → List Check
line_checks s place session statement =
    record { order = 2; found = lost_refusal (slice_get s.nodes session.node) session.standing }
    ∷ record { order = 2; found = at_node excluded_refusal (slice_get s.nodes session.node) }
    ∷ record { order = 3; found = transaction_refusal (before_line session.standing) statement }
    ∷ record { order = 4; found = reader_refusal (slice_get s.nodes session.node) statement }
    ∷ run_checks s place session.standing statement

-- the tests below an order; those of another order
abbrev pub checks_below : ℕ → List Check → List Check
checks_below order checks = filter (λ (check : Check). nat_lt check.order order) checks

abbrev pub checks_but : ℕ → List Check → List Check
checks_but order checks = filter (λ (check : Check). not (nat_eq check.order order)) checks

-- TESTS OF A STEP

abbrev pub no_node : State → Name → Option Refusal
no_node s name = found_if (is_none (node_named s name)) (refusals.NoNode name)

abbrev pub coordinator_refusal : Node → Option Refusal
coordinator_refusal node = found_if (is_coordinator node.kind) (refusals.IsCoordinator node.name)

-- the position is the log's end
abbrev pub end_refusal : ℕ → Node → Option Refusal
end_refusal latest node = found_if (nat_eq (node_position latest node) latest) (refusals.AtEnd latest)

abbrev pub no_report : State → ℕ → Option Refusal
no_report s number = found_if (is_none (report_of number s.bag)) (refusals.NoReport number)

abbrev pub included_refusal : Node → Option Refusal
included_refusal node = found_if (not node.excluded) (refusals.NotExcluded node.name)

-- the first refusal of a step at a node: it isn't there, or what these tests find, one after the other
abbrev pub node_refusal : State → Name → List (Node → Option Refusal) → Option Refusal
node_refusal s name tests =
    option_or (no_node s name) (first_found (λ (test : Node → Option Refusal). at_node test (node_named s name)) tests)

-- the first refusal of a step
abbrev pub step_refusal : State → Step → Option Refusal
step_refusal s (steps.Apply name) = node_refusal s name (excluded_refusal ∷ end_refusal s.latest ∷ [])
step_refusal s (steps.Report name) = node_refusal s name (excluded_refusal ∷ [])
step_refusal s (steps.Lose number) = no_report s number
step_refusal s (steps.Take number) = no_report s number
step_refusal s (steps.Restart name) = node_refusal s name (coordinator_refusal ∷ excluded_refusal ∷ [])
step_refusal s (steps.Exclude name) = node_refusal s name (coordinator_refusal ∷ excluded_refusal ∷ [])
step_refusal s (steps.Include name) = node_refusal s name (coordinator_refusal ∷ included_refusal ∷ [])
step_refusal s steps.Space = None
step_refusal s steps.Versions = None

-- The table of entries: where each is possible, and what it changes.
use Rattle.std.specs.Prelude.{◌≡◌, ◌<◌, ⊤, ◌+◌, ◌++◌, ◌||◌, true, false, [], ◌∷◌, Some, None, nat_eq, nat_lt, IsSomeAnd}
use Rattle.std.specs.List.{slice_get}
use Rattle.iq_base.specs.declared.refusals.Refusal.TheVariants as refusals
use Rattle.iq_ast.specs.declared.statements.Statement.TheVariants as statements
use Rattle.iq_history.specs.declared.entries.Entry.{Entry}
use Rattle.iq_history.specs.declared.entries.Entry.TheVariants as entries
use Rattle.iq_model.specs.declared.answers.Sent.TheVariants as sent
use Rattle.iq_model.specs.declared.replies.Said.TheVariants as said
use Rattle.iq_model.specs.declared.scripts.Step.TheVariants as steps
use Rattle.iq_replay.specs.State.{State, is_writing, with_session, with_node, moved_to}
use Rattle.iq_replay.specs.Nodes.{is_coordinator, node_position, floor_of, horizon_of, report_of}
use Rattle.iq_replay.specs.Commits.{database_of, with_commit}
use Rattle.iq_replay.specs.Asked.{OfLine, OfStep, OfTurn, OfNode, OfNodeStep, IsSecondary, Counts, IsZeroUnless}
use Rattle.iq_replay.specs.Causes.{CanRefuse, faults_after}
use Rattle.iq_replay.specs.Lines.{CanBegin, CanLock, CanTake, CanCommit, CanHalt, CanEndWithout, CanRun, CanRollBack, CanRefuseStep}
use Rattle.iq_replay.specs.Said.{versions_of}
use Rattle.iq_replay.specs.Changes.{statement_of, begins, locks_more, takes_effect, refused, commits, ends, rolls_back, ends_line, works, saves_as, back_to, release_to, work_of, nodes_at, with_lost, restarted, excluded, included, without_report, with_taken, with_base, step_ends}

-- WHERE AN ENTRY IS POSSIBLE

unfoldable pub IsPossible : State → Entry → Type 0
-- a session without a transaction begins one at its node's position
IsPossible s (entries.Begin place l c) = OfLine s place l (CanBegin s place c)
-- the names of a write that aren't held yet, where nothing up to here refuses it
IsPossible s (entries.Lock place l names) = OfLine s place l (CanLock s place names)
-- a statement on tables whose names are held, and which nothing refuses
IsPossible s (entries.Done place l) = OfLine s place l (CanTake s place)
-- the first cause, or one that a line can meet; a step's own causes, or want of memory
IsPossible s (entries.Refused None l cause) = CanRefuseStep s l cause
IsPossible s (entries.Refused (Some place) l cause) = OfLine s place l (CanRefuse s place cause)
-- a transaction that holds a name, while nothing has halted; the latest commit plus 1
IsPossible s (entries.Commit place l c) = OfLine s place l (CanCommit s c)
-- a transaction that holds no name
IsPossible s (entries.End place l) = OfLine s place l CanEndWithout
-- ROLLBACK, or the script's end
IsPossible s (entries.Rollback place l) = CanRollBack s place l
-- as a commit, while the count of faults rose
IsPossible s (entries.Halt place l c before after) = OfLine s place l (CanHalt s c before after)
-- fewer than 16 savepoints stand; the name stands
IsPossible s (entries.Savepoint place l name) = OfLine s place l (CanRun s place (statements.Savepoint name))
IsPossible s (entries.Back place l name) = OfLine s place l (CanRun s place (statements.BackTo name))
IsPossible s (entries.Release place l name) = OfLine s place l (CanRun s place (statements.Release name))
-- a session without a transaction; the latest commit
IsPossible s (entries.Sync place l c) = OfLine s place l (CanRun s place statements.Sync) × (c ≡ s.latest)
-- the commit behind the position of a node that isn't excluded, where there is one
IsPossible s (entries.Apply n l c) = OfNode s n l steps.Apply (λ node.
    (node.excluded ≡ false) × (c ≡ node_position s.latest node + 1) × (node_position s.latest node < s.latest))
-- a secondary that isn't excluded; the next number, and its floor
IsPossible s (entries.Send n l number floor) = OfNode s n l steps.Report (λ node.
    IsSecondary node × (number ≡ s.next) × (floor ≡ floor_of s n node))
-- a report that is in the bag
IsPossible s (entries.Lose l number) = OfTurn s l (λ step. step ≡ steps.Lose number) × IsSomeAnd (report_of number s.bag) (λ report. ⊤)
-- a report that is in the bag, and the horizon with it
IsPossible s (entries.Take l number horizon freed) = OfTurn s l (λ step. step ≡ steps.Take number)
    × IsSomeAnd (report_of number s.bag) (λ report. horizon ≡ horizon_of (with_taken (Some report) s))
-- the coordinator, and the horizon
IsPossible s (entries.Own n l horizon freed) = OfNode s n l steps.Report (λ node.
    (is_coordinator node.kind ≡ true) × (horizon ≡ horizon_of s))
-- a secondary that isn't excluded, and its incarnation plus 1
IsPossible s (entries.Restart n l incarnation) = OfNodeStep s n l steps.Restart (λ node.
    IsSecondary node × (incarnation ≡ node.incarnation + 1))
-- a secondary that isn't excluded, and its incarnation plus 1; an excluded node, and the latest commit
IsPossible s (entries.Exclude n l incarnation) = OfNodeStep s n l steps.Exclude (λ node.
    IsSecondary node × (incarnation ≡ node.incarnation + 1))
IsPossible s (entries.Include n l c) = OfNodeStep s n l steps.Include (λ node. (node.excluded ≡ true) × (c ≡ s.latest))
-- all blocks; nothing waits at the latest base, and nothing is private where no transaction holds a name
IsPossible s (entries.Space l census) = OfStep s l (λ step. step ≡ steps.Space) × Counts s.blocks census
    × IsZeroUnless (nat_lt s.base s.latest) census.waiting × IsZeroUnless (is_writing s.sessions) census.private
-- always
IsPossible s (entries.Versions l) = OfStep s l (λ step. step ≡ steps.Versions)

-- WHAT AN ENTRY CHANGES

unfoldable pub change : State → Entry → State
-- the session runs, with the tables of its snapshot
change s (entries.Begin place l c) = with_session place (λ session. begins (statement_of session.left) l c (database_of s c) session) s
-- it holds the names
change s (entries.Lock place l names) = with_session place (locks_more names) s
-- the tables are those that the statement leaves
change s (entries.Done place l) = with_session place (λ session. takes_effect (statement_of session.left) l session) s
-- the tables and names are as the line began; an own transaction ends; a lost one is told
change s (entries.Refused None l cause) = step_ends l (said.Refused cause) s
change s (entries.Refused (Some place) l cause) = with_session place (refused l cause) (record s { faults = faults_after cause s.faults })
-- one commit more, the transaction's work; the session's node is there
change s (entries.Commit place l c) = with_session place (commits l c)
    (with_commit (work_of (slice_get s.sessions place)) (record s { nodes = nodes_at (slice_get s.sessions place) c s.nodes }))
-- the transaction ends
change s (entries.End place l) = with_session place (ends l) s
change s (entries.Rollback place l) = with_session place (rolls_back l) (record s { closing = nat_eq l 0 || s.closing })
-- halted at this commit; an own transaction ends, another goes on
change s (entries.Halt place l c before after) =
    with_session place (refused l (refusals.StoreFault before after)) (record s { halted = Some c; faults = after })
-- savepoints; names that are held stay
change s (entries.Savepoint place l name) = with_session place (λ session. ends_line l (said.Saved name) (works (saves_as name) session)) s
change s (entries.Back place l name) = with_session place (λ session. ends_line l (said.BackTo name) (works (back_to name) session)) s
change s (entries.Release place l name) = with_session place (λ session. ends_line l (said.Released name) (works (release_to name) session)) s
-- the session's node, this node, is at the commit
change s (entries.Sync place l c) = with_session place (ends_line l (said.Synced c))
    (record s { nodes = nodes_at (slice_get s.sessions place) c s.nodes })
change s (entries.Apply n l c) = step_ends l (said.Applied c) (with_node n (moved_to c) s)
-- the report is in the bag; it isn't
change s (entries.Send n l number floor) = step_ends l (said.Sent (sent.Bagged number floor))
    (record s { bag = s.bag ++ record { number = number; node = n; floor = floor } ∷ []; next = number + 1 })
change s (entries.Lose l number) = step_ends l (said.Lost number) (record s { bag = without_report number s.bag })
-- the taken floor of its node is at least its floor; the base is at least the horizon
change s (entries.Take l number horizon freed) = step_ends l (said.Taken (record { horizon = horizon; freed = freed }))
    (with_base horizon (with_taken (report_of number s.bag) s))
change s (entries.Own n l horizon freed) = step_ends l (said.Sent (sent.Own horizon freed)) (with_base horizon s)
-- its running transactions are lost; its incarnation; its position is the latest
change s (entries.Restart n l incarnation) = step_ends l (said.Restarted incarnation) (with_lost n (with_node n (restarted s.latest incarnation) s))
-- the same, but its position stands still and it is excluded; it isn't, and its position and taken floor are the commit
change s (entries.Exclude n l incarnation) = step_ends l (said.Excluded incarnation) (with_lost n (with_node n (excluded incarnation) s))
change s (entries.Include n l c) = step_ends l (said.Included c) (with_node n (included c) s)
-- nothing but the answer
change s (entries.Space l census) = step_ends l (said.Space census) s
change s (entries.Versions l) = step_ends l (said.Versions (versions_of s)) s

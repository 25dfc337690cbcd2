-- What an entry changes, part by part.
use Rattle.std.specs.Prelude.{ℕ, zero, suc, max, ◌++◌, Bool, true, false, not, List, [], ◌∷◌, Option, Some, None, nat_eq, drop, filter, map, if◌then◌else◌, unwrap_or}
use Rattle.iq_base.specs.Shorts.{Name}
use Rattle.iq_base.specs.declared.refusals.Refusal.{Refusal}
use Rattle.iq_ast.specs.declared.statements.Statement.{Statement}
use Rattle.iq_ast.specs.declared.statements.Statement.TheVariants as statements
use Rattle.iq_model.specs.declared.replies.Reply.{Reply}
use Rattle.iq_model.specs.declared.replies.Said.{Said}
use Rattle.iq_model.specs.declared.replies.Said.TheVariants as said
use Rattle.iq_model.specs.declared.scripts.Deed.{Deed}
use Rattle.iq_model.specs.declared.scripts.Deed.TheVariants as deeds
use Rattle.iq_model.specs.declared.scripts.Line.{Line}
use Rattle.iq_conditions.specs.Servers.{same_name}
use Rattle.iq_statements.specs.Tables.{Database}
use Rattle.iq_statements.specs.Statements.{tables_after, creates}
use Rattle.iq_replay.specs.State.{State, Session, fresh, begun, locked, done, Standing, idle, lost, running, Run, Work, Save, Node, Report, moved_to, changed_at}
use Rattle.iq_replay.specs.Causes.{tells_lost}
use Rattle.iq_replay.specs.Said.{statement_said, commit_said}

-- THE LINE UNDER WAY

abbrev pub deed_statement : Deed → Option Statement
deed_statement (deeds.Statement statement) = Some statement
deed_statement (deeds.Step step) = None

abbrev pub statement_of : List Line → Option Statement
statement_of [] = None
statement_of (line ∷ lines) = deed_statement line.deed

-- the session goes on with its next line; this one is answered
abbrev pub ends_line : ℕ → Said → Session → Session
ends_line l what session =
    record session { stage = fresh; said = None; left = drop 1 session.left; replies = session.replies ++ record { line = l; said = what } ∷ [] }

abbrev pub ends_run : Session → Session
ends_run session = record session { standing = idle }

-- a running transaction changed
abbrev pub on_run : (Run → Run) → Standing → Standing
on_run f idle = idle
on_run f lost = lost
on_run f (running run) = running (f run)

abbrev pub works : (Run → Run) → Session → Session
works f session = record session { standing = on_run f session.standing }

-- BEGIN

abbrev pub begin_work : Database → Work
begin_work db = record { seen = db; held = []; created = [] }

abbrev pub begin_run : Bool → ℕ → Database → Run
begin_run own c db = record { own = own; snapshot = c; start = begin_work db; now = begin_work db; saves = [] }

-- a line on tables goes on in a transaction of its own
abbrev pub begins_own : ℕ → Database → Session → Session
begins_own c db session = record session { standing = running (begin_run true c db); stage = begun }

-- BEGIN TRANSACTION is one entry, and the transaction is the session's
abbrev pub begins : Option Statement → ℕ → ℕ → Database → Session → Session
begins None l c db session = session
begins (Some statements.Begin) l c db session = ends_line l (said.Begun c) (record session { standing = running (begin_run false c db) })
begins (Some (statements.Write write)) l c db session = begins_own c db session
begins (Some (statements.Select select)) l c db session = begins_own c db session
begins (Some statements.Commit) l c db session = session
begins (Some statements.Rollback) l c db session = session
begins (Some (statements.Savepoint name)) l c db session = session
begins (Some (statements.BackTo name)) l c db session = session
begins (Some (statements.Release name)) l c db session = session
begins (Some statements.Sync) l c db session = session

-- LOCKS AND EFFECTS

abbrev pub holds_more : List Name → Run → Run
holds_more names run = record run { now = record (run.now) { held = run.now.held ++ names } }

abbrev pub locks_more : List Name → Session → Session
locks_more names session = record session { standing = on_run (holds_more names) session.standing; stage = locked }

abbrev pub work_after : Statement → Work → Work
work_after statement work = record work { seen = tables_after statement work.seen; created = work.created ++ creates statement }

-- in a transaction of its own the line waits for its commit, and keeps what it said
abbrev pub took_own : Statement → Run → Session → Session
took_own statement run session =
    record session {
      standing = running (record run { now = work_after statement run.now });
      stage = done;
      said = statement_said statement run.now.seen;
    }

-- in the session's transaction the line ends, and its work is what the next line begins with
abbrev pub took_for_all : Statement → ℕ → Run → Session → Session
took_for_all statement l run session =
    ends_line l (unwrap_or (statement_said statement run.now.seen) said.Ended)
    (record session { standing = running (record run { start = work_after statement run.now; now = work_after statement run.now }) })

abbrev pub took_effect : Statement → ℕ → Standing → Session → Session
took_effect statement l idle session = session
took_effect statement l lost session = session
took_effect statement l (running run) session = if run.own then took_own statement run session else took_for_all statement l run session

abbrev pub takes_effect : Option Statement → ℕ → Session → Session
takes_effect None l session = session
takes_effect (Some statement) l session = took_effect statement l session.standing session

-- REFUSALS

-- The transaction after a refused line: none where it was the line's own, else as the line began. One that was lost is forgotten
-- once the session is told.
abbrev pub after_refusal : Refusal → Standing → Standing
after_refusal cause idle = idle
after_refusal cause lost = if tells_lost cause then idle else lost
after_refusal cause (running run) = if run.own then idle else running (record run { now = run.start })

abbrev pub refused : ℕ → Refusal → Session → Session
refused l cause session = ends_line l (said.Refused cause) (record session { standing = after_refusal cause session.standing })

-- ENDS OF A TRANSACTION

abbrev pub commits : ℕ → ℕ → Session → Session
commits l c session = ends_line l (commit_said c session.said) (ends_run session)

abbrev pub ends : ℕ → Session → Session
ends l session = ends_line l (unwrap_or session.said said.Ended) (ends_run session)

-- at the script's end nothing is answered
abbrev pub rolls_back : ℕ → Session → Session
rolls_back zero session = ends_run session
rolls_back (suc l) session = ends_line (suc l) said.RolledBack (ends_run session)

-- the work of a session's transaction, which is the new commit's
abbrev pub no_work : Work
no_work = begin_work []

abbrev pub work_in : Standing → Work
work_in idle = no_work
work_in lost = no_work
work_in (running run) = run.now

abbrev pub work_of : Option Session → Work
work_of None = no_work
work_of (Some session) = work_in session.standing

-- the session's node moves to a commit
abbrev pub nodes_at : Option Session → ℕ → List Node → List Node
nodes_at None c nodes = nodes
nodes_at (Some session) c nodes = changed_at session.node (moved_to c) nodes

-- SAVEPOINTS

abbrev pub saves_as : Name → Run → Run
saves_as name run = record run { saves = record { name = name; seen = run.now.seen } ∷ run.saves }

-- the savepoints from the newest of a name on
abbrev pub saves_from : Name → List Save → List Save
saves_from name [] = []
saves_from name (save ∷ saves) = if same_name save.name name then save ∷ saves else saves_from name saves

abbrev pub seen_at : List Save → Database → Database
seen_at [] db = db
seen_at (save ∷ saves) db = save.seen

abbrev pub sees : Database → Work → Work
sees db work = record work { seen = db }

-- the tables are as they were at the savepoint, which stays; names that are held stay
abbrev pub back_to : Name → Run → Run
back_to name run = record run {
  saves = saves_from name run.saves;
  start = sees (seen_at (saves_from name run.saves) run.now.seen) run.now;
  now = sees (seen_at (saves_from name run.saves) run.now.seen) run.now;
}

-- the savepoint goes, and those behind it
abbrev pub release_to : Name → Run → Run
release_to name run = record run { saves = drop 1 (saves_from name run.saves) }

-- NODES

abbrev pub loses_run : Standing → Standing
loses_run idle = idle
loses_run lost = lost
loses_run (running run) = lost

-- the running transactions of a node are lost
abbrev pub loses : ℕ → Session → Session
loses n session = record session { standing = if nat_eq session.node n then loses_run session.standing else session.standing }

abbrev pub with_lost : ℕ → State → State
with_lost n s = record s { sessions = map (loses n) s.sessions }

abbrev pub restarted : ℕ → ℕ → Node → Node
restarted c incarnation node = record node { incarnation = incarnation; position = c }

abbrev pub excluded : ℕ → Node → Node
excluded incarnation node = record node { incarnation = incarnation; excluded = true }

-- an included node stands at a commit, and needs none before it
abbrev pub included : ℕ → Node → Node
included c node = record node { excluded = false; position = c; taken = c }

-- REPORTS

abbrev pub without_report : ℕ → List Report → List Report
without_report number bag = filter (λ (report : Report). not (nat_eq report.number number)) bag

abbrev pub taken_up : ℕ → Node → Node
taken_up floor node = record node { taken = max node.taken floor }

-- the taken floor of a report's node is at least its floor
abbrev pub nodes_taking : Option Report → List Node → List Node
nodes_taking None nodes = nodes
nodes_taking (Some report) nodes = changed_at report.node (taken_up report.floor) nodes

abbrev pub with_taken : Option Report → State → State
with_taken report s = record s { nodes = nodes_taking report s.nodes }

abbrev pub with_base : ℕ → State → State
with_base h s = record s { base = max s.base h }

-- ANSWERS OF STEPS

-- a step is answered; an agent's turn, with number 0, isn't
abbrev pub steps_after : ℕ → List Line → List Line
steps_after zero lines = lines
steps_after (suc l) lines = drop 1 lines

abbrev pub replies_with : ℕ → Said → List Reply → List Reply
replies_with zero what replies = replies
replies_with (suc l) what replies = replies ++ record { line = suc l; said = what } ∷ []

abbrev pub step_ends : ℕ → Said → State → State
step_ends l what s = record s { steps = steps_after l s.steps; replies = replies_with l what s.replies }

-- The shared state as contracts see it: what its history leaves, and for which tables its own stand.
use Rattle.std.specs.Prelude.{◌≡◌, true, false, List, [], ◌∷◌, ◌++◌, Option, None, IsSomeAnd, length}
use Rattle.std.specs.List.{slice_get}
use Rattle.iq_model.specs.declared.replies.Reply.{Reply}
use Rattle.iq_model.specs.declared.replies.Said.{Said}
use Rattle.iq_model.specs.declared.scripts.Line.{Line}
use Rattle.iq_model.specs.declared.scripts.Script.{Script}
use Rattle.iq_statements.specs.Tables.{Database}
use Rattle.iq_replay.specs.State.{State, Session, Standing, idle, lost, running, Run, Stage, fresh, begun, locked, done, has_some, Node}
use Rattle.iq_replay.specs.Start.{start}
use Rattle.iq_replay.specs.Nodes.{is_coordinator}
use Rattle.iq_replay.specs.Changes.{begin_work}
use Rattle.iq_replay.specs.Commits.{committed}
use Rattle.iq_replay.specs.Histories.{replay}
use Rattle.iq_control.specs.Control.{ControlState, Follows}
use Rattle.iq_memory.specs.Holding.{Hold}
use Rattle.iq_plex.specs.declared.plex.Plex.{Plex}

-- WHAT A HISTORY LEAVES

-- Before its first entry a run in memory has no table; its device is sound, and has the blocks of a root alone.
abbrev pub first_of : Script → State
first_of script = start 4 true script []

abbrev pub state_of : ControlState → State
state_of c = replay (first_of c.script) c.entries

-- the one session of the coordinator
abbrev pub session_at : Standing → Stage → Option Said → List Line → List Reply → Session
session_at standing stage said left replies =
    record { node = 0; standing = standing; stage = stage; said = said; left = left; replies = replies }

abbrev pub IsAt : ControlState → Session → Type 0
IsAt c session = (state_of c).sessions ≡ session ∷ []

-- WHAT THE SESSION SEES

-- the tables as a transaction sees them, and without one the latest commit's
abbrev pub seen_by : Database → Standing → Database
seen_by newest idle = newest
seen_by newest lost = newest
seen_by newest (running run) = run.now.seen

-- a statement took effect: without a name nothing changed, and with one a commit's tables are those that are seen
pub record HasWorked (newest : Database) (run : Run) : Type 0 where
  pub unchanged : has_some run.now.held ≡ false → run.now.seen ≡ newest
  pub commits : has_some run.now.held ≡ true → committed run.now newest ≡ run.now.seen

-- the names that it locks are held, and nothing else changed
pub record HasLocked (newest : Database) (run : Run) : Type 0 where
  pub seen : run.now.seen ≡ newest
  pub created : run.now.created ≡ []

-- the work of a line's own transaction on the latest commit's tables, by the line's stage
abbrev pub WorksOn : Database → Stage → Run → Type 0
WorksOn newest fresh run = ⊥
WorksOn newest begun run = run.now ≡ begin_work newest
WorksOn newest locked run = HasLocked newest run
WorksOn newest done run = HasWorked newest run

-- a line's own transaction, which began at the latest commit
pub record IsOwn (s : State) (stage : Stage) (run : Run) : Type 0 where
  pub own : run.own ≡ true
  pub snapshot : run.snapshot ≡ s.latest
  pub start : run.start ≡ begin_work s.newest
  pub works : WorksOn s.newest stage run

-- between lines no transaction runs, and within one its own
abbrev pub IsAlone : State → Stage → Standing → Type 0
IsAlone s stage idle = stage ≡ fresh
IsAlone s stage lost = ⊥
IsAlone s stage (running run) = IsOwn s stage run

-- THE SHARED STATE

-- the session's node is the coordinator
abbrev pub IsHome : Option Node → Type 0
IsHome node = IsSomeAnd node (λ node. is_coordinator node.kind ≡ true)

-- The history is legal, and leaves the control's state; its one session stands so; the tables in memory stand for those that it sees.
pub record Serves (p : Plex) (session : Session) : Type 0 where
  pub follows : Follows (first_of p.control.script) p.control
  pub at : IsAt p.control session
  pub alone : IsAlone (state_of p.control) session.stage session.standing
  pub no_step : (state_of p.control).steps ≡ []
  pub not_halted : p.control.halted ≡ None
  pub still : p.control.closing ≡ false
  pub home : IsHome (slice_get p.control.nodes 0)
  pub counted : length p.control.table.noted ≡ 1
  pub held : Hold p.tables (seen_by (state_of p.control).newest session.standing)

-- it stands between lines: these are left, and those before them were answered so
abbrev pub IsBetween : Plex → List Line → List Reply → Type 0
IsBetween p left replies = Serves p (session_at idle fresh None left replies)

-- it was opened for a script
pub record IsAttached (script : Script) (p : Plex) : Type 0 where
  pub same_script : p.control.script ≡ script
  pub between : IsBetween p script.lines []

-- this line is the next of those that are left
pub record IsNext (p : Plex) (line : Line) : Type 0 where
  pub rest : List Line
  pub replies : List Reply
  pub between : IsBetween p (line ∷ rest) replies

-- The line has ended: the session is about to run those behind it, and this is the last reply.
pub record EndsLine (old : Plex) (reply : Reply) (new : Plex) : Type 0 where
  pub same_script : new.control.script ≡ old.control.script
  pub at : (line : Line) (rest : List Line) (replies : List Reply) → IsBetween old (line ∷ rest) replies → IsBetween new rest (replies ++ reply ∷ [])

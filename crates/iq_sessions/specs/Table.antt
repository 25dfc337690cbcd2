-- The sessions of a run with the names that they hold, as contracts see them, and what their calls leave.
use Rattle.std.specs.Prelude.{◌≡◌, ◌≤◌, ◌<◌, ◌^◌, ⊤, ℕ, ◌+◌, nat_lt, Option, List, [], ◌∷◌, replicate, slice_set, slice_index_or, map, length, filter, if◌then◌else◌}
use Rattle.iq_base.specs.Shorts.{Name}
use Rattle.std.specs.Option.{option_or}
use Rattle.iq_base.specs.declared.refusals.Refusal.{Refusal}
use Rattle.iq_base.specs.declared.refusals.Refusal.TheVariants as refusals
use Rattle.iq_base.specs.declared.nodes.SessionSpec.{SessionSpec}
use Rattle.iq_model.specs.declared.scripts.Line.{Line}
use Rattle.iq_model.specs.declared.scripts.Script.{Script}
use Rattle.iq_locks.specs.Locked.{Written, LockState, latest_of, has_name}
use Rattle.iq_statements.specs.Checks.{found_if, first_found}
use Rattle.iq_replay.specs.State.{Session, Standing, idle, lost, running, Run, changed_at, not_held, held_by}
use Rattle.iq_replay.specs.Refusals.{locked_refusal}
use Rattle.iq_replay.specs.Asked.{IsOpen, IsRunning}
use Rattle.iq_replay.specs.Start.{is_of, sessions_from}
use Rattle.iq_replay.specs.Commits.{written_names}
use Rattle.iq_replay.specs.Changes.{work_in}
use Rattle.iq_sessions.specs.Bare.{At}
use Rattle.iq_sessions.specs.Changes.{ends_both}
use Rattle.iq_sessions.specs.Kept.{KeptSession, sessions_of, fresh_kept, HoldsFit}

-- the sessions without tables and answers; the latest commits of names; and for how many names each session's commit has room
pub record TableState : Type 0 where
  pub sessions : List Session
  pub wrote : List Written
  pub noted : List ℕ

-- WHAT IT IS KEPT AS

abbrev pub noted_of : List KeptSession → List ℕ
noted_of sessions = map (λ (kept : KeptSession). kept.noted) sessions

abbrev pub total_of : List ℕ → ℕ
total_of [] = 0
total_of (n ∷ ns) = n + total_of ns

abbrev pub table_of : List KeptSession → LockState → TableState
table_of sessions locks = record { sessions = sessions_of sessions locks.held; wrote = locks.wrote; noted = noted_of sessions }

abbrev pub AllFit : List KeptSession → List (List Name) → Type 0
AllFit [] [] = ⊤
AllFit [] (names ∷ held) = ⊥
AllFit (kept ∷ sessions) [] = ⊥
AllFit (kept ∷ sessions) (names ∷ held) = HoldsFit kept.transaction names × AllFit sessions held

-- each session fits the names that it holds, and there is room for all names that commits may write
pub record IsTable (sessions : List KeptSession) (locks : LockState) (noted : ℕ) : Type 0 where
  pub fit : AllFit sessions locks.held
  pub total : noted ≡ total_of (noted_of sessions)
  pub room : noted ≤ locks.room
  pub few : length sessions < 2 ^ 32

-- WHERE IT STARTS

-- each session is declared with the number of its lines
abbrev pub AreCounted : ℕ → List Line → List SessionSpec → Type 0
AreCounted place lines [] = ⊤
AreCounted place lines (spec ∷ specs) = (spec.lines ≡ length (filter (is_of place) lines)) × AreCounted (place + 1) lines specs

pub record IsFresh (script : Script) (new : TableState) : Type 0 where
  pub sessions : new.sessions ≡ sessions_from 0 script.lines script.sessions
  pub wrote : new.wrote ≡ []
  pub noted : new.noted ≡ replicate (length script.sessions) 0

-- WHAT ITS CALLS LEAVE

-- one session is changed
abbrev pub with_at : ℕ → (Session → Session) → TableState → TableState
with_at place f table = record table { sessions = changed_at place f table.sessions }

-- one session's transaction is over, and needs no room
abbrev pub with_over : ℕ → (Session → Session) → TableState → TableState
with_over place f table = record table { sessions = changed_at place f table.sessions; noted = slice_set table.noted place 0 }

abbrev pub noted_at : ℕ → List ℕ → ℕ
noted_at place noted = slice_index_or noted place 0

-- how many names a session's commit writes
abbrev pub writes_of : Session → ℕ
writes_of session = length (written_names (work_in session.standing))

-- a commit is the last that wrote these names; the latest commits of others stay
abbrev pub WritesAll : List Name → ℕ → List Written → List Written → Type 0
WritesAll names c old new = (n : Name) → latest_of n new ≡ (if has_name names n then c else latest_of n old)

-- WHAT THEY ASK

-- a session without a transaction, with a line
pub record AsksBegin (session : Session) : Type 0 where
  pub none : session.standing ≡ idle
  pub line : 0 < length session.left

-- a session with a line
abbrev pub HasLine : Session → Type 0
HasLine session = 0 < length session.left

-- a session with a line before its effect
pub record AsksOpen (session : Session) : Type 0 where
  pub open_still : IsOpen session.stage
  pub line : 0 < length session.left

-- fewer savepoints stand than can
abbrev pub HasSaveRoom : Standing → Type 0
HasSaveRoom idle = ⊤
HasSaveRoom lost = ⊤
HasSaveRoom (running run) = length run.saves < 16

pub record AsksSave (session : Session) : Type 0 where
  pub open_still : IsOpen session.stage
  pub line : 0 < length session.left
  pub few : HasSaveRoom session.standing

-- a transaction runs with this snapshot, and holds few enough names to take these too
pub record CanHoldMore (names : List Name) (snapshot : ℕ) (run : Run) : Type 0 where
  pub snapshot_is : run.snapshot ≡ snapshot
  pub few : length run.now.held + length (not_held run.now.held names) ≤ 64

pub record AsksLock (names : List Name) (snapshot : ℕ) (session : Session) : Type 0 where
  pub open_still : IsOpen session.stage
  pub runs : IsRunning session.standing (CanHoldMore names snapshot)

-- a session with a line, whose commit has room for the names that it writes
pub record AsksCommit (noted : ℕ) (session : Session) : Type 0 where
  pub line : 0 < length session.left
  pub room : writes_of session ≤ noted

-- WHAT REFUSES NAMES

-- a name whose latest commit is past the snapshot
abbrev pub later_refusal : List Written → ℕ → Name → Option Refusal
later_refusal wrote snapshot name = found_if (nat_lt snapshot (latest_of name wrote)) (refusals.Later name (latest_of name wrote))

-- the first of the names that another session holds, and only where there is none the first that was written past the snapshot
abbrev pub names_refusal : List Session → List Written → ℕ → ℕ → List Name → Option Refusal
names_refusal sessions wrote place snapshot names =
    option_or (first_found (locked_refusal sessions place) names) (first_found (later_refusal wrote snapshot) names)

-- the names that a session doesn't hold
abbrev pub wanted_of : List Name → Session → List Name
wanted_of names session = not_held (held_by session.standing) names

-- what refuses the names that a session doesn't hold
abbrev pub wanted_refusal : List Name → ℕ → ℕ → TableState → Session → Option Refusal
wanted_refusal names place snapshot table session = names_refusal table.sessions table.wrote place snapshot (wanted_of names session)

-- COMMITS

-- there is room for so many names of a session's commit
abbrev pub noting : ℕ → ℕ → TableState → TableState
noting place n table = record table { noted = slice_set table.noted place n }

-- A session's transaction ended with a commit: its names were written by it, and are given back.
pub record CommitsAt (place c : ℕ) (old new : TableState) : Type 0 where
  pub sessions : new.sessions ≡ changed_at place ends_both old.sessions
  pub noted : new.noted ≡ slice_set old.noted place 0
  pub wrote : At place old.sessions (λ session. WritesAll (written_names (work_in session.standing)) c old.wrote new.wrote)

-- WHERE THEY START, AS THEY ARE KEPT

abbrev pub fresh_kepts : Script → ℕ → List SessionSpec → List KeptSession
fresh_kepts script place [] = []
fresh_kepts script place (spec ∷ specs) = fresh_kept script place spec ∷ fresh_kepts script (place + 1) specs

-- How sessions are kept: beside each stand the names that it holds, in the table of locks.
use Rattle.std.specs.Prelude.{◌≡◌, ◌≤◌, ◌<◌, ⊤, ℕ, Bool, true, false, List, [], ◌∷◌, Option, None, map, length, take, drop, filter}
use Rattle.iq_base.specs.Shorts.{Name}
use Rattle.iq_base.specs.Locks.{table_locks}
use Rattle.iq_base.specs.declared.nodes.SessionSpec.{SessionSpec}
use Rattle.iq_base.specs.declared.refusals.Refusal.{Refusal}
use Rattle.iq_model.specs.declared.scripts.Line.{Line}
use Rattle.iq_model.specs.declared.scripts.Script.{Script}
use Rattle.iq_replay.specs.State.{Session, Stage, fresh, begun, locked, done, Standing, idle, lost, running, Run, Work, Save, held_by}
use Rattle.iq_replay.specs.Start.{is_of}
use Rattle.iq_replay.specs.Changes.{after_refusal}
use Rattle.iq_sessions.specs.declared.session.LineStage.{LineStage}
use Rattle.iq_sessions.specs.declared.session.LineStage.TheVariants as stages
use Rattle.iq_sessions.specs.declared.session.Transaction.{Transaction}
use Rattle.iq_sessions.specs.declared.session.TransactionState.{TransactionState}
use Rattle.iq_sessions.specs.declared.session.TransactionState.TheVariants as transactions

-- a session as it is kept, but for the names that it holds; and for how many names room is made that its commit may write
pub record KeptSession : Type 0 where
  pub node : ℕ
  pub transaction : TransactionState
  pub stage : LineStage
  pub left : List Line
  pub noted : ℕ

-- THE SESSION THAT IT IS

abbrev pub stage_of : LineStage → Stage
stage_of stages.Fresh = fresh
stage_of stages.Begun = begun
stage_of stages.Locked = locked
stage_of stages.Done = done

abbrev pub save_of : Name → Save
save_of name = record { name = name; seen = [] }

-- the work as the line began: the names that were held then are the first so many
abbrev pub start_of : ℕ → List Name → Work
start_of kept names = record { seen = []; held = take kept names; created = [] }

abbrev pub now_of : Option Name → List Name → Work
now_of created names = record { seen = []; held = names; created = table_locks created }

abbrev pub run_of : Transaction → List Name → Run
run_of t names =
    record { own = t.own; snapshot = t.snapshot; start = start_of t.kept names; now = now_of t.created names; saves = map save_of t.saves }

abbrev pub standing_of : TransactionState → List Name → Standing
standing_of transactions.Idle names = idle
standing_of transactions.Lost names = lost
standing_of (transactions.Running t) names = running (run_of t names)

abbrev pub session_of : KeptSession → List Name → Session
session_of kept names =
    record { node = kept.node; standing = standing_of kept.transaction names; stage = stage_of kept.stage; said = None; left = kept.left; replies = [] }

-- the sessions at all places, with the names that they hold
abbrev pub sessions_of : List KeptSession → List (List Name) → List Session
sessions_of [] held = []
sessions_of (kept ∷ more) [] = session_of kept [] ∷ sessions_of more []
sessions_of (kept ∷ more) (names ∷ held) = session_of kept names ∷ sessions_of more held

-- the lines of the session at a place, behind those that have ended
abbrev pub left_of : Script → ℕ → ℕ → List Line
left_of script place ended = drop ended (filter (is_of place) script.lines)

-- WHAT FITS

-- a session without a transaction holds no name, and those that it held as its line began it holds still
abbrev pub HoldsFit : TransactionState → List Name → Type 0
HoldsFit transactions.Idle names = names ≡ []
HoldsFit transactions.Lost names = names ≡ []
HoldsFit (transactions.Running t) names = t.kept ≤ length names

-- a line before its effect has created nothing
abbrev pub HasNotCreated : TransactionState → Type 0
HasNotCreated transactions.Idle = ⊤
HasNotCreated transactions.Lost = ⊤
HasNotCreated (transactions.Running t) = t.created ≡ None

abbrev pub IsClear : LineStage → TransactionState → Type 0
IsClear stages.Fresh state = HasNotCreated state
IsClear stages.Begun state = HasNotCreated state
IsClear stages.Locked state = HasNotCreated state
IsClear stages.Done state = ⊤

-- A session with the names that it holds becomes what a function of it says, with other names. For its commit there is room for so
-- many names.
pub record Turns (old : KeptSession) (before : List Name) (f : Session → Session) (new : KeptSession) (after : List Name) (noted : ℕ) : Type 0 where
  pub session : session_of new after ≡ f (session_of old before)
  pub fits : HoldsFit new.transaction after
  pub noted_is : new.noted ≡ noted

-- what a session's fields keep to: it has so many lines, of which so many have ended
pub record IsSession (script : Script) (place lines ended : ℕ) (stage : LineStage) (transaction : TransactionState) : Type 0 where
  pub counted : lines ≡ length (filter (is_of place) script.lines)
  pub ended_within : ended ≤ lines
  pub clear : IsClear stage transaction

-- WHAT ITS CALLS ASK

abbrev pub runs_now : TransactionState → Bool
runs_now transactions.Idle = false
runs_now transactions.Lost = false
runs_now (transactions.Running t) = true

-- fewer savepoints stand than can
abbrev pub HasFewSaves : TransactionState → Type 0
HasFewSaves transactions.Idle = ⊤
HasFewSaves transactions.Lost = ⊤
HasFewSaves (transactions.Running t) = length t.saves < 16

-- the line ends, and the next is under way
abbrev pub ended : KeptSession → KeptSession
ended kept = record kept { stage = stages.Fresh; left = drop 1 kept.left }

-- a session before its first line
abbrev pub fresh_kept : Script → ℕ → SessionSpec → KeptSession
fresh_kept script place spec =
    record { node = spec.node; transaction = transactions.Idle; stage = stages.Fresh; left = left_of script place 0; noted = 0 }

-- its transaction ends
abbrev pub idled : KeptSession → KeptSession
idled kept = record kept { transaction = transactions.Idle }

-- A transaction as its line began, for a cause that is told; so many names stay.
pub record IsUndone (cause : Refusal) (old new : KeptSession) (kept : ℕ) : Type 0 where
  pub standing : (names : List Name) → HoldsFit old.transaction names
      → standing_of new.transaction (take kept names) ≡ after_refusal cause (standing_of old.transaction names)
  pub fits : (names : List Name) → HoldsFit old.transaction names → HoldsFit new.transaction (take kept names)
  pub clear : HasNotCreated new.transaction
  pub node : new.node ≡ old.node
  pub left : new.left ≡ old.left
  pub noted : new.noted ≡ old.noted

-- a session is kept as this, with the names that it holds
pub record IsKeptAs (kept : KeptSession) (session : Session) : Type 0 where
  pub is : session ≡ session_of kept (held_by session.standing)
  pub fits : HoldsFit kept.transaction (held_by session.standing)

-- the table that the line created
abbrev pub created_of : TransactionState → Option Name
created_of transactions.Idle = None
created_of transactions.Lost = None
created_of (transactions.Running t) = t.created

-- Histories: what the entries leave, which are legal, which are whole, and what they answer.
use Rattle.std.specs.Prelude.{◌≡◌, ⊤, ℕ, ◌||◌, Bool, true, false, if◌then◌else◌, List, [], ◌∷◌, Option, Some, None, nat_eq, nat_le, find}
use Rattle.std.specs.List.{slice_get}
use Rattle.iq_history.specs.declared.entries.Entry.{Entry}
use Rattle.iq_history.specs.declared.entries.Entry.TheVariants as entries
use Rattle.iq_model.specs.declared.replies.Reply.{Reply}
use Rattle.iq_model.specs.declared.scripts.Line.{Line}
use Rattle.iq_replay.specs.State.{State, Session, Standing, idle, lost, running}
use Rattle.iq_replay.specs.Entries.{IsPossible, change}

-- the state that the entries leave
unfoldable pub replay : State → List Entry → State
replay s [] = s
replay s (e ∷ es) = replay (change s e) es

-- each entry is possible after those before it
unfoldable pub IsLegal : State → List Entry → Type 0
IsLegal s [] = ⊤
IsLegal s (e ∷ es) = IsPossible s e × IsLegal (change s e) es

-- WHOLE HISTORIES

abbrev pub IsStill : Standing → Type 0
IsStill idle = ⊤
IsStill lost = ⊤
IsStill (running run) = ⊥

-- a session that has no line left and no transaction that runs
pub record HasEnded (session : Session) : Type 0 where
  pub no_line : session.left ≡ []
  pub no_run : IsStill session.standing

abbrev pub AllEnded : List Session → Type 0
AllEnded [] = ⊤
AllEnded (session ∷ sessions) = HasEnded session × AllEnded sessions

-- a legal history of all lines of a script, from a state before its first entry
pub record IsWhole (s : State) (es : List Entry) : Type 0 where
  pub legal : IsLegal s es
  pub sessions : AllEnded (replay s es).sessions
  pub steps : (replay s es).steps ≡ []

-- SCRIPT ORDER

-- the line of an entry, 0 for an agent's and at the script's end
abbrev pub line_of : Entry → ℕ
line_of (entries.Begin place l c) = l
line_of (entries.Lock place l names) = l
line_of (entries.Done place l) = l
line_of (entries.Refused place l cause) = l
line_of (entries.Commit place l c) = l
line_of (entries.End place l) = l
line_of (entries.Rollback place l) = l
line_of (entries.Halt place l c before after) = l
line_of (entries.Savepoint place l name) = l
line_of (entries.Back place l name) = l
line_of (entries.Release place l name) = l
line_of (entries.Sync place l c) = l
line_of (entries.Apply n l c) = l
line_of (entries.Send n l number floor) = l
line_of (entries.Lose l number) = l
line_of (entries.Take l number horizon freed) = l
line_of (entries.Own n l horizon freed) = l
line_of (entries.Restart n l incarnation) = l
line_of (entries.Exclude n l incarnation) = l
line_of (entries.Include n l c) = l
line_of (entries.Space l census) = l
line_of (entries.Versions l) = l

-- whether an entry is a rollback at the script's end
abbrev pub closes : Entry → Bool
closes (entries.Begin place l c) = false
closes (entries.Lock place l names) = false
closes (entries.Done place l) = false
closes (entries.Refused place l cause) = false
closes (entries.Commit place l c) = false
closes (entries.End place l) = false
closes (entries.Rollback place l) = nat_eq l 0
closes (entries.Halt place l c before after) = false
closes (entries.Savepoint place l name) = false
closes (entries.Back place l name) = false
closes (entries.Release place l name) = false
closes (entries.Sync place l c) = false
closes (entries.Apply n l c) = false
closes (entries.Send n l number floor) = false
closes (entries.Lose l number) = false
closes (entries.Take l number horizon freed) = false
closes (entries.Own n l horizon freed) = false
closes (entries.Restart n l incarnation) = false
closes (entries.Exclude n l incarnation) = false
closes (entries.Include n l c) = false
closes (entries.Space l census) = false
closes (entries.Versions l) = false

-- the line below which no entry may fall behind this one
abbrev pub low_after : ℕ → Entry → ℕ
low_after low e = if closes e then low else line_of e

-- the lines never fall from this one on, but for the rollbacks at the script's end
abbrev pub IsInOrder : ℕ → List Entry → Type 0
IsInOrder low [] = ⊤
IsInOrder low (e ∷ es) = ((closes e || nat_le low (line_of e)) ≡ true) × IsInOrder (low_after low e) es

-- REPLIES

abbrev pub reply_in : ℕ → List Reply → Option Reply
reply_in l replies = find (λ (reply : Reply). nat_eq reply.line l) replies

abbrev pub session_replies : Option Session → List Reply
session_replies None = []
session_replies (Some session) = session.replies

-- the replies to a session's lines, or to the steps
abbrev pub replies_of : State → Option ℕ → List Reply
replies_of s None = s.replies
replies_of s (Some place) = session_replies (slice_get s.sessions place)

-- the replies of a state in the order of some lines, where each has one
unfoldable pub replies : State → List Line → List (Option Reply)
replies s [] = []
replies s (line ∷ lines) = reply_in line.number (replies_of s line.session) ∷ replies s lines

-- The line of a session, in the control and in a state with which it agrees.
use Rattle.std.specs.Prelude.{◌≡◌, refl, ℕ, false, List, [], ◌∷◌, Option, Some, None, IsSomeAnd}
use Rattle.std.specs.List.{slice_get}
use Rattle.std.specs.Option.{option_map}
use Rattle.std.proofs.Common.{◌∙◌}
use Rattle.iq_ast.specs.declared.statements.Statement.{Statement}
use Rattle.iq_model.specs.declared.scripts.Line.{Line}
use Rattle.iq_model.specs.declared.scripts.Deed.{Deed}
use Rattle.iq_model.specs.declared.scripts.Deed.TheVariants as deeds
use Rattle.iq_replay.specs.State.{State, Session}
use Rattle.iq_replay.specs.Changes.{statement_of}
use Rattle.iq_replay.specs.Asked.{OfLine, FirstIs, StatementIs}
use Rattle.iq_sessions.specs.Bare.{bare_session, At}
use Rattle.iq_control.specs.Control.{ControlState, Agrees}
use Rattle.iq_control.specs.Asked.{AtLine}
use Rattle.iq_control.proofs.Bare.{get_bare}

-- a session's line in the state, and what holds of it without tables
pub record LineAt (s : State) (place l : ℕ) (P : Session → Statement → Type 0) : Type 0 where
  pub session : Session
  pub line : Line
  pub lines : List Line
  pub statement : Statement
  pub still : s.closing ≡ false
  pub found : slice_get s.sessions place ≡ Some session
  pub left : session.left ≡ line ∷ lines
  pub number : line.number ≡ l
  pub deed : line.deed ≡ deeds.Statement statement
  pub holds : P (bare_session session) statement

pub line_at : (c : ControlState) (s : State) (place l : ℕ) (P : Session → Statement → Type 0) → Agrees c s → AtLine c place l P → LineAt s place l P
line_at c s place l P h at_line = at_session (slice_get s.sessions place) refl (rw (← h.sessions, get_bare place s.sessions) at at_line.1)
  where
    at_deed : (session : Session) → slice_get s.sessions place ≡ Some session → (line : Line) (lines : List Line) → session.left ≡ line ∷ lines → line.number ≡ l
        → (deed : Deed) → line.deed ≡ deed → StatementIs deed (P (bare_session session)) → LineAt s place l P
    at_deed session is line lines left number (deeds.Statement statement) deed p =
        record { session = session; line = line; lines = lines; statement = statement; still = h.closing ∙ at_line.0; found = is; left = left; number = number; deed = deed; holds = p }
    at_deed session is line lines left number (deeds.Step step) deed p = absurd p

    at_left : (session : Session) → slice_get s.sessions place ≡ Some session → (left : List Line) → session.left ≡ left
        → FirstIs left l (λ deed. StatementIs deed (P (bare_session session))) → LineAt s place l P
    at_left session is [] left p = absurd p
    at_left session is (line ∷ lines) left p = at_deed session is line lines left p.0 line.deed refl p.1

    at_session : (o : Option Session) → slice_get s.sessions place ≡ o → IsSomeAnd (option_map bare_session o) (λ session. FirstIs session.left l (λ deed. StatementIs deed (P session))) → LineAt s place l P
    at_session None is p = absurd p
    at_session (Some session) is p = at_left session is session.left refl p

-- what holds of the session at a place holds of the one of the state without tables
pub at_state : (c : ControlState) (s : State) (place : ℕ) (session : Session) (P : Session → Type 0) → Agrees c s → slice_get s.sessions place ≡ Some session → At place c.table.sessions P → P (bare_session session)
at_state c s place session P h found p = rw (← h.sessions, get_bare place s.sessions, found) at p

FirstIs-made : (left : List Line) (line : Line) (lines : List Line) (l : ℕ) (Q : Deed → Type 0) → left ≡ line ∷ lines → line.number ≡ l → Q line.deed → FirstIs left l Q
FirstIs-made left line lines l Q is number q = rw is (number, q)

StatementIs-made : (deed : Deed) (statement : Statement) (Q : Statement → Type 0) → deed ≡ deeds.Statement statement → Q statement → StatementIs deed Q
StatementIs-made deed statement Q is q = rw is q

-- what holds of the state's session and its statement holds of the line
pub of_line : (s : State) (place l : ℕ) (P Q : Session → Statement → Type 0) → (at_line : LineAt s place l P) → Q at_line.session at_line.statement → OfLine s place l Q
of_line s place l P Q at_line q =
    (at_line.still, rw at_line.found (FirstIs-made at_line.session.left at_line.line at_line.lines l _ at_line.left at_line.number (StatementIs-made at_line.line.deed at_line.statement _ at_line.deed q)))

-- the statement of the line under way
pub statement_at : (s : State) (place l : ℕ) (P : Session → Statement → Type 0) → (at_line : LineAt s place l P) → statement_of at_line.session.left ≡ Some at_line.statement
statement_at s place l P at_line = rw (at_line.left, at_line.deed) refl

first_at : (left : List Line) (line : Line) (lines : List Line) (l : ℕ) (R : Deed → Type 0) → left ≡ line ∷ lines → FirstIs left l R → R line.deed
first_at left line lines l R is p = (rw is at p).1

statement_in : (deed : Deed) (statement : Statement) (R : Statement → Type 0) → deed ≡ deeds.Statement statement → StatementIs deed R → R statement
statement_in deed statement R is p = rw is at p

asked_at : (o : Option Session) (session : Session) (R : Session → Type 0) → o ≡ Some session → IsSomeAnd o R → R session
asked_at o session R is p = rw is at p

-- what is asked of the line in the state is asked of its session and its statement
pub of_line_at : (s : State) (place l : ℕ) (P Q : Session → Statement → Type 0) → (at_line : LineAt s place l P) → OfLine s place l Q → Q at_line.session at_line.statement
of_line_at s place l P Q at_line h =
    statement_in at_line.line.deed at_line.statement (Q at_line.session) at_line.deed
    (first_at at_line.session.left at_line.line at_line.lines l (λ deed. StatementIs deed (Q at_line.session)) at_line.left
    (asked_at (slice_get s.sessions place) at_line.session (λ session. FirstIs session.left l (λ deed. StatementIs deed (Q session))) at_line.found h.1))

-- The line that an entry is of.
use Rattle.std.specs.Prelude.{◌≡◌, refl, ℕ, false, List, [], ◌∷◌, Option, Some, None, IsSomeAnd}
use Rattle.std.specs.List.{slice_get}
use Rattle.iq_ast.specs.declared.statements.Statement.{Statement}
use Rattle.iq_model.specs.declared.scripts.Line.{Line}
use Rattle.iq_model.specs.declared.scripts.Deed.{Deed}
use Rattle.iq_model.specs.declared.scripts.Deed.TheVariants as deeds
use Rattle.iq_replay.specs.State.{State, Session}
use Rattle.iq_replay.specs.Asked.{OfLine, FirstIs, StatementIs}

FirstIs-made : (left : List Line) (line : Line) (lines : List Line) (l : ℕ) (Q : Deed → Type 0) → left ≡ line ∷ lines → line.number ≡ l → Q line.deed → FirstIs left l Q
FirstIs-made left line lines l Q is number q = rw is (number, q)

StatementIs-made : (deed : Deed) (statement : Statement) (Q : Statement → Type 0) → deed ≡ deeds.Statement statement → Q statement → StatementIs deed Q
StatementIs-made deed statement Q is q = rw is q

-- where a session's line is known, what is asked of the entry is asked of this session and statement
pub OfLine-made : (s : State) (place l : ℕ) (P : Session → Statement → Type 0) (session : Session) (line : Line) (lines : List Line) (statement : Statement)
    → s.closing ≡ false → slice_get s.sessions place ≡ Some session → session.left ≡ line ∷ lines → line.number ≡ l
    → line.deed ≡ deeds.Statement statement → P session statement → OfLine s place l P
OfLine-made s place l P session line lines statement closing is left number deed h = (closing, rw is (FirstIs-made session.left line lines l _ left number (StatementIs-made line.deed statement _ deed h)))

-- a session's line that an entry is of
pub record LineFound (s : State) (place l : ℕ) (P : Session → Statement → Type 0) : Type 0 where
  pub session : Session
  pub line : Line
  pub lines : List Line
  pub statement : Statement
  pub running_still : s.closing ≡ false
  pub found : slice_get s.sessions place ≡ Some session
  pub left : session.left ≡ line ∷ lines
  pub number : line.number ≡ l
  pub deed : line.deed ≡ deeds.Statement statement
  pub holds : P session statement

pub OfLine-found : (s : State) (place l : ℕ) (P : Session → Statement → Type 0) → OfLine s place l P → LineFound s place l P
OfLine-found s place l P h = at_session (slice_get s.sessions place) refl h.1
  where
    at_deed : (session : Session) → slice_get s.sessions place ≡ Some session → (line : Line) (lines : List Line) → session.left ≡ line ∷ lines → line.number ≡ l
        → (deed : Deed) → line.deed ≡ deed → StatementIs deed (P session) → LineFound s place l P
    at_deed session is line lines left number (deeds.Statement statement) deed p =
        record { session = session; line = line; lines = lines; statement = statement; running_still = h.0; found = is; left = left; number = number; deed = deed; holds = p }
    at_deed session is line lines left number (deeds.Step step) deed p = absurd p

    at_left : (session : Session) → slice_get s.sessions place ≡ Some session → (left : List Line) → session.left ≡ left
        → FirstIs left l (λ deed. StatementIs deed (P session)) → LineFound s place l P
    at_left session is [] left p = absurd p
    at_left session is (line ∷ lines) left p = at_deed session is line lines left p.0 line.deed refl p.1

    at_session : (o : Option Session) → slice_get s.sessions place ≡ o → IsSomeAnd o (λ session. FirstIs session.left l (λ deed. StatementIs deed (P session))) → LineFound s place l P
    at_session None is p = absurd p
    at_session (Some session) is p = at_left session is session.left refl p

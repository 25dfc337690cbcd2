-- The one session, in the control and in the state that its history leaves.
use Rattle.std.specs.Prelude.{◌≡◌, ℕ, List, [], ◌∷◌, ◌++◌, Option, map}
use Rattle.std.proofs.Common.{ap, sym, ◌∙◌}
use Rattle.iq_ast.specs.declared.statements.Statement.{Statement}
use Rattle.iq_history.specs.declared.entries.Entry.{Entry}
use Rattle.iq_model.specs.declared.replies.Reply.{Reply}
use Rattle.iq_model.specs.declared.replies.Said.{Said}
use Rattle.iq_model.specs.declared.scripts.Line.{Line}
use Rattle.iq_model.specs.declared.scripts.Deed.{Deed}
use Rattle.iq_model.specs.declared.scripts.Deed.TheVariants as deeds
use Rattle.iq_replay.specs.State.{Session, Standing, Stage}
use Rattle.iq_replay.specs.Asked.{OfLine, FirstIs, StatementIs}
use Rattle.iq_replay.specs.Entries.{change}
use Rattle.iq_replay.proofs.Histories.{replay-push}
use Rattle.iq_sessions.specs.Bare.{bare_session, At}
use Rattle.iq_control.specs.Control.{ControlState}
use Rattle.iq_control.specs.Asked.{AtLine}
use Rattle.iq_plex.specs.declared.plex.Plex.{Plex}
use Rattle.iq_plex.specs.Standing.{first_of, state_of, session_at, IsAt, Serves}
use Rattle.iq_plex.specs.Doing.{IsLineOf}

-- THE CONTROL'S SESSION

pub bare_at : (p : Plex) (session : Session) → Serves p session → p.control.table.sessions ≡ bare_session session ∷ []
bare_at p session h = sym h.follows.agrees.sessions ∙ ap (map bare_session) h.at

statement_made : (deed : Deed) (st : Statement) (Q : Statement → Type 0) → deed ≡ deeds.Statement st → Q st → StatementIs deed Q
statement_made deed st Q is q = rw is q

at_made : (sessions : List Session) (session : Session) (Q : Session → Type 0) → sessions ≡ session ∷ [] → Q session → At 0 sessions Q
at_made sessions session Q is q = rw is q

-- what holds of the one session and its statement holds of the line, in the control, where tables and answers are left out
pub at_line : (p : Plex) (standing : Standing) (stage : Stage) (told : Option Said) (line : Line) (rest : List Line) (replies : List Reply) (l : ℕ) (st : Statement) (P : Session → Statement → Type 0)
    → Serves p (session_at standing stage told (line ∷ rest) replies) → IsLineOf line l st → P (bare_session (session_at standing stage told (line ∷ rest) replies)) st → AtLine p.control 0 l P
at_line p standing stage told line rest replies l st P h is x = (
  h.still,
  at_made p.control.table.sessions (bare_session (session_at standing stage told (line ∷ rest) replies)) (λ session. FirstIs session.left l (λ deed. StatementIs deed (P session)))
      (bare_at p _ h) (is.number, statement_made line.deed st (P (bare_session (session_at standing stage told (line ∷ rest) replies))) is.deed x),
)

-- of a session alone
pub at_one : (p : Plex) (session : Session) (Q : Session → Type 0) → Serves p session → Q (bare_session session) → At 0 p.control.table.sessions Q
at_one p session Q h q = at_made p.control.table.sessions (bare_session session) Q (bare_at p session h) q

pub of_one : (p : Plex) (session : Session) (Q : Session → Type 0) → Serves p session → At 0 p.control.table.sessions Q → Q (bare_session session)
of_one p session Q h q = rw (bare_at p session h) at q

-- and in the state that the history leaves
pub of_line : (p : Plex) (standing : Standing) (stage : Stage) (told : Option Said) (line : Line) (rest : List Line) (replies : List Reply) (l : ℕ) (st : Statement) (P : Session → Statement → Type 0)
    → Serves p (session_at standing stage told (line ∷ rest) replies) → IsLineOf line l st → P (session_at standing stage told (line ∷ rest) replies) st → OfLine (state_of p.control) 0 l P
of_line p standing stage told line rest replies l st P h is x = (
  h.follows.agrees.closing ∙ h.still,
  at_made (state_of p.control).sessions (session_at standing stage told (line ∷ rest) replies) (λ session. FirstIs session.left l (λ deed. StatementIs deed (P session)))
      h.at (is.number, statement_made line.deed st (P (session_at standing stage told (line ∷ rest) replies)) is.deed x),
)

-- ONE SESSION STANDS ONE WAY

pub same_session : (c : ControlState) (a b : Session) → IsAt c a → IsAt c b → a ≡ b
same_session c a b p q = let lists : a ∷ [] ≡ b ∷ [] = sym p ∙ q in cc lists

-- ONE ENTRY MORE

pub state_next : (old new : ControlState) (e : Entry) → new.script ≡ old.script → new.entries ≡ old.entries ++ e ∷ [] → state_of new ≡ change (state_of old) e
state_next old new e script entries = rw (script, entries) (replay-push (first_of old.script) old.entries e)

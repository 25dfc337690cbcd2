-- A line under way in its own transaction, and what each step of it does.
use Rattle.std.specs.Prelude.{◌≡◌, ◌≤◌, ⊤, ℕ, ◌+◌, true, false, List, [], ◌∷◌, ◌++◌, Option, Some, length}
use Rattle.iq_base.specs.declared.refusals.Refusal.{Refusal}
use Rattle.iq_ast.specs.declared.statements.Statement.{Statement}
use Rattle.iq_ast.specs.declared.statements.Write.{Write}
use Rattle.iq_ast.specs.declared.statements.Write.TheVariants as writes
use Rattle.iq_history.specs.Placed.{IsPlacedRefusal}
use Rattle.iq_model.specs.declared.replies.Reply.{Reply}
use Rattle.iq_model.specs.declared.replies.Said.{Said}
use Rattle.iq_model.specs.declared.replies.Said.TheVariants as said
use Rattle.iq_model.specs.declared.scripts.Deed.TheVariants as deeds
use Rattle.iq_model.specs.declared.scripts.Line.{Line}
use Rattle.iq_statements.specs.Statements.{locks, statement_checks}
use Rattle.iq_replay.specs.State.{Standing, running, Run, Stage, has_some}
use Rattle.iq_replay.specs.Asked.{OfLine, IsOpen, IsGranted}
use Rattle.iq_replay.specs.Causes.{CanRefuse}
use Rattle.iq_sessions.specs.Bare.{bare_session}
use Rattle.iq_sessions.specs.Table.{noted_at}
use Rattle.iq_control.specs.Asked.{IsAdmitted}
use Rattle.iq_base.specs.Locks.{catalog_name}
use Rattle.iq_conditions.specs.Servers.{same_name}
use Rattle.iq_write.specs.Simple.{IsSimpleWrite}
use Rattle.iq_plex.specs.declared.plex.Plex.{Plex}
use Rattle.iq_plex.specs.Standing.{state_of, session_at, IsAt, Serves, IsBetween}

-- a line with this number and this statement
pub record IsLineOf (line : Line) (l : ℕ) (st : Statement) : Type 0 where
  pub number : line.number ≡ l
  pub deed : line.deed ≡ deeds.Statement st

-- the next line is this statement's, and nothing of it was done
pub record Waits (p : Plex) (l : ℕ) (st : Statement) : Type 0 where
  pub line : Line
  pub rest : List Line
  pub replies : List Reply
  pub between : IsBetween p (line ∷ rest) replies
  pub is : IsLineOf line l st

-- It is under way in its own transaction, which is such, and has said such, at a stage. Nothing before its own tests refuses it.
pub record Does (p : Plex) (l : ℕ) (st : Statement) (stage : Stage) (P : Run → Option Said → Type 0) : Type 0 where
  pub run : Run
  pub told : Option Said
  pub line : Line
  pub rest : List Line
  pub replies : List Reply
  pub serves : Serves p (session_at (running run) stage told (line ∷ rest) replies)
  pub is : IsLineOf line l st
  pub admitted : IsAdmitted p.control.nodes (bare_session (session_at (running run) stage told (line ∷ rest) replies)) st
  pub holds : P run told

-- WHAT HOLDS AT EACH STAGE

-- it has begun
abbrev pub HasBegun : Run → Option Said → Type 0
HasBegun run told = ⊤

-- no test of names and values refuses it
abbrev pub IsNamed : Statement → Run → Option Said → Type 0
IsNamed st run told = IsGranted (statement_checks st run.start.seen)

-- and the names that it locks are held, for which with one more a commit has room
pub record HasNames (p : Plex) (st : Statement) (run : Run) (told : Option Said) : Type 0 where
  pub named : IsNamed st run told
  pub held : run.now.held ≡ locks st
  pub room : length (locks st) + 1 ≤ noted_at 0 p.control.table.noted

-- it has taken effect, and said so
pub record HasSaid (p : Plex) (what : Said) (run : Run) (told : Option Said) : Type 0 where
  pub said : told ≡ Some what
  pub held : has_some run.now.held ≡ true
  pub room : length (run.now.held ++ run.now.created) ≤ noted_at 0 p.control.table.noted

-- the same of a query, which holds no name
pub record HasAnswered (what : Said) (run : Run) (told : Option Said) : Type 0 where
  pub said : told ≡ Some what
  pub held : run.now.held ≡ []

-- WHAT STEPS DO

-- the session stands somehow within the same line
pub record IsWithin (p : Plex) (left : List Line) (replies : List Reply) : Type 0 where
  pub standing : Standing
  pub stage : Stage
  pub told : Option Said
  pub at : IsAt p.control (session_at standing stage told left replies)

-- the line goes on
pub record GoesOn (old new : Plex) : Type 0 where
  pub same_script : new.control.script ≡ old.control.script
  pub at : (standing : Standing) (stage : Stage) (told : Option Said) (left : List Line) (replies : List Reply) → IsAt old.control (session_at standing stage told left replies) → IsWithin new left replies

-- the line ends with this reply, wherever it is
pub record Ends (old : Plex) (reply : Reply) (new : Plex) : Type 0 where
  pub same_script : new.control.script ≡ old.control.script
  pub at : (standing : Standing) (stage : Stage) (told : Option Said) (line : Line) (rest : List Line) (replies : List Reply)
      → IsAt old.control (session_at standing stage told (line ∷ rest) replies) → IsBetween new rest (replies ++ reply ∷ [])

-- the line under way can be refused for this cause, which names no other session
pub record MayRefuse (p : Plex) (l : ℕ) (cause : Refusal) : Type 0 where
  pub standing : Standing
  pub stage : Stage
  pub told : Option Said
  pub line : Line
  pub rest : List Line
  pub replies : List Reply
  pub st : Statement
  pub serves : Serves p (session_at standing stage told (line ∷ rest) replies)
  pub is : IsLineOf line l st
  pub open_still : IsOpen stage
  pub can : OfLine (state_of p.control) 0 l (CanRefuse (state_of p.control) 0 cause)
  pub placed : IsPlacedRefusal 1 cause

-- WHAT A WRITE IS ANSWERED

-- by how many rows it put in, and under which commit; the other writes aren't run yet
abbrev pub IsToldBy : Write → ℕ → Option ℕ → Said → Type 0
IsToldBy (writes.CreateTable name schema) rows commit what = what ≡ said.Created commit
IsToldBy (writes.DropTable name) rows commit what = what ≡ said.Dropped commit
IsToldBy (writes.CreateIndex name kind table column second) rows commit what = ⊥
IsToldBy (writes.DropIndex table name) rows commit what = ⊥
IsToldBy (writes.Insert table values) rows commit what = what ≡ said.Inserted rows commit
IsToldBy (writes.Load table values text) rows commit what = ⊥
IsToldBy (writes.Delete table cond) rows commit what = ⊥
IsToldBy (writes.Update table changes cond) rows commit what = ⊥

-- WRITES THAT ARE RUN

-- the table that a write names isn't named as the catalog
abbrev pub NamesTable : Write → Type 0
NamesTable (writes.CreateTable name schema) = same_name name catalog_name ≡ false
NamesTable (writes.DropTable name) = same_name name catalog_name ≡ false
NamesTable (writes.CreateIndex name kind table column second) = ⊥
NamesTable (writes.DropIndex table name) = ⊥
NamesTable (writes.Insert table rows) = same_name table catalog_name ≡ false
NamesTable (writes.Load table rows text) = ⊥
NamesTable (writes.Delete table cond) = ⊥
NamesTable (writes.Update table changes cond) = ⊥

pub record CanRun (write : Write) : Type 0 where
  pub simple : IsSimpleWrite write
  pub named : NamesTable write

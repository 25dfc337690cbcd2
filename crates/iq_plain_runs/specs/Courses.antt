-- A run so far, and what may come next in it.
use Rattle.std.specs.Prelude.{◌≡◌, ◌≤◌, ℕ, ⊤, false, List, [], Option, Some, None}
use Rattle.std.specs.List.{AllByRecursion, slice_get}
use Rattle.iq_ast.specs.declared.statements.Statement.{Statement}
use Rattle.iq_history.specs.declared.entries.Entry.{Entry}
use Rattle.iq_model.specs.declared.scripts.Deed.TheVariants as deeds
use Rattle.iq_model.specs.declared.scripts.Step.{Step}
use Rattle.iq_replay.specs.State.{State, Session}
use Rattle.iq_replay.specs.Asked.{FirstIs}
use Rattle.iq_replay.specs.Entries.{IsPossible}
use Rattle.iq_replay.specs.Histories.{replay, IsLegal, IsInOrder, AllEnded, line_of}
use Rattle.iq_replay.specs.Laws.{low_behind}
use Rattle.iq_script_order.specs.Fixed.{IsUndisturbed, IsUndisturbedRun}

-- LINES

-- the line under way of the session at this place: its number is l, and it does this statement
pub record IsLineOf (s : State) (place l : ℕ) (session : Session) (statement : Statement) : Type 0 where
  pub open_still : s.closing ≡ false
  pub found : slice_get s.sessions place ≡ Some session
  pub under_way : FirstIs session.left l (λ deed. deed ≡ deeds.Statement statement)

-- the first step that is left: its number is l, and it is this
pub record IsStepOf (s : State) (l : ℕ) (step : Step) : Type 0 where
  pub open_still : s.closing ≡ false
  pub under_way : FirstIs s.steps l (λ deed. deed ≡ deeds.Step step)

-- an entry of a line that is possible, and that nothing disturbed
pub record IsNextOf (s : State) (l : ℕ) (e : Entry) : Type 0 where
  pub possible : IsPossible s e
  pub undisturbed : IsUndisturbed e
  pub line : line_of e ≡ l

-- such an entry, if one was found
abbrev pub IsFoundOf : State → ℕ → Option Entry → Type 0
IsFoundOf s l None = ⊤
IsFoundOf s l (Some e) = IsNextOf s l e

-- COURSES

-- where a run began, the state that its entries leave, and its entries
pub record Course : Type 0 where
  pub first : State
  pub state : State
  pub entries : List Entry

-- the entries are legal and in script order, none behind this line, nothing disturbed them, and they leave the state
pub record IsCourse (first state : State) (es : List Entry) (low : ℕ) : Type 0 where
  pub legal : IsLegal first es
  pub state_is : state ≡ replay first es
  pub ordered : IsInOrder 1 es
  pub low_is : low_behind 1 es ≤ low
  pub undisturbed : AllByRecursion IsUndisturbed es

-- all sessions and steps have ended
pub record IsOver (s : State) : Type 0 where
  pub sessions : AllEnded s.sessions
  pub steps : s.steps ≡ []

-- a whole run, and the state that it leaves
pub record IsRun (course : Course) : Type 0 where
  pub run : IsUndisturbedRun course.first course.entries
  pub state_is : course.state ≡ replay course.first course.entries

-- Where a line's session and statement allow an entry.
use Rattle.std.specs.Prelude.{◌≡◌, ◌⊎◌, ℕ, ◌+◌, ⊤, Bool, true, false, zero, suc, List, [], ◌∷◌, Option, Some, None, IsSomeAnd, if◌then◌else◌}
use Rattle.std.specs.List.{slice_get}
use Rattle.iq_base.specs.Shorts.{Name}
use Rattle.iq_base.specs.declared.refusals.Refusal.{Refusal}
use Rattle.iq_base.specs.declared.refusals.Refusal.TheVariants as refusals
use Rattle.iq_ast.specs.declared.statements.Statement.{Statement}
use Rattle.iq_ast.specs.declared.statements.Statement.TheVariants as statements
use Rattle.iq_statements.specs.Statements.{IsOnTables, Begins, HasMeaning}
use Rattle.iq_replay.specs.State.{State, Session, Stage, fresh, done, Standing, idle, lost, running, Run, has_some}
use Rattle.iq_replay.specs.Nodes.{node_position}
use Rattle.iq_replay.specs.Refusals.{wanted, line_checks, step_refusal, checks_below, checks_but}
use Rattle.iq_replay.specs.Asked.{OfLine, OfStep, OfTurn, IsRunning, IsOpen, IsUnlocked, HoldsAll, IsGranted, Rises}

-- the session has no transaction, nothing refuses the statement before one begins, and the snapshot is its node's position
pub record CanBegin (s : State) (place c : ℕ) (session : Session) (statement : Statement) : Type 0 where
  pub begins : Begins statement
  pub stage : session.stage ≡ fresh
  pub none : session.standing ≡ idle
  pub granted : IsGranted (line_checks s place session statement)
  pub snapshot : IsSomeAnd (slice_get s.nodes session.node) (λ node. c ≡ node_position s.latest node)

-- the names that a write locks and doesn't hold, one at least, where no test before room refuses it
pub record CanLock (s : State) (place : ℕ) (names : List Name) (session : Session) (statement : Statement) : Type 0 where
  pub stage : IsUnlocked session.stage
  pub names_are : IsRunning session.standing (λ run. names ≡ wanted statement run)
  pub some : has_some names ≡ true
  pub granted : IsGranted (checks_below 10 (line_checks s place session statement))

-- a statement on tables takes effect where its names are held and nothing but a halt refuses it
pub record CanTake (s : State) (place : ℕ) (session : Session) (statement : Statement) : Type 0 where
  pub tables : IsOnTables statement
  pub meaning : HasMeaning statement
  pub stage : IsOpen session.stage
  pub held : IsRunning session.standing (λ run. HoldsAll run statement)
  pub granted : IsGranted (checks_but 7 (line_checks s place session statement))

-- a line that ends its transaction: its own once its statement took effect, the session's by COMMIT
abbrev pub IsEnding : Bool → Stage → Statement → Type 0
IsEnding true stage statement = stage ≡ done
IsEnding false stage statement = statement ≡ statements.Commit

-- the line ends its transaction, which holds a name, or holds none
pub record CanEnd (holds : Bool) (session : Session) (statement : Statement) (run : Run) : Type 0 where
  pub ending : IsEnding run.own session.stage statement
  pub held : has_some run.now.held ≡ holds

pub record CanCommit (s : State) (c : ℕ) (session : Session) (statement : Statement) : Type 0 where
  pub ends : IsRunning session.standing (CanEnd true session statement)
  pub number : c ≡ s.latest + 1
  pub not_halted : s.halted ≡ None

-- such a commit that met a device fault, while the count rose so
pub record CanHalt (s : State) (c before after : ℕ) (session : Session) (statement : Statement) : Type 0 where
  pub commit : CanCommit s c session statement
  pub rises : Rises s.faults before after

-- a transaction without a name ends without a number
abbrev pub CanEndWithout : Session → Statement → Type 0
CanEndWithout session statement = IsRunning session.standing (CanEnd false session statement)

-- a line of one entry: this statement, which no test refuses
pub record CanRun (s : State) (place : ℕ) (this : Statement) (session : Session) (statement : Statement) : Type 0 where
  pub same : statement ≡ this
  pub granted : IsGranted (line_checks s place session statement)

-- THE SCRIPT'S END

abbrev pub runs : Standing → Bool
runs idle = false
runs lost = false
runs (running run) = true

-- the first session from this place on that has a running transaction
abbrev pub first_running : ℕ → List Session → Option ℕ
first_running place [] = None
first_running place (session ∷ sessions) = if runs session.standing then Some place else first_running (place + 1) sessions

-- a rollback of the session's transaction by its line, or at the script's end, where it is the first that still runs
abbrev pub CanRollBack : State → ℕ → ℕ → Type 0
CanRollBack s place zero = first_running 0 s.sessions ≡ Some place
CanRollBack s place (suc l) = OfLine s place (suc l) (CanRun s place statements.Rollback)

-- STEPS

-- a step that is refused for its own reason; a step or an agent's turn that lacks memory
abbrev pub CanRefuseStep : State → ℕ → Refusal → Type 0
CanRefuseStep s l cause =
    OfStep s l (λ step. step_refusal s step ≡ Some cause) ⊎ (OfTurn s l (λ step. ⊤) × (cause ≡ refusals.NoMemory))

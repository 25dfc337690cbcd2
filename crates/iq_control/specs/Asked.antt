-- What is asked of the control and of a session's line before an entry.
use Rattle.std.specs.Prelude.{if◌then◌else◌, ◌≡◌, ◌≤◌, ⊤, ℕ, ◌+◌, length, Bool, true, false, List, [], ◌∷◌, ◌++◌, Option, Some, None, IsSomeAnd}
use Rattle.std.specs.List.{slice_get}
use Rattle.std.specs.Option.{option_or}
use Rattle.iq_base.specs.Shorts.{Name}
use Rattle.iq_base.specs.declared.refusals.Refusal.{Refusal}
use Rattle.iq_base.specs.declared.refusals.Refusal.TheVariants as refusals
use Rattle.iq_ast.specs.declared.statements.Statement.{Statement}
use Rattle.iq_ast.specs.declared.statements.Statement.TheVariants as statements
use Rattle.iq_statements.specs.Checks.{Check, first_refusal}
use Rattle.iq_statements.specs.Statements.{IsOnTables, IsWrite, HasMeaning, Begins, creates, statement_checks, room_checks}
use Rattle.iq_replay.specs.State.{State, Session, idle, Node, fresh, has_some, held_by}
use Rattle.iq_replay.specs.Nodes.{node_position, is_reader}
use Rattle.iq_replay.specs.Refusals.{lost_refusal, at_node, excluded_refusal, transaction_refusal, before_line, reader_refusal, wanted, line_checks, checks_below, checks_but}
use Rattle.iq_replay.specs.Asked.{FirstIs, StatementIs, IsRunning, IsOpen, IsUnlocked, HoldsAll, IsGranted}
use Rattle.iq_replay.specs.Lines.{CanEnd}
use Rattle.iq_sessions.specs.Bare.{At}
use Rattle.iq_sessions.specs.Table.{names_refusal}
use Rattle.iq_control.specs.Control.{ControlState}

-- LINES

-- The script's end hasn't begun to roll back, and the session's next line has this number and a statement, which are such.
abbrev pub AtLine : ControlState → ℕ → ℕ → (Session → Statement → Type 0) → Type 0
AtLine c place l P =
    (c.closing ≡ false) × At place c.table.sessions (λ session. FirstIs session.left l (λ deed. StatementIs deed (P session)))

-- THE TESTS BEFORE A STATEMENT'S OWN

-- a lost transaction, an excluded node, the transaction's state, a reader
abbrev pub early_checks : List Node → Session → Statement → List Check
early_checks nodes session statement =
    record { order = 2; found = lost_refusal (slice_get nodes session.node) session.standing }
    ∷ record { order = 2; found = at_node excluded_refusal (slice_get nodes session.node) }
    ∷ record { order = 3; found = transaction_refusal (before_line session.standing) statement }
    ∷ record { order = 4; found = reader_refusal (slice_get nodes session.node) statement }
    ∷ []

-- they find nothing
abbrev pub IsAdmitted : List Node → Session → Statement → Type 0
IsAdmitted nodes session statement = IsGranted (early_checks nodes session statement)

-- WHAT EACH CALL ASKS OF THE LINE

-- whether a transaction that begins with a statement is the line's own
abbrev pub is_own : Statement → Bool
is_own (statements.Write write) = true
is_own (statements.Select select) = true
is_own statements.Begin = false
is_own statements.Commit = false
is_own statements.Rollback = false
is_own (statements.Savepoint name) = false
is_own (statements.BackTo name) = false
is_own (statements.Release name) = false
is_own statements.Sync = false

-- nothing refuses the statement before a transaction begins, which is the line's own or not
pub record AsksBegin (c : ControlState) (own : Bool) (session : Session) (statement : Statement) : Type 0 where
  pub begins : Begins statement
  pub own_is : own ≡ is_own statement
  pub stage : session.stage ≡ fresh
  pub none : session.standing ≡ idle
  pub admitted : IsAdmitted c.nodes session statement

-- the snapshot that a session's transaction gets
abbrev pub IsSnapshot : ControlState → Session → ℕ → Type 0
IsSnapshot c session commit = IsSomeAnd (slice_get c.nodes session.node) (λ node. commit ≡ node_position c.latest node)

-- the name of a session's node, where it is a reader
abbrev pub IsReaderName : ControlState → Session → Option Name → Type 0
IsReaderName c session name = IsSomeAnd (slice_get c.nodes session.node) (λ node. name ≡ (if is_reader node.kind then Some node.name else None))

-- these are the names that the running transaction of a write's line locks and doesn't hold, one at least
pub record AsksLock (names : List Name) (session : Session) (statement : Statement) : Type 0 where
  pub write : IsWrite statement
  pub stage : IsUnlocked session.stage
  pub names_are : IsRunning session.standing (λ run. names ≡ wanted statement run)
  pub some : has_some names ≡ true

-- a statement on tables in a running transaction that holds its names, before its effect, which creates these
pub record AsksTake (created : List Name) (session : Session) (statement : Statement) : Type 0 where
  pub tables : IsOnTables statement
  pub meaning : HasMeaning statement
  pub stage : IsOpen session.stage
  pub held : IsRunning session.standing (λ run. HoldsAll run statement)
  pub created_are : created ≡ creates statement

-- the line ends its transaction, which holds a name, or none
abbrev pub AsksEnd : Bool → Session → Statement → Type 0
AsksEnd holds session statement = IsRunning session.standing (CanEnd holds session statement)

-- a line of one entry: this statement, which nothing refuses
pub record AsksRun (c : ControlState) (this : Statement) (session : Session) (statement : Statement) : Type 0 where
  pub same : statement ≡ this
  pub admitted : IsAdmitted c.nodes session statement

-- none of these names is held by another session or was written past the snapshot of the running transaction
abbrev pub AreFree : ControlState → ℕ → List Name → Session → Type 0
AreFree c place names session =
    IsRunning session.standing (λ run. names_refusal c.table.sessions c.table.wrote place run.snapshot names ≡ None)

-- the first of the names that the running transaction of a write's line locks and doesn't hold is refused so
pub record AreRefused (c : ControlState) (place : ℕ) (cause : Refusal) (session : Session) (statement : Statement) : Type 0 where
  pub stage : IsOpen session.stage
  pub cause_is : IsRunning session.standing (λ run. names_refusal c.table.sessions c.table.wrote place run.snapshot (wanted statement run) ≡ Some cause)

-- what refuses these names to a session's running transaction: a halt, then the names
abbrev pub halted_found : Option ℕ → Option Refusal
halted_found None = None
halted_found (Some commit) = Some (refusals.Halted commit)

abbrev pub AreNotFree : ControlState → ℕ → List Name → Refusal → Session → Type 0
AreNotFree c place names cause session =
    IsRunning session.standing (λ run. option_or (halted_found c.halted) (names_refusal c.table.sessions c.table.wrote place run.snapshot names) ≡ Some cause)

-- a session can hold so many names more
abbrev pub HasHoldRoom : List Name → Session → Type 0
HasHoldRoom names session = length (held_by session.standing) + length names ≤ 64

-- WHAT REFUSES A LINE

-- before its effect, the first that the tests before a statement's own find
abbrev pub IsNotAdmitted : ControlState → Refusal → Session → Statement → Type 0
IsNotAdmitted c cause session statement = IsOpen session.stage × (first_refusal (early_checks c.nodes session statement) ≡ Some cause)

-- its transaction was ended by a restart or an exclusion of the node, at any place of the line
abbrev pub HasLost : ControlState → ℕ → Session → Statement → Type 0
HasLost c incarnation session statement =
    lost_refusal (slice_get c.nodes session.node) session.standing ≡ Some (refusals.Lost incarnation)

-- a write in a running transaction
abbrev pub IsWriting : Session → Statement → Type 0
IsWriting session statement = IsWrite statement × IsRunning session.standing (λ run. ⊤)

-- COMMIT, before which nothing stands, of a transaction that holds a name
pub record IsHaltedCommit (c : ControlState) (session : Session) (statement : Statement) : Type 0 where
  pub same : statement ≡ statements.Commit
  pub stage : IsOpen session.stage
  pub admitted : IsAdmitted c.nodes session statement
  pub held : IsRunning session.standing (λ run. has_some run.now.held ≡ true)

-- WHAT ONLY TABLES TELL

-- no test of names and values refuses the line in this state
abbrev pub IsNamed : State → ℕ → Session → Statement → Type 0
IsNamed s place session statement = IsGranted (checks_below 7 (line_checks s place session statement))

-- nothing but a halt refuses it
abbrev pub IsUnrefused : State → ℕ → Session → Statement → Type 0
IsUnrefused s place session statement = IsGranted (checks_but 7 (line_checks s place session statement))

-- WHAT THE TABLES TELL OF A LINE

-- the tests of names and values find nothing over the tables as the line began
abbrev pub AreNamed : Session → Statement → Type 0
AreNamed session statement = IsRunning session.standing (λ run. IsGranted (statement_checks statement run.start.seen))

-- the names that it locks are held, and the tests of names, values and room find nothing
abbrev pub AreFit : Session → Statement → Type 0
AreFit session statement =
    IsRunning session.standing (λ run. HoldsAll run statement × IsGranted (statement_checks statement run.start.seen ++ room_checks statement run.start.seen))

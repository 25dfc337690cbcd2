-- The causes of a refused line: the first that its tests find, and those that it can meet beside it.
use Rattle.std.specs.Prelude.{◌≡◌, ◌⊎◌, ℕ, ⊤, Bool, true, false, Some}
use Rattle.std.specs.List.{slice_get}
use Rattle.iq_base.specs.declared.refusals.Refusal.{Refusal}
use Rattle.iq_base.specs.declared.refusals.Refusal.TheVariants as refusals
use Rattle.iq_ast.specs.declared.statements.Statement.{Statement}
use Rattle.iq_ast.specs.declared.statements.Statement.TheVariants as statements
use Rattle.iq_ast.specs.declared.statements.Write.{Write}
use Rattle.iq_ast.specs.declared.statements.Write.TheVariants as writes
use Rattle.iq_statements.specs.Checks.{first_refusal}
use Rattle.iq_statements.specs.Statements.{IsOnTables, IsWrite}
use Rattle.iq_replay.specs.State.{State, Session}
use Rattle.iq_replay.specs.Asked.{IsRunning, IsOpen, HoldsAll, IsGranted, Rises, Counts}
use Rattle.iq_replay.specs.Refusals.{lost_refusal, line_checks, checks_below, checks_but}

-- The cause is the first that the tests find. For a write whose names are held a halt isn't looked at, since it may have come
-- after the lock.
abbrev pub IsFirst : State → ℕ → Session → Statement → Refusal → Type 0
IsFirst s place session statement cause =
    (first_refusal (line_checks s place session statement) ≡ Some cause)
    ⊎ (IsWrite statement × IsRunning session.standing (λ run.
    HoldsAll run statement × (first_refusal (checks_but 7 (line_checks s place session statement)) ≡ Some cause)))

-- a write that takes blocks: all but DROP TABLE
abbrev pub TakesBlocks : Write → Type 0
TakesBlocks (writes.CreateTable name schema) = ⊤
TakesBlocks (writes.DropTable name) = ⊥
TakesBlocks (writes.CreateIndex name kind table column second) = ⊤
TakesBlocks (writes.DropIndex table name) = ⊤
TakesBlocks (writes.Insert table rows) = ⊤
TakesBlocks (writes.Load table rows text) = ⊤
TakesBlocks (writes.Delete table cond) = ⊤
TakesBlocks (writes.Update table changes cond) = ⊤

abbrev pub NeedsBlocks : Statement → Type 0
NeedsBlocks (statements.Write write) = TakesBlocks write
NeedsBlocks (statements.Select select) = ⊥
NeedsBlocks statements.Begin = ⊥
NeedsBlocks statements.Commit = ⊥
NeedsBlocks statements.Rollback = ⊥
NeedsBlocks (statements.Savepoint name) = ⊥
NeedsBlocks (statements.BackTo name) = ⊥
NeedsBlocks (statements.Release name) = ⊥
NeedsBlocks statements.Sync = ⊥

-- a line that reads or writes tables in a running transaction, before its effect
pub record IsWorking (session : Session) (statement : Statement) : Type 0 where
  pub open_still : IsOpen session.stage
  pub tables : IsOnTables statement
  pub runs : IsRunning session.standing (λ run. ⊤)

-- a write that has its names, and that no test of names and values refuses, before its effect
pub record IsTaking (s : State) (place : ℕ) (session : Session) (statement : Statement) : Type 0 where
  pub open_still : IsOpen session.stage
  pub blocks : NeedsBlocks statement
  pub holds : IsRunning session.standing (λ run. HoldsAll run statement)
  pub granted : IsGranted (checks_below 7 (line_checks s place session statement))

-- a write of a running transaction that nothing refuses but the halt: also behind its effect, which is asked of the state before it
pub record IsHalted (s : State) (place : ℕ) (session : Session) (statement : Statement) : Type 0 where
  pub write : IsWrite statement
  pub runs : IsRunning session.standing (λ run. ⊤)
  pub granted : IsGranted (checks_below 7 (line_checks s place session statement))

-- CAUSES THAT A LINE CAN MEET BESIDE THE FIRST, one row each; the others have no row here.
--   Lost: at any place of a line, where the transaction was ended by a restart or an exclusion of the node.
--   Halted: a halt of that commit stands before.
--   NoSpace: no block is free, and the numbers are those of all blocks.
--   StoreFault: the count rose since the last one told.
--   BadPage: the device isn't honest, or the opening image stood for no tables.
--   NoMemory: free, before the effect.
abbrev pub IsMet : State → ℕ → Session → Statement → Refusal → Type 0
IsMet s place session statement (refusals.Lost incarnation) =
    lost_refusal (slice_get s.nodes session.node) session.standing ≡ Some (refusals.Lost incarnation)
IsMet s place session statement (refusals.Halted c) = (s.halted ≡ Some c) × IsHalted s place session statement
IsMet s place session statement (refusals.NoSpace census) =
    IsTaking s place session statement × (census.free ≡ 0) × Counts s.blocks census
IsMet s place session statement (refusals.StoreFault before after) = IsWorking session statement × Rises s.faults before after
IsMet s place session statement (refusals.BadPage object page) = IsWorking session statement × (s.told ≡ false)
IsMet s place session statement refusals.NoMemory = IsOpen session.stage
IsMet s place session statement (refusals.Excluded node) = ⊥
IsMet s place session statement refusals.InTransaction = ⊥
IsMet s place session statement refusals.NoTransaction = ⊥
IsMet s place session statement (refusals.NoSavepoint name) = ⊥
IsMet s place session statement refusals.TooManySavepoints = ⊥
IsMet s place session statement refusals.DdlInTransaction = ⊥
IsMet s place session statement (refusals.ReadOnly node) = ⊥
IsMet s place session statement (refusals.NoTable name) = ⊥
IsMet s place session statement (refusals.TableExists name) = ⊥
IsMet s place session statement (refusals.NoColumn name) = ⊥
IsMet s place session statement (refusals.NoIndex name) = ⊥
IsMet s place session statement (refusals.IndexExists name) = ⊥
IsMet s place session statement refusals.CatalogFull = ⊥
IsMet s place session statement (refusals.TypeMismatch column) = ⊥
IsMet s place session statement (refusals.NotGrouped column) = ⊥
IsMet s place session statement (refusals.NullRefused column) = ⊥
IsMet s place session statement (refusals.TextTooLong column) = ⊥
IsMet s place session statement (refusals.BadRow row field cause) = ⊥
IsMet s place session statement (refusals.Locked table holder) = ⊥
IsMet s place session statement (refusals.Later table c) = ⊥
IsMet s place session statement (refusals.TableFull limit) = ⊥
IsMet s place session statement (refusals.IndexUnfit column) = ⊥
IsMet s place session statement (refusals.TooManyDistinct index distinct) = ⊥
IsMet s place session statement (refusals.NoNode name) = ⊥
IsMet s place session statement (refusals.IsCoordinator name) = ⊥
IsMet s place session statement (refusals.NotExcluded node) = ⊥
IsMet s place session statement (refusals.NoReport number) = ⊥
IsMet s place session statement (refusals.AtEnd c) = ⊥

-- A line is refused before its effect by the first cause that its tests find, or by one that it meets.
abbrev pub CanRefuse : State → ℕ → Refusal → Session → Statement → Type 0
CanRefuse s place cause session statement =
    (IsOpen session.stage × IsFirst s place session statement cause) ⊎ IsMet s place session statement cause

-- WHAT A CAUSE LEAVES

-- whether a refusal tells the session that its transaction was lost
abbrev pub tells_lost : Refusal → Bool
tells_lost (refusals.Lost incarnation) = true
tells_lost (refusals.Excluded node) = false
tells_lost refusals.InTransaction = false
tells_lost refusals.NoTransaction = false
tells_lost (refusals.NoSavepoint name) = false
tells_lost refusals.TooManySavepoints = false
tells_lost refusals.DdlInTransaction = false
tells_lost (refusals.ReadOnly node) = false
tells_lost (refusals.NoTable name) = false
tells_lost (refusals.TableExists name) = false
tells_lost (refusals.NoColumn name) = false
tells_lost (refusals.NoIndex name) = false
tells_lost (refusals.IndexExists name) = false
tells_lost refusals.CatalogFull = false
tells_lost (refusals.TypeMismatch column) = false
tells_lost (refusals.NotGrouped column) = false
tells_lost (refusals.NullRefused column) = false
tells_lost (refusals.TextTooLong column) = false
tells_lost (refusals.BadRow row field cause) = false
tells_lost (refusals.Halted c) = false
tells_lost (refusals.Locked table holder) = false
tells_lost (refusals.Later table c) = false
tells_lost (refusals.TableFull limit) = false
tells_lost (refusals.IndexUnfit column) = false
tells_lost (refusals.TooManyDistinct index distinct) = false
tells_lost (refusals.NoSpace census) = false
tells_lost (refusals.StoreFault before after) = false
tells_lost (refusals.BadPage object page) = false
tells_lost (refusals.NoNode name) = false
tells_lost (refusals.IsCoordinator name) = false
tells_lost (refusals.NotExcluded node) = false
tells_lost (refusals.NoReport number) = false
tells_lost (refusals.AtEnd c) = false
tells_lost refusals.NoMemory = false

-- the last count of faults told, after a refusal
abbrev pub faults_after : Refusal → ℕ → ℕ
faults_after (refusals.StoreFault before after) told = after
faults_after (refusals.Lost incarnation) told = told
faults_after (refusals.Excluded node) told = told
faults_after refusals.InTransaction told = told
faults_after refusals.NoTransaction told = told
faults_after (refusals.NoSavepoint name) told = told
faults_after refusals.TooManySavepoints told = told
faults_after refusals.DdlInTransaction told = told
faults_after (refusals.ReadOnly node) told = told
faults_after (refusals.NoTable name) told = told
faults_after (refusals.TableExists name) told = told
faults_after (refusals.NoColumn name) told = told
faults_after (refusals.NoIndex name) told = told
faults_after (refusals.IndexExists name) told = told
faults_after refusals.CatalogFull told = told
faults_after (refusals.TypeMismatch column) told = told
faults_after (refusals.NotGrouped column) told = told
faults_after (refusals.NullRefused column) told = told
faults_after (refusals.TextTooLong column) told = told
faults_after (refusals.BadRow row field cause) told = told
faults_after (refusals.Halted c) told = told
faults_after (refusals.Locked table holder) told = told
faults_after (refusals.Later table c) told = told
faults_after (refusals.TableFull limit) told = told
faults_after (refusals.IndexUnfit column) told = told
faults_after (refusals.TooManyDistinct index distinct) told = told
faults_after (refusals.NoSpace census) told = told
faults_after (refusals.BadPage object page) told = told
faults_after (refusals.NoNode name) told = told
faults_after (refusals.IsCoordinator name) told = told
faults_after (refusals.NotExcluded node) told = told
faults_after (refusals.NoReport number) told = told
faults_after (refusals.AtEnd c) told = told
faults_after refusals.NoMemory told = told

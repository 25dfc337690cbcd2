-- What the run may count on in a script that was read.
use Rattle.std.specs.Prelude.{◌≡◌, ◌<◌, ◌≤◌, ℕ, List, [], ◌∷◌, length, Some, ⊤}
use Rattle.std.specs.List.{AllByRecursion}
use Rattle.iq_base.specs.declared.nodes.NodeKind.TheVariants.{Coordinator}
use Rattle.iq_base.specs.declared.nodes.NodeSpec.{NodeSpec}
use Rattle.iq_base.specs.declared.nodes.SessionSpec.{SessionSpec}
use Rattle.iq_ast.specs.declared.statements.Statement.{Statement}
use Rattle.iq_ast.specs.declared.statements.Statement.TheVariants as statements
use Rattle.iq_ast.specs.declared.statements.Write.TheVariants as writes
use Rattle.iq_ast.specs.Built.{IsPlainStatement}
use Rattle.iq_model.specs.declared.scripts.Deed.{Deed}
use Rattle.iq_model.specs.declared.scripts.Deed.TheVariants as deeds
use Rattle.iq_model.specs.declared.scripts.Line.{Line}
use Rattle.iq_model.specs.declared.scripts.Script.{Script}
use Rattle.iq_model.specs.declared.scripts.TheConstants.{MOST_LINES}

-- the one node of a script without declarations: the coordinator c
abbrev pub the_node : NodeSpec
the_node = record { name = 99 ∷ []; kind = Coordinator }

-- the one session of such a script: s, on node 0, which has all the lines
abbrev pub the_session : ℕ → SessionSpec
the_session lines = record { name = 115 ∷ []; node = 0; lines = lines }

-- a deed that is a statement of a form that is run
abbrev pub IsPlainDeed : Deed → Type 0
IsPlainDeed (deeds.Statement statement) = IsPlainStatement statement
IsPlainDeed (deeds.Step step) = ⊥

-- an INSERT has at most 16,777,216 tuples
abbrev pub HasFewTuples : Statement → Type 0
HasFewTuples (statements.Write (writes.Insert table rows)) = length rows ≤ 16777216
HasFewTuples (statements.Write (writes.CreateTable name schema)) = ⊤
HasFewTuples (statements.Write (writes.DropTable name)) = ⊤
HasFewTuples (statements.Write (writes.CreateIndex name kind table column second)) = ⊤
HasFewTuples (statements.Write (writes.DropIndex table name)) = ⊤
HasFewTuples (statements.Write (writes.Load table rows text)) = ⊤
HasFewTuples (statements.Write (writes.Delete table cond)) = ⊤
HasFewTuples (statements.Write (writes.Update table changes cond)) = ⊤
HasFewTuples (statements.Select select) = ⊤
HasFewTuples statements.Begin = ⊤
HasFewTuples statements.Commit = ⊤
HasFewTuples statements.Rollback = ⊤
HasFewTuples (statements.Savepoint name) = ⊤
HasFewTuples (statements.BackTo name) = ⊤
HasFewTuples (statements.Release name) = ⊤
HasFewTuples statements.Sync = ⊤

abbrev pub HasFewDeedTuples : Deed → Type 0
HasFewDeedTuples (deeds.Statement statement) = HasFewTuples statement
HasFewDeedTuples (deeds.Step step) = ⊤

-- a line of the first session that is a statement of a form that is run
pub record IsRunnableLine (line : Line) : Type 0 where
  pub session : line.session ≡ Some 0
  pub deed : IsPlainDeed line.deed
  pub tuples : HasFewDeedTuples line.deed

-- the numbers of the lines ascend, each above low
abbrev pub Ascend : ℕ → List Line → Type 0
Ascend low [] = ⊤
Ascend low (line ∷ lines) = (low < line.number) × Ascend line.number lines

-- one node, one session, and not too many lines that are run, whose numbers ascend from 1 or more
pub record IsRunnable (script : Script) : Type 0 where
  pub nodes : script.nodes ≡ the_node ∷ []
  pub sessions : script.sessions ≡ the_session (length script.lines) ∷ []
  pub few : length script.lines ≤ MOST_LINES
  pub numbers : Ascend 0 script.lines
  pub each : AllByRecursion IsRunnableLine script.lines

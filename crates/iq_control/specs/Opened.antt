-- Where the control of a run starts.
use Rattle.std.specs.Prelude.{◌≡◌, ◌≤◌, ◌<◌, ◌^◌, ℕ, ◌+◌, ◌*◌, false, List, [], ◌∷◌, None, map, length}
use Rattle.std.specs.List.{AllByRecursion}
use Rattle.iq_base.specs.declared.nodes.NodeSpec.{NodeSpec}
use Rattle.iq_base.specs.declared.nodes.SessionSpec.{SessionSpec}
use Rattle.iq_history.specs.State.{HistoryState}
use Rattle.iq_model.specs.declared.scripts.Script.{Script}
use Rattle.iq_replay.specs.Start.{node_start}
use Rattle.iq_sessions.specs.Table.{AreCounted, IsFresh}
use Rattle.iq_control.specs.Control.{ControlState}

-- five entries for each line of the declared sessions
abbrev pub entries_due : List SessionSpec → ℕ
entries_due [] = 0
entries_due (spec ∷ specs) = 5 * spec.lines + entries_due specs

-- the names of a script's nodes, and of its sessions
abbrev pub names_of_nodes : Script → List (List ℕ)
names_of_nodes script = map (λ (spec : NodeSpec). spec.name) script.nodes

abbrev pub names_of_sessions : Script → List (List ℕ)
names_of_sessions script = map (λ (spec : SessionSpec). spec.name) script.sessions

-- each session is declared with the number of its lines, and at a node; and there are few enough of all to be counted
pub record IsControllable (script : Script) : Type 0 where
  pub counted : AreCounted 0 script.lines script.sessions
  pub placed : AllByRecursion (λ (spec : SessionSpec). spec.node < length script.nodes) script.sessions
  pub few : entries_due script.sessions + length script.sessions + length script.lines < 2 ^ 32

-- no entry yet, and all lines are left
pub record IsOpened (script : Script) (c : ControlState) : Type 0 where
  pub same_script : c.script ≡ script
  pub no_entries : c.entries ≡ []
  pub latest : c.latest ≡ 0
  pub not_halted : c.halted ≡ None
  pub faults : c.faults ≡ 0
  pub open_still : c.closing ≡ false
  pub nodes : c.nodes ≡ map node_start script.nodes
  pub table : IsFresh script c.table

-- a history of a script without entries, with room for all that are due
pub record IsReady (script : Script) (history : HistoryState) : Type 0 where
  pub node_names : history.nodes ≡ names_of_nodes script
  pub session_names : history.sessions ≡ names_of_sessions script
  pub no_entries : history.entries ≡ []
  pub room : entries_due script.sessions ≤ history.room

-- a history under a script's names
pub record HasNames (script : Script) (history : HistoryState) : Type 0 where
  pub nodes : history.nodes ≡ names_of_nodes script
  pub sessions : history.sessions ≡ names_of_sessions script

-- the control's entries, under its script's names
pub record IsHistoryOf (c : ControlState) (history : HistoryState) : Type 0 where
  pub names : HasNames c.script history
  pub entries : history.entries ≡ c.entries

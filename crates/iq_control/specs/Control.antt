-- The control of a run as contracts see it, and the replayed states with which it agrees.
use Rattle.std.specs.Prelude.{◌≡◌, ℕ, Bool, List, Option, map}
use Rattle.iq_base.specs.Shorts.{Name}
use Rattle.iq_history.specs.declared.entries.Entry.{Entry}
use Rattle.iq_model.specs.declared.scripts.Script.{Script}
use Rattle.iq_locks.specs.Locked as locks
use Rattle.iq_replay.specs.State.{State, Node}
use Rattle.iq_replay.specs.Commits.{latest_of}
use Rattle.iq_replay.specs.Histories.{replay, IsLegal}
use Rattle.iq_sessions.specs.Bare.{bare_session}
use Rattle.iq_sessions.specs.Table.{TableState}

-- The script; the entries so far; the latest commit, the one that met a device fault, and the last count of faults told; whether the
-- script's end has begun to roll back; the nodes; and the sessions, which know no tables and no answers.
pub record ControlState : Type 0 where
  pub script : Script
  pub entries : List Entry
  pub latest : ℕ
  pub halted : Option ℕ
  pub faults : ℕ
  pub closing : Bool
  pub nodes : List Node
  pub table : TableState

-- A replayed state is the control's, but for tables, answers, reports and steps: for its sessions without tables and answers are the
-- control's, and so is the latest commit of each name.
pub record Agrees (c : ControlState) (s : State) : Type 0 where
  pub latest : s.latest ≡ c.latest
  pub halted : s.halted ≡ c.halted
  pub faults : s.faults ≡ c.faults
  pub closing : s.closing ≡ c.closing
  pub nodes : s.nodes ≡ c.nodes
  pub sessions : map bare_session s.sessions ≡ c.table.sessions
  pub wrote : (name : Name) → latest_of name s.wrote ≡ locks.latest_of name c.table.wrote

-- the entries are legal after a first state, and what they leave is the control's
pub record Follows (first : State) (c : ControlState) : Type 0 where
  pub legal : IsLegal first c.entries
  pub agrees : Agrees c (replay first c.entries)

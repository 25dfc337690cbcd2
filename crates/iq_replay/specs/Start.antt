-- Where a run starts.
use Rattle.std.specs.Prelude.{ℕ, ◌+◌, Bool, false, List, [], ◌∷◌, Option, Some, None, nat_eq, map, filter, is_none}
use Rattle.iq_base.specs.declared.nodes.NodeSpec.{NodeSpec}
use Rattle.iq_base.specs.declared.nodes.SessionSpec.{SessionSpec}
use Rattle.iq_model.specs.declared.scripts.Line.{Line}
use Rattle.iq_model.specs.declared.scripts.Script.{Script}
use Rattle.iq_statements.specs.Tables.{Database}
use Rattle.iq_replay.specs.State.{State, Session, idle, fresh, Node}

abbrev pub node_start : NodeSpec → Node
node_start spec = record { name = spec.name; kind = spec.kind; position = 0; incarnation = 1; taken = 0; excluded = false }

-- whether a line is of the session at this place
abbrev pub is_place : ℕ → Option ℕ → Bool
is_place place None = false
is_place place (Some s) = nat_eq s place

abbrev pub is_of : ℕ → Line → Bool
is_of place line = is_place place line.session

-- whether it is a step, which belongs to no session
abbrev pub is_step : Line → Bool
is_step line = is_none line.session

abbrev pub session_start : ℕ → List Line → SessionSpec → Session
session_start place lines spec =
    record { node = spec.node; standing = idle; stage = fresh; said = None; left = filter (is_of place) lines; replies = [] }

abbrev pub sessions_from : ℕ → List Line → List SessionSpec → List Session
sessions_from place lines [] = []
sessions_from place lines (spec ∷ specs) = session_start place lines spec ∷ sessions_from (place + 1) lines specs

-- The state before the first entry: of a store with so many blocks, of a device that tells what it holds and returns what was
-- written to it, or not, and from any tables.
abbrev pub start : ℕ → Bool → Script → Database → State
start blocks told script opening =
    record {
      blocks = blocks;
      told = told;
      latest = 0;
      newest = opening;
      older = [];
      wrote = [];
      nodes = map node_start script.nodes;
      bag = [];
      next = 1;
      base = 0;
      halted = None;
      faults = 0;
      closing = false;
      sessions = sessions_from 0 script.lines script.sessions;
      steps = filter is_step script.lines;
      replies = [];
    }

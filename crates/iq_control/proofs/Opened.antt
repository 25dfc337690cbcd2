-- Where the control of a run starts.
use Rattle.std.specs.Prelude.{◌≡◌, ◌<◌, refl, ℕ, suc, ◌+◌, ◌*◌, Bool, List, [], ◌∷◌, map, length, filter}
use Rattle.std.specs.List.{AllByRecursion}
use Rattle.std.proofs.Common.{arith, ap, sym, ◌∙◌}
use Rattle.std.proofs.lemmas.List.{length-map}
use Rattle.iq_base.specs.declared.nodes.SessionSpec.{SessionSpec}
use Rattle.iq_history.specs.State.{HistoryState}
use Rattle.iq_model.specs.declared.scripts.Line.{Line}
use Rattle.iq_model.specs.declared.scripts.Script.{Script}
use Rattle.iq_statements.specs.Tables.{Database}
use Rattle.iq_replay.specs.State.{Session, Node, fresh}
use Rattle.iq_replay.specs.Start.{start, node_start, sessions_from, session_start, is_of}
use Rattle.iq_replay.specs.Histories.{replay, IsLegal}
use Rattle.iq_sessions.specs.Bare.{bare_session}
use Rattle.iq_sessions.specs.Table.{TableState, AreCounted, IsFresh}
use Rattle.iq_control.specs.Control.{ControlState, Follows}
use Rattle.iq_control.specs.Due.{all_due, line_due, IsControl}
use Rattle.iq_control.specs.Opened.{entries_due, IsControllable, IsOpened, IsReady}

fresh_due : (lines : List Line) → line_due fresh lines ≡ 5 * length lines
fresh_due [] = refl
fresh_due (line ∷ lines) = omega arith

all_fresh : (place : ℕ) (lines : List Line) (specs : List SessionSpec) → AreCounted place lines specs → all_due (sessions_from place lines specs) ≡ entries_due specs
all_fresh place lines [] counted = refl
all_fresh place lines (spec ∷ specs) counted = omega (arith, fresh_due (filter (is_of place) lines), counted.0, all_fresh (place + 1) lines specs counted.1)

nodes_fresh : (limit place : ℕ) (lines : List Line) (specs : List SessionSpec) → AllByRecursion (λ (spec : SessionSpec). spec.node < limit) specs → AllByRecursion (λ (session : Session). session.node < limit) (sessions_from place lines specs)
nodes_fresh limit place lines [] all = tt
nodes_fresh limit place lines (spec ∷ specs) all = (all.0, nodes_fresh limit (place + 1) lines specs all.1)

long_fresh : (place : ℕ) (lines : List Line) (specs : List SessionSpec) → length (sessions_from place lines specs) ≡ length specs
long_fresh place lines [] = refl
long_fresh place lines (spec ∷ specs) = ap suc (long_fresh (place + 1) lines specs)

pub opened_control : (script : Script) (history : HistoryState) (nodes : List Node) (table : TableState) → IsControllable script → IsReady script history → nodes ≡ map node_start script.nodes → IsFresh script table → IsControl history 0 nodes table
opened_control script history nodes table asks ready nodes_are fresh_table =
    let all = all_fresh 0 script.lines script.sessions asks.counted in
    record {
      sessions = rw (ready.session_names, fresh_table.sessions, long_fresh 0 script.lines script.sessions) (length-map script.sessions (λ (spec : SessionSpec). spec.name));
      room = rw (fresh_table.sessions, all) ready.room;
      number = rw (fresh_table.sessions, all) (omega (arith, asks.few));
      nodes_are = rw (fresh_table.sessions, nodes_are, length-map script.nodes node_start) (nodes_fresh (length script.nodes) 0 script.lines script.sessions asks.placed);
    }

bare_fresh : (place : ℕ) (lines : List Line) (specs : List SessionSpec) → map bare_session (sessions_from place lines specs) ≡ sessions_from place lines specs
bare_fresh place lines [] = refl
bare_fresh place lines (spec ∷ specs) = ap (λ (ss : List Session). session_start place lines spec ∷ ss) (bare_fresh (place + 1) lines specs)

pub opened_follows : (blocks : ℕ) (told : Bool) (script : Script) (opening : Database) (c : ControlState) → IsOpened script c → Follows (start blocks told script opening) c
unfolding replay IsLegal
opened_follows blocks told script opening c opened =
    record {
      legal = rw opened.no_entries tt;
      agrees = rw opened.no_entries (record {
        latest = sym opened.latest;
        halted = sym opened.not_halted;
        faults = sym opened.faults;
        closing = sym opened.open_still;
        nodes = sym opened.nodes;
        sessions = bare_fresh 0 script.lines script.sessions ∙ sym opened.table.sessions;
        wrote = λ name. rw opened.table.wrote refl;
      });
    }

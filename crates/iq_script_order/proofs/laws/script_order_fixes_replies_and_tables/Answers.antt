use Rattle.std.specs.Prelude.{ℕ, Bool, List, length}
use Rattle.std.proofs.Common.{arith, ap}
use Rattle.iq_history.specs.declared.entries.Entry.{Entry}
use Rattle.iq_model.specs.declared.scripts.Script.{Script}
use Rattle.iq_statements.specs.Tables.{Database}
use Rattle.iq_replay.specs.State.{State}
use Rattle.iq_replay.specs.Start.{start}
use Rattle.iq_replay.specs.Histories.{replay}
use Rattle.iq_script_order.specs.Fixed.{IsNumberedScript, IsUndisturbedRun, HasSameTables}
use Rattle.iq_script_order.proofs.Fixed.{Runs}
use Rattle.iq_script_order.proofs.Same.{Same, Same-refl}
use Rattle.iq_script_order.proofs.Starts.{sound_start, replies_same}
use Rattle.iq_script_order.proofs.Whole.{fixed}
use Rattle.iq_script_order.proofs.laws.script_order_fixes_replies_and_tables.Goals as goal

runs : (blocks : ℕ) (told : Bool) (script : Script) (opening : Database) (es : List Entry) → IsNumberedScript script → IsUndisturbedRun (start blocks told script opening) es → Runs 1 (start blocks told script opening) es
runs blocks told script opening es numbered h = record {
  goes = record { legal = h.whole.legal; ordered = h.ordered; sessions = h.whole.sessions; steps = h.whole.steps };
  undisturbed = h.undisturbed;
  some = omega arith;
  sound = sound_start blocks told script opening numbered;
}

same : (blocks : ℕ) (told : Bool) (script : Script) (opening : Database) (es fs : List Entry) → IsNumberedScript script
    → IsUndisturbedRun (start blocks told script opening) es → IsUndisturbedRun (start blocks told script opening) fs
    → Same (replay (start blocks told script opening) es) (replay (start blocks told script opening) fs)
same blocks told script opening es fs numbered h k =
    fixed (length es) 1 1 (start blocks told script opening) (start blocks told script opening) es fs (omega arith) (Same-refl _)
    (runs blocks told script opening es numbered h) (runs blocks told script opening fs numbered k)

same_tables : (s t : State) → Same s t → HasSameTables s t
same_tables s t h = record {
  latest = ap (λ (u : State). u.latest) h.rest;
  newest = ap (λ (u : State). u.newest) h.rest;
  older = ap (λ (u : State). u.older) h.rest;
}

pub returns-clause-tables : goal.returns-clause-tables
returns-clause-tables c = λ blocks told script opening es fs numbered h k. same_tables _ _ (same blocks told script opening es fs numbered h k)

pub returns-clause-replies : goal.returns-clause-replies
returns-clause-replies c = λ blocks told script opening es fs numbered h k. replies_same _ _ script.lines (same blocks told script opening es fs numbered h k)

-- Where the shared state starts, and which lines it runs.
use Rattle.std.specs.Prelude.{◌≡◌, ◌≤◌, refl, ℕ, Bool, true, false, List, [], ◌∷◌, None, length, filter, replicate, is_none, if◌then◌else◌}
use Rattle.std.specs.List.{AllByRecursion}
use Rattle.std.proofs.Common.{ap, sym, ◌∙◌, subst, arith, Option, Some}
use Rattle.iq_base.specs.Shorts.{Name}
use Rattle.iq_base.specs.Locks.{catalog_name}
use Rattle.iq_base.specs.declared.nodes.SessionSpec.{SessionSpec}
use Rattle.iq_ast.specs.declared.statements.Item.{Item}
use Rattle.iq_ast.specs.declared.statements.Item.TheVariants as items
use Rattle.iq_ast.specs.declared.statements.Select.{Select}
use Rattle.iq_ast.specs.declared.statements.Statement.{Statement}
use Rattle.iq_ast.specs.declared.statements.Statement.TheVariants as statements
use Rattle.iq_ast.specs.declared.statements.Write.{Write}
use Rattle.iq_ast.specs.declared.statements.Write.TheVariants as writes
use Rattle.iq_ast.specs.Words.{IsName, is_reserved, reserved}
use Rattle.iq_ast.specs.Built.{IsPlainWrite, IsPlainSelect, IsPlain, AreItems, IsOneTest}
use Rattle.iq_ast.specs.declared.conditions.Cond.{Cond}
use Rattle.iq_ast.specs.declared.conditions.Cond as conds
use Rattle.iq_conditions.specs.Servers.{same_name}
use Rattle.iq_model.specs.Scripts.{IsRunnable, IsRunnableLine, HasFewTuples}
use Rattle.iq_model.specs.declared.scripts.Line.{Line}
use Rattle.iq_model.specs.declared.scripts.Script.{Script}
use Rattle.iq_model.specs.declared.scripts.Deed.TheVariants as deeds
use Rattle.iq_replay.specs.State.{State, idle, fresh}
use Rattle.iq_replay.specs.Start.{is_of, is_place, is_step, sessions_from}
use Rattle.iq_replay.specs.Histories.{replay}
use Rattle.iq_locks.proofs.Tables.{same_name-true}
use Rattle.iq_control.specs.Control.{ControlState, Follows}
use Rattle.iq_control.specs.Opened.{IsControllable, IsOpened}
use Rattle.iq_control.proofs.Opened.{opened_follows}
use Rattle.iq_memory.specs.declared.tables.MemoryTables.{MemoryTables}
use Rattle.iq_memory.specs.Holding.{Hold}
use Rattle.iq_query.specs.Simple.{IsSimpleCondition, IsSimple, IsSimpleList, IsColumnItem}
use Rattle.iq_plex.specs.declared.plex.Plex.{Plex}
use Rattle.iq_plex.specs.Standing.{first_of, state_of, session_at, IsAttached, IsNext}
use Rattle.iq_plex.specs.Doing.{Waits, CanRun}

-- LINES OF THE ONE SESSION

all_mine : (lines : List Line) → AllByRecursion IsRunnableLine lines → filter (is_of 0) lines ≡ lines
all_mine [] all = refl
all_mine (line ∷ lines) all = kept (is_of 0 line) (ap (is_place 0) all.0.session) (all_mine lines all.1)
  where
    kept : (b : Bool) → b ≡ true → filter (is_of 0) lines ≡ lines → (if b then line ∷ filter (is_of 0) lines else filter (is_of 0) lines) ≡ line ∷ lines
    kept true mine rest = ap (λ (ls : List Line). line ∷ ls) rest
    kept false mine rest = cc mine

no_steps : (lines : List Line) → AllByRecursion IsRunnableLine lines → filter is_step lines ≡ []
no_steps [] all = refl
no_steps (line ∷ lines) all = left_out (is_step line) (ap is_none all.0.session) (no_steps lines all.1)
  where
    left_out : (b : Bool) → b ≡ false → filter is_step lines ≡ [] → (if b then line ∷ filter is_step lines else filter is_step lines) ≡ []
    left_out true mine rest = cc mine
    left_out false mine rest = rest

-- THE OPENING

pub controllable : (script : Script) → IsRunnable script → IsControllable script
controllable script h = let few : length script.lines ≤ 100000 = h.few in record {
  counted = rw h.sessions (sym (ap length (all_mine script.lines h.each)), tt);
  placed = rw (h.sessions, h.nodes) (omega arith, tt);
  few = rw h.sessions (omega (arith, few));
}

unmade : (c : ControlState) → c.entries ≡ [] → state_of c ≡ first_of c.script
unfolding replay
unmade c none = rw none refl

pub attached : (script : Script) (c : ControlState) (t : MemoryTables) → IsRunnable script → IsOpened script c → Hold t [] → IsAttached script (record { control = c; tables = t })
attached script c t h opened held =
    let state : state_of c ≡ first_of script = unmade c opened.no_entries ∙ ap first_of opened.same_script in
    let mine = all_mine script.lines h.each in
    record {
      same_script = opened.same_script;
      between = record {
        follows = subst (λ (s : Script). Follows (first_of s) c) (sym opened.same_script) (opened_follows 4 true script [] c opened);
        at = ap (λ (s : State). s.sessions) state ∙ ap (sessions_from 0 script.lines) h.sessions ∙ ap (λ (ls : List Line). session_at idle fresh None ls [] ∷ []) mine;
        alone = refl;
        no_step = ap (λ (s : State). s.steps) state ∙ no_steps script.lines h.each;
        not_halted = opened.not_halted;
        still = opened.open_still;
        home = rw (opened.nodes, h.nodes) refl;
        counted = ap length opened.table.noted ∙ ap (λ (specs : List SessionSpec). length {A = ℕ} (replicate (length specs) 0)) h.sessions;
        held = rw state held;
      };
    }

-- WHAT IS RUN

catalog_reserved : is_reserved catalog_name ≡ true
unfolding is_reserved reserved
catalog_reserved = refl

pub no_catalog : (name : Name) → IsName name → same_name name catalog_name ≡ false
no_catalog name is = by_same (same_name name catalog_name) refl
  where
    by_same : (b : Bool) → same_name name catalog_name ≡ b → b ≡ false
    by_same true same = let clash : true ≡ false = sym catalog_reserved ∙ ap is_reserved (sym (same_name-true name catalog_name same)) ∙ is.free in cc clash
    by_same false same = refl

pub can_run : (write : Write) → IsPlainWrite write → HasFewTuples (statements.Write write) → CanRun write
can_run (writes.CreateTable name schema) h few = record { simple = h.1; named = no_catalog name h.0 }
can_run (writes.DropTable name) h few = record { simple = tt; named = no_catalog name h }
can_run (writes.CreateIndex name kind table column second) h few = absurd h
can_run (writes.DropIndex table name) h few = absurd h
can_run (writes.Insert table rows) h few = record { simple = few; named = no_catalog table h }
can_run (writes.Load table rows text) h few = absurd h
can_run (writes.Delete table cond) h few = absurd h
can_run (writes.Update table changes cond) h few = absurd h

columns_of : (more : List Item) → AllByRecursion IsPlain more → AllByRecursion IsColumnItem more
columns_of [] all = tt
columns_of (items.Plain name ∷ more) all = (tt, columns_of more all.1)
columns_of (items.CountAll ∷ more) all = absurd all.0
columns_of (items.Count name ∷ more) all = absurd all.0
columns_of (items.Sum name ∷ more) all = absurd all.0
columns_of (items.Min name ∷ more) all = absurd all.0
columns_of (items.Max name ∷ more) all = absurd all.0

simple_list : (list : List Item) → AreItems list → IsSimpleList list
simple_list [] h = tt
simple_list (items.CountAll ∷ more) h = h
simple_list (items.Plain name ∷ more) h = columns_of more h.1
simple_list (items.Count name ∷ more) h = absurd h.0
simple_list (items.Sum name ∷ more) h = absurd h.0
simple_list (items.Min name ∷ more) h = absurd h.0
simple_list (items.Max name ∷ more) h = absurd h.0

simple_condition : (cond : Option Cond) → IsOneTest cond → IsSimpleCondition cond
simple_condition None h = tt
simple_condition (Some (conds.Test test)) h = tt
simple_condition (Some (conds.Not' shape members)) h = absurd h
simple_condition (Some (conds.And' shape members)) h = absurd h
simple_condition (Some (conds.Or' shape members)) h = absurd h

pub simple : (select : Select) → IsPlainSelect select → IsSimple select
simple select h = record { list = simple_list select.items h.items; answered = h.explain; condition = simple_condition select.cond h.cond; not_grouped = h.group; not_ordered = h.order }

pub waits : (p : Plex) (line : Line) (st : Statement) → IsNext p line → line.deed ≡ deeds.Statement st → Waits p line.number st
waits p line st h deed = record { line = line; rest = h.rest; replies = h.replies; between = h.between; is = record { number = refl; deed = deed } }

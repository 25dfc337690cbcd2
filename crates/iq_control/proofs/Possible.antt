-- An entry is possible in each state with which the control agrees.
use Rattle.std.specs.Prelude.{◌≡◌, refl, ⊤, ℕ, suc, ◌+◌, Bool, true, false, List, [], ◌∷◌, ◌++◌, Option, Some, None, map}
use Rattle.std.specs.List.{slice_get}
use Rattle.std.specs.Option.{option_or}
use Rattle.std.proofs.Common.{ap, sym, ◌∙◌, inl, inr}
use Rattle.iq_base.specs.Shorts.{Name}
use Rattle.iq_base.specs.declared.refusals.Refusal.{Refusal}
use Rattle.iq_base.specs.declared.refusals.Refusal.TheVariants as refusals
use Rattle.iq_ast.specs.declared.statements.Statement.{Statement}
use Rattle.iq_ast.specs.declared.statements.Statement.TheVariants as statements
use Rattle.iq_ast.specs.declared.statements.Write.{Write}
use Rattle.iq_ast.specs.declared.statements.Write.TheVariants as writes
use Rattle.iq_history.specs.declared.entries.Entry.TheVariants as entries
use Rattle.iq_statements.specs.Checks.{Check, first_refusal, first_found, found_if}
use Rattle.iq_statements.specs.Statements.{is_ddl, created_by, creates, statement_checks, room_checks}
use Rattle.iq_replay.specs.State.{State, Session, Standing, idle, lost, running, Run, held_by, has_some}
use Rattle.iq_replay.specs.Refusals.{lost_refusal, transaction_refusal, before_line, holder_from, locked_refusal, later_refusal, wanted, run_checks, line_checks, checks_but}
use Rattle.iq_replay.specs.Asked.{OfLine, IsRunning, IsOpen, HoldsAll, Rises}
use Rattle.iq_replay.specs.Causes.{CanRefuse, IsWorking}
use Rattle.iq_replay.specs.Lines.{CanEnd, first_running, runs}
use Rattle.iq_replay.specs.Entries.{IsPossible}
use Rattle.iq_sessions.specs.Bare.{bare_session, bare_standing, bare_run, At}
use Rattle.iq_sessions.specs.Table as table
use Rattle.iq_sessions.specs.Table.{names_refusal}
use Rattle.iq_control.specs.Control.{ControlState, Agrees}
use Rattle.iq_control.specs.Asked.{early_checks, IsSnapshot, AsksBegin, AsksLock, AsksTake, AsksEnd, AsksRun, AreFree, AreRefused, IsNotAdmitted, HasLost, IsWriting, IsHaltedCommit, IsNamed, IsUnrefused}
use Rattle.iq_control.proofs.Bare.{CreatesAlone}
use Rattle.iq_control.proofs.Lines.{LineAt, at_state, of_line, of_line_at}
use Rattle.iq_control.proofs.Early.{early_bare, or_none, first_more, admitted_line, quiet_rollback, quiet_save, quiet_back, quiet_release, lost_bare}
use Rattle.iq_control.proofs.Orders.{lock_checks, low_found, granted_ten}

-- STANDINGS

idle_bare : (standing : Standing) → bare_standing standing ≡ idle → standing ≡ idle
idle_bare idle q = refl
idle_bare lost q = cc q
idle_bare (running run) q = cc q

-- what holds of the running transaction without tables holds of it
running_bare : (standing : Standing) (P Q : Run → Type 0) → ((run : Run) → P (bare_run run) → Q run) → IsRunning (bare_standing standing) P → IsRunning standing Q
running_bare idle P Q more p = absurd p
running_bare lost P Q more p = absurd p
running_bare (running run) P Q more p = more run p

-- BEGIN

quiet_idle : (s : State) (place : ℕ) (standing : Standing) (statement : Statement) → standing ≡ idle → first_refusal (run_checks s place standing statement) ≡ None
quiet_idle s place standing statement is = rw is refl

pub begin_possible : (c : ControlState) (s : State) (place l commit : ℕ) (own : Bool) → Agrees c s → LineAt s place l (AsksBegin c own) → At place c.table.sessions (λ session. IsSnapshot c session commit) → IsPossible s (entries.Begin place l commit)
unfolding IsPossible
begin_possible c s place l commit own h at_line snapshot =
    let none = idle_bare at_line.session.standing at_line.holds.none in
    of_line s place l _ _ at_line (record {
      begins = at_line.holds.begins;
      stage = at_line.holds.stage;
      none = none;
      granted = admitted_line s place at_line.session at_line.statement (rw h.nodes at_line.holds.admitted) (quiet_idle s place at_line.session.standing at_line.statement none);
      snapshot = rw (h.nodes, h.latest) (at_state c s place at_line.session (λ session. IsSnapshot c session commit) h at_line.found snapshot);
    })

-- LOCKS

held_bare : (standing : Standing) → held_by (bare_standing standing) ≡ held_by standing
held_bare idle = refl
held_bare lost = refl
held_bare (running run) = refl

holder_bare : (place : ℕ) (ss : List Session) (asks : ℕ) (name : Name) → holder_from place (map bare_session ss) asks name ≡ holder_from place ss asks name
holder_bare place [] asks name = refl
holder_bare place (s ∷ ss) asks name = rw (held_bare s.standing, holder_bare (place + 1) ss asks name) refl

first_same : (f g : Name → Option Refusal) (names : List Name) → ((n : Name) → f n ≡ g n) → first_found f names ≡ first_found g names
first_same f g [] same = refl
first_same f g (n ∷ names) same = rw (same n, first_same f g names same) refl

locked_same : (c : ControlState) (s : State) (place : ℕ) → Agrees c s → (name : Name) → locked_refusal c.table.sessions place name ≡ locked_refusal s.sessions place name
locked_same c s place h name = rw (← h.sessions, holder_bare 0 s.sessions place name) refl

later_same : (c : ControlState) (s : State) (snapshot : ℕ) → Agrees c s → (name : Name) → table.later_refusal c.table.wrote snapshot name ≡ later_refusal s.wrote snapshot name
later_same c s snapshot h name = rw (← h.wrote name) refl

-- what refuses names is the same in the state
pub refused_names : (c : ControlState) (s : State) (place snapshot : ℕ) (names : List Name) → Agrees c s → names_refusal c.table.sessions c.table.wrote place snapshot names
    ≡ option_or (first_found (locked_refusal s.sessions place) names) (first_found (later_refusal s.wrote snapshot) names)
refused_names c s place snapshot names h =
    rw (first_same (locked_refusal c.table.sessions place) (locked_refusal s.sessions place) names (locked_same c s place h), first_same (table.later_refusal c.table.wrote snapshot) (later_refusal s.wrote snapshot) names (later_same c s snapshot h)) refl

free_locks : (c : ControlState) (s : State) (place : ℕ) (names : List Name) (statement : Statement) (run : Run) → Agrees c s → c.halted ≡ None → names ≡ wanted statement run
    → names_refusal c.table.sessions c.table.wrote place run.snapshot names ≡ None → first_refusal (lock_checks s place statement run) ≡ None
free_locks c s place names statement run h halted is free =
    let both = or_none (first_found (locked_refusal s.sessions place) names) (first_found (later_refusal s.wrote run.snapshot) names) (sym (refused_names c s place run.snapshot names h) ∙ free) in
    rw (h.halted, halted, ← is, both.0, both.1) refl

at_run : (standing : Standing) (P Q : Run → Type 0) (R : Type 0) → IsRunning (bare_standing standing) P → IsRunning (bare_standing standing) Q → ((run : Run) → standing ≡ running run → P (bare_run run) → Q (bare_run run) → R) → R
at_run idle P Q R p q more = absurd p
at_run lost P Q R p q more = absurd p
at_run (running run) P Q R p q more = more run refl p q

pub lock_possible : (c : ControlState) (s : State) (place l : ℕ) (names : List Name) → Agrees c s → LineAt s place l (AsksLock names) → c.halted ≡ None → At place c.table.sessions (AreFree c place names) → OfLine s place l (IsNamed s place)
    → IsPossible s (entries.Lock place l names)
unfolding IsPossible
lock_possible c s place l names h at_line halted free named =
    of_line s place l _ _ at_line (record {
      stage = at_line.holds.stage;
      names_are = running_bare at_line.session.standing _ (λ run. names ≡ wanted at_line.statement run) (λ run is. is) at_line.holds.names_are;
      some = at_line.holds.some;
      granted = at_run at_line.session.standing _ _ _ at_line.holds.names_are (at_state c s place at_line.session (AreFree c place names) h at_line.found free) (λ run is names_are none.
          granted_ten s place at_line.session at_line.statement run is (of_line_at s place l _ (IsNamed s place) at_line named) (free_locks c s place names at_line.statement run h halted names_are none));
    })

-- EFFECTS

creates_none : (write : Write) → is_ddl write ≡ false → created_by write ≡ []
creates_none (writes.CreateTable name schema) q = cc q
creates_none (writes.DropTable name) q = refl
creates_none (writes.CreateIndex name kind table column second) q = refl
creates_none (writes.DropIndex table name) q = refl
creates_none (writes.Insert table rows) q = refl
creates_none (writes.Load table rows text) q = refl
creates_none (writes.Delete table cond) q = refl
creates_none (writes.Update table changes cond) q = refl

not_found : (b : Bool) (r : Refusal) → found_if b r ≡ None → b ≡ false
not_found true r q = cc q
not_found false r q = refl

alone_in : (run : Run) (statement : Statement) → transaction_refusal (Some run) statement ≡ None → creates statement ≡ []
alone_in run (statements.Write write) q = creates_none write (not_found (is_ddl write) refusals.DdlInTransaction q)
alone_in run (statements.Select select) q = refl
alone_in run statements.Begin q = refl
alone_in run statements.Commit q = refl
alone_in run statements.Rollback q = refl
alone_in run (statements.Savepoint name) q = refl
alone_in run (statements.BackTo name) q = refl
alone_in run (statements.Release name) q = refl
alone_in run statements.Sync q = refl

alone : (standing : Standing) (statement : Statement) → transaction_refusal (before_line standing) statement ≡ None → CreatesAlone standing (creates statement)
alone idle statement q = tt
alone lost statement q = tt
alone (running run) statement q = λ own. alone_in run statement (rw own at q)

early_but : (s : State) (place : ℕ) (session : Session) (statement : Statement) → checks_but 7 (line_checks s place session statement) ≡ early_checks s.nodes session statement ++ checks_but 7 (run_checks s place session.standing statement)
early_but s place session statement = refl

-- nothing refuses the transaction's state, so a line in the session's transaction creates nothing
pub take_alone : (s : State) (place : ℕ) (session : Session) (statement : Statement) → IsUnrefused s place session statement → CreatesAlone session.standing (creates statement)
take_alone s place session statement granted =
    let early = or_none (first_refusal (early_checks s.nodes session statement)) _ (sym (first_more (early_checks s.nodes session statement) (checks_but 7 (run_checks s place session.standing statement))) ∙ granted) in
    let behind_lost = or_none (lost_refusal (slice_get s.nodes session.node) session.standing) _ early.0 in
    let behind_excluded = or_none _ _ behind_lost.1 in
    alone session.standing statement (or_none (transaction_refusal (before_line session.standing) statement) _ behind_excluded.1).0

pub take_possible : (c : ControlState) (s : State) (place l : ℕ) (created : List Name) → Agrees c s → LineAt s place l (AsksTake created) → OfLine s place l (IsUnrefused s place) → IsPossible s (entries.Done place l)
unfolding IsPossible
take_possible c s place l created h at_line granted =
    of_line s place l _ _ at_line (record {
      tables = at_line.holds.tables;
      meaning = at_line.holds.meaning;
      stage = at_line.holds.stage;
      held = running_bare at_line.session.standing _ (λ run. HoldsAll run at_line.statement) (λ run held. held) at_line.holds.held;
      granted = of_line_at s place l _ (IsUnrefused s place) at_line granted;
    })

-- ENDS

ends_here : (session : Session) (holds : Bool) (statement : Statement) → AsksEnd holds (bare_session session) statement → IsRunning session.standing (CanEnd holds session statement)
ends_here session holds statement p = running_bare session.standing _ (CanEnd holds session statement) (λ run ends. record { ending = ends.ending; held = ends.held }) p

pub commit_possible : (c : ControlState) (s : State) (place l : ℕ) → Agrees c s → LineAt s place l (AsksEnd true) → c.halted ≡ None → IsPossible s (entries.Commit place l (c.latest + 1))
unfolding IsPossible
commit_possible c s place l h at_line halted =
    of_line s place l _ _ at_line (record {
      ends = ends_here at_line.session true at_line.statement at_line.holds;
      number = ap (λ (n : ℕ). n + 1) (sym h.latest);
      not_halted = h.halted ∙ halted;
    })

pub halt_possible : (c : ControlState) (s : State) (place l before after : ℕ) → Agrees c s → LineAt s place l (AsksEnd true) → c.halted ≡ None → Rises c.faults before after → IsPossible s (entries.Halt place l (c.latest + 1) before after)
unfolding IsPossible
halt_possible c s place l before after h at_line halted rises =
    of_line s place l _ _ at_line (record {
      commit = record { ends = ends_here at_line.session true at_line.statement at_line.holds; number = ap (λ (n : ℕ). n + 1) (sym h.latest); not_halted = h.halted ∙ halted };
      rises = rw h.faults rises;
    })

pub end_possible : (c : ControlState) (s : State) (place l : ℕ) → Agrees c s → LineAt s place l (AsksEnd false) → IsPossible s (entries.End place l)
unfolding IsPossible
end_possible c s place l h at_line = of_line s place l _ _ at_line (ends_here at_line.session false at_line.statement at_line.holds)

-- LINES OF ONE ENTRY

pub rollback_possible : (c : ControlState) (s : State) (place l : ℕ) → Agrees c s → LineAt s place (suc l) (AsksRun c statements.Rollback) → IsPossible s (entries.Rollback place (suc l))
unfolding IsPossible
rollback_possible c s place l h at_line =
    of_line s place (suc l) _ _ at_line (record {
      same = at_line.holds.same;
      granted = admitted_line s place at_line.session at_line.statement (rw h.nodes at_line.holds.admitted) (rw at_line.holds.same (quiet_rollback s place at_line.session.standing));
    })

pub save_possible : (c : ControlState) (s : State) (place l : ℕ) (name : Name) → Agrees c s → LineAt s place l (AsksRun c (statements.Savepoint name)) → IsPossible s (entries.Savepoint place l name)
unfolding IsPossible
save_possible c s place l name h at_line =
    of_line s place l _ _ at_line (record {
      same = at_line.holds.same;
      granted = admitted_line s place at_line.session at_line.statement (rw h.nodes at_line.holds.admitted) (rw at_line.holds.same (quiet_save s place name at_line.session.standing));
    })

pub back_possible : (c : ControlState) (s : State) (place l : ℕ) (name : Name) → Agrees c s → LineAt s place l (AsksRun c (statements.BackTo name)) → IsPossible s (entries.Back place l name)
unfolding IsPossible
back_possible c s place l name h at_line =
    of_line s place l _ _ at_line (record {
      same = at_line.holds.same;
      granted = admitted_line s place at_line.session at_line.statement (rw h.nodes at_line.holds.admitted) (rw at_line.holds.same (quiet_back s place name at_line.session.standing));
    })

pub release_possible : (c : ControlState) (s : State) (place l : ℕ) (name : Name) → Agrees c s → LineAt s place l (AsksRun c (statements.Release name)) → IsPossible s (entries.Release place l name)
unfolding IsPossible
release_possible c s place l name h at_line =
    of_line s place l _ _ at_line (record {
      same = at_line.holds.same;
      granted = admitted_line s place at_line.session at_line.statement (rw h.nodes at_line.holds.admitted) (rw at_line.holds.same (quiet_release s place name at_line.session.standing));
    })

-- THE SCRIPT'S END

runs_bare : (standing : Standing) → runs (bare_standing standing) ≡ runs standing
runs_bare idle = refl
runs_bare lost = refl
runs_bare (running run) = refl

running_first : (place : ℕ) (ss : List Session) → first_running place (map bare_session ss) ≡ first_running place ss
running_first place [] = refl
running_first place (s ∷ ss) = rw (runs_bare s.standing, running_first (place + 1) ss) refl

pub close_possible : (c : ControlState) (s : State) (place : ℕ) → Agrees c s → first_running 0 c.table.sessions ≡ Some place → IsPossible s (entries.Rollback place 0)
unfolding IsPossible
close_possible c s place h first = sym (running_first 0 s.sessions) ∙ ap (first_running 0) h.sessions ∙ first

-- REFUSALS

pub refusal_possible : (s : State) (place l : ℕ) (cause : Refusal) → OfLine s place l (CanRefuse s place cause) → IsPossible s (entries.Refused (Some place) l cause)
unfolding IsPossible
refusal_possible s place l cause h = h

or_first : (a b : Option Refusal) (r : Refusal) → a ≡ Some r → option_or a b ≡ Some r
or_first a b r q = rw q refl

or_behind : (a b : Option Refusal) (r : Refusal) → a ≡ None → b ≡ Some r → option_or a b ≡ Some r
or_behind a b r p q = rw p q

-- the first of the tests before a statement's own
pub not_admitted : (c : ControlState) (s : State) (place l : ℕ) (cause : Refusal) → Agrees c s → LineAt s place l (IsNotAdmitted c cause) → OfLine s place l (CanRefuse s place cause)
not_admitted c s place l cause h at_line =
    of_line s place l _ (CanRefuse s place cause) at_line (inl (
      at_line.holds.0,
      inl (
          first_more (early_checks s.nodes at_line.session at_line.statement) (run_checks s place at_line.session.standing at_line.statement)
          ∙ or_first (first_refusal (early_checks s.nodes at_line.session at_line.statement)) _ cause (ap first_refusal (sym (early_bare s.nodes at_line.session at_line.statement)) ∙ rw h.nodes at_line.holds.1)),
    ))

pub was_lost : (c : ControlState) (s : State) (place l incarnation : ℕ) → Agrees c s → LineAt s place l (HasLost c incarnation) → OfLine s place l (CanRefuse s place (refusals.Lost incarnation))
was_lost c s place l incarnation h at_line =
    of_line s place l _ (CanRefuse s place (refusals.Lost incarnation)) at_line (inr (sym (lost_bare (slice_get s.nodes at_line.session.node) at_line.session.standing) ∙ rw h.nodes at_line.holds))

pub no_memory : (s : State) (place l : ℕ) → LineAt s place l (λ session statement. IsOpen session.stage) → OfLine s place l (CanRefuse s place refusals.NoMemory)
no_memory s place l at_line = of_line s place l _ (CanRefuse s place refusals.NoMemory) at_line (inr at_line.holds)

runs_here : (standing : Standing) → IsRunning (bare_standing standing) (λ run. ⊤) → IsRunning standing (λ run. ⊤)
runs_here standing p = running_bare standing _ (λ run. ⊤) (λ run q. tt) p

pub store_fault : (c : ControlState) (s : State) (place l before after : ℕ) → Agrees c s → LineAt s place l (IsWorking) → Rises c.faults before after → OfLine s place l (CanRefuse s place (refusals.StoreFault before after))
store_fault c s place l before after h at_line rises =
    of_line s place l _ (CanRefuse s place (refusals.StoreFault before after)) at_line
    (inr (record { open_still = at_line.holds.open_still; tables = at_line.holds.tables; runs = runs_here at_line.session.standing at_line.holds.runs }, rw h.faults rises))

pub was_halted : (c : ControlState) (s : State) (place l commit : ℕ) → Agrees c s → LineAt s place l IsWriting → c.halted ≡ Some commit → OfLine s place l (IsNamed s place) → OfLine s place l (CanRefuse s place (refusals.Halted commit))
was_halted c s place l commit h at_line halted named =
    of_line s place l _ (CanRefuse s place (refusals.Halted commit)) at_line
    (inr (h.halted ∙ halted, record { write = at_line.holds.0; runs = runs_here at_line.session.standing at_line.holds.1; granted = of_line_at s place l _ (IsNamed s place) at_line named }))

or_more : (a b x : Option Refusal) (r : Refusal) → option_or a b ≡ Some r → option_or a (option_or b x) ≡ Some r
or_more None None x r q = cc q
or_more None (Some t) x r q = q
or_more (Some t) b x r q = q

first_behind : (xs ys : List Check) (r : Refusal) → first_refusal xs ≡ None → first_refusal ys ≡ Some r → first_refusal (xs ++ ys) ≡ Some r
first_behind xs ys r p q = first_more xs ys ∙ or_behind (first_refusal xs) (first_refusal ys) r p q

running_checks : (s : State) (place : ℕ) (session : Session) (statement : Statement) (run : Run) → session.standing ≡ running run
    → line_checks s place session statement ≡ early_checks s.nodes session statement ++ run_checks s place (running run) statement
running_checks s place session statement run is = rw is refl

names_first : (s : State) (place : ℕ) (session : Session) (statement : Statement) (run : Run) (cause : Refusal) → session.standing ≡ running run → IsNamed s place session statement → s.halted ≡ None
    → option_or (first_found (locked_refusal s.sessions place) (wanted statement run)) (first_found (later_refusal s.wrote run.snapshot) (wanted statement run)) ≡ Some cause
    → first_refusal (line_checks s place session statement) ≡ Some cause
names_first s place session statement run cause is named halted names =
    let low = low_found s place session statement run is named in
    let behind : first_refusal (lock_checks s place statement run ++ room_checks statement run.start.seen) ≡ Some cause = rw halted (or_more (first_found (locked_refusal s.sessions place) (wanted statement run)) (first_found (later_refusal s.wrote run.snapshot) (wanted statement run)) (first_refusal (room_checks statement run.start.seen)) cause names) in
    ap first_refusal (running_checks s place session statement run is)
    ∙ first_behind (early_checks s.nodes session statement) (run_checks s place (running run) statement) cause low.early
    (first_behind (statement_checks statement run.start.seen) (lock_checks s place statement run ++ room_checks statement run.start.seen) cause low.named behind)

run_of_line : (standing : Standing) (P : Run → Type 0) (R : Type 0) → IsRunning (bare_standing standing) P → ((run : Run) → standing ≡ running run → P (bare_run run) → R) → R
run_of_line idle P R p more = absurd p
run_of_line lost P R p more = absurd p
run_of_line (running run) P R p more = more run refl p

-- a name that another session holds, or that was written past the snapshot
pub names_refused : (c : ControlState) (s : State) (place l : ℕ) (cause : Refusal) → Agrees c s → LineAt s place l (AreRefused c place cause) → c.halted ≡ None → OfLine s place l (IsNamed s place) → OfLine s place l (CanRefuse s place cause)
names_refused c s place l cause h at_line halted named =
    of_line s place l _ (CanRefuse s place cause) at_line (inl (
      at_line.holds.stage,
      inl (
          run_of_line at_line.session.standing _ _ at_line.holds.cause_is (λ run is refused.
          names_first s place at_line.session at_line.statement run cause is (of_line_at s place l _ (IsNamed s place) at_line named) (h.halted ∙ halted) (sym (refused_names c s place run.snapshot (wanted at_line.statement run) h) ∙ refused))),
    ))

halted_first : (s : State) (place commit : ℕ) (standing : Standing) → s.halted ≡ Some commit → IsRunning (bare_standing standing) (λ run. has_some run.now.held ≡ true)
    → first_refusal (run_checks s place standing statements.Commit) ≡ Some (refusals.Halted commit)
halted_first s place commit idle halted p = absurd p
halted_first s place commit lost halted p = absurd p
halted_first s place commit (running run) halted p = rw (halted, p) refl

-- COMMIT behind a halt
pub commit_halted : (c : ControlState) (s : State) (place l commit : ℕ) → Agrees c s → LineAt s place l (IsHaltedCommit c) → c.halted ≡ Some commit → OfLine s place l (CanRefuse s place (refusals.Halted commit))
commit_halted c s place l commit h at_line halted =
    of_line s place l _ (CanRefuse s place (refusals.Halted commit)) at_line (inl (
      at_line.holds.stage,
      inl (
          first_behind (early_checks s.nodes at_line.session at_line.statement) (run_checks s place at_line.session.standing at_line.statement) (refusals.Halted commit)
          (ap first_refusal (sym (early_bare s.nodes at_line.session at_line.statement)) ∙ rw h.nodes at_line.holds.admitted)
          (rw at_line.holds.same (halted_first s place commit at_line.session.standing (h.halted ∙ halted) at_line.holds.held))),
    ))

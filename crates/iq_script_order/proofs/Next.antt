-- The entry with which a session's line goes on, where nothing disturbs it.
use Rattle.std.specs.Prelude.{◌≡◌, refl, ℕ, ◌+◌, ⊤, Bool, true, false, List, [], ◌∷◌, Option, Some, None, IsSomeAnd}
use Rattle.std.specs.List.{slice_get}
use Rattle.std.proofs.Common.{◌∙◌, ap, sym, inl, inr}
use Rattle.iq_base.specs.Shorts.{Name}
use Rattle.iq_base.specs.declared.refusals.Refusal.{Refusal}
use Rattle.iq_base.specs.declared.refusals.Refusal.TheVariants as refusals
use Rattle.iq_ast.specs.declared.statements.Statement.{Statement}
use Rattle.iq_ast.specs.declared.statements.Statement.TheVariants as statements
use Rattle.iq_history.specs.declared.entries.Entry.{Entry}
use Rattle.iq_history.specs.declared.entries.Entry.TheVariants as entries
use Rattle.iq_statements.specs.Checks.{first_refusal}
use Rattle.iq_statements.specs.Statements.{IsOnTables, Begins}
use Rattle.iq_replay.specs.State.{State, Session, Stage, fresh, begun, locked, done, Standing, idle, lost, running, Run, Node, has_some, not_held}
use Rattle.iq_replay.specs.Nodes.{node_position}
use Rattle.iq_replay.specs.Refusals.{wanted, lost_refusal, line_checks, checks_but}
use Rattle.iq_replay.specs.Asked.{IsRunning, IsOpen, IsUnlocked, HoldsAll}
use Rattle.iq_replay.specs.Causes.{IsMet, CanRefuse}
use Rattle.iq_replay.specs.Lines.{CanBegin, CanLock, CanTake, IsEnding, CanEnd, CanCommit, CanEndWithout, CanRun}
use Rattle.iq_script_order.specs.Fixed.{IsCertain}
use Rattle.iq_script_order.proofs.Checks.{first_same}

-- refused by what the tests find, or else as the line goes on
abbrev pub by_refusal : ℕ → ℕ → Option Refusal → Entry → Entry
by_refusal place l None go = go
by_refusal place l (Some cause) go = entries.Refused (Some place) l cause

-- the transaction ends: with a number where it holds a name
abbrev pub ending : ℕ → ℕ → ℕ → Bool → Entry
ending latest place l true = entries.Commit place l (latest + 1)
ending latest place l false = entries.End place l

abbrev pub ends_so : State → ℕ → ℕ → Run → Entry
ends_so s place l run = ending s.latest place l (has_some run.now.held)

-- names that are wanted are locked first
abbrev pub taking : ℕ → ℕ → List Name → Entry
taking place l [] = entries.Done place l
taking place l (name ∷ names) = entries.Lock place l (name ∷ names)

-- a line in a running transaction
abbrev pub go_running : State → ℕ → ℕ → Run → Statement → Entry
go_running s place l run (statements.Write write) = taking place l (wanted (statements.Write write) run)
go_running s place l run (statements.Select select) = entries.Done place l
go_running s place l run statements.Begin = entries.Done place l
go_running s place l run statements.Commit = ends_so s place l run
go_running s place l run statements.Rollback = entries.Rollback place l
go_running s place l run (statements.Savepoint name) = entries.Savepoint place l name
go_running s place l run (statements.BackTo name) = entries.Back place l name
go_running s place l run (statements.Release name) = entries.Release place l name
go_running s place l run statements.Sync = entries.Sync place l s.latest

abbrev pub position_in : ℕ → Option Node → ℕ
position_in latest None = 0
position_in latest (Some node) = node_position latest node

-- a line without a transaction, whose node is at a position
abbrev pub go_idle : State → ℕ → ℕ → ℕ → Statement → Entry
go_idle s place l c (statements.Write write) = entries.Begin place l c
go_idle s place l c (statements.Select select) = entries.Begin place l c
go_idle s place l c statements.Begin = entries.Begin place l c
go_idle s place l c statements.Commit = entries.End place l
go_idle s place l c statements.Rollback = entries.Rollback place l
go_idle s place l c (statements.Savepoint name) = entries.Savepoint place l name
go_idle s place l c (statements.BackTo name) = entries.Back place l name
go_idle s place l c (statements.Release name) = entries.Release place l name
go_idle s place l c statements.Sync = entries.Sync place l s.latest

-- a line whose transaction runs: it is the line's own or not, and its statement took effect or not
abbrev pub next_run : State → ℕ → ℕ → Run → Bool → Stage → Option Refusal → Statement → Entry
next_run s place l run true done first statement = ends_so s place l run
next_run s place l run true fresh first statement = by_refusal place l first (go_running s place l run statement)
next_run s place l run true begun first statement = by_refusal place l first (go_running s place l run statement)
next_run s place l run true locked first statement = by_refusal place l first (go_running s place l run statement)
next_run s place l run false stage first statement = by_refusal place l first (go_running s place l run statement)

abbrev pub next_at : State → ℕ → ℕ → ℕ → Standing → Stage → Option Refusal → Statement → Entry
next_at s place l c idle stage first statement = by_refusal place l first (go_idle s place l c statement)
next_at s place l c lost stage first statement = by_refusal place l first (go_idle s place l c statement)
next_at s place l c (running run) stage first statement = next_run s place l run run.own stage first statement

abbrev pub next_of : State → ℕ → ℕ → Session → Statement → Entry
next_of s place l session statement =
    next_at s place l (position_in s.latest (slice_get s.nodes session.node)) session.standing session.stage
    (first_refusal (line_checks s place session statement)) statement

-- the same where the session's transaction and the first refusal are known
next_known : (s : State) (place l : ℕ) (session : Session) (statement : Statement) (standing : Standing) (first : Option Refusal)
    → session.standing ≡ standing → first_refusal (line_checks s place session statement) ≡ first
    → next_of s place l session statement ≡ next_at s place l (position_in s.latest (slice_get s.nodes session.node)) standing session.stage first statement
next_known s place l session statement standing first is found =
    ap (λ (t : Standing). next_at s place l (position_in s.latest (slice_get s.nodes session.node)) t session.stage (first_refusal (line_checks s place session statement)) statement) is
    ∙ ap (λ (o : Option Refusal). next_at s place l (position_in s.latest (slice_get s.nodes session.node)) standing session.stage o statement) found

-- a statement whose effect its line waits behind is one on tables
abbrev pub IsOnTablesAt : Stage → Statement → Type 0
IsOnTablesAt fresh statement = ⊤
IsOnTablesAt begun statement = ⊤
IsOnTablesAt locked statement = ⊤
IsOnTablesAt done statement = IsOnTables statement

-- EACH ENTRY IS THE NEXT ONE

position_is : (latest c : ℕ) (o : Option Node) → IsSomeAnd o (λ node. c ≡ node_position latest node) → c ≡ position_in latest o
position_is latest c None h = absurd h
position_is latest c (Some node) h = h

pub next_begin : (s : State) (place l c : ℕ) (session : Session) (statement : Statement) → CanBegin s place c session statement → next_of s place l session statement ≡ entries.Begin place l c
next_begin s place l c session statement h =
    next_known s place l session statement idle None h.none h.granted ∙ at_begins statement h.begins ∙ ap (λ (n : ℕ). entries.Begin place l n) (sym (position_is s.latest c (slice_get s.nodes session.node) h.snapshot))
  where
    at_begins : (statement : Statement) → Begins statement → go_idle s place l (position_in s.latest (slice_get s.nodes session.node)) statement ≡ entries.Begin place l (position_in s.latest (slice_get s.nodes session.node))
    at_begins (statements.Write write) b = refl
    at_begins (statements.Select select) b = refl
    at_begins statements.Begin b = refl
    at_begins other b = absurd b

-- before its effect a line in a transaction goes on by what the tests find
next_open : (s : State) (place l : ℕ) (session : Session) (statement : Statement) (run : Run) (first : Option Refusal)
    → session.standing ≡ running run → first_refusal (line_checks s place session statement) ≡ first → IsOpen session.stage
    → next_of s place l session statement ≡ by_refusal place l first (go_running s place l run statement)
next_open s place l session statement run first is found open_still =
    next_known s place l session statement (running run) first is found ∙ at_own run.own session.stage open_still
  where
    at_own : (own : Bool) (stage : Stage) → IsOpen stage → next_run s place l run own stage first statement ≡ by_refusal place l first (go_running s place l run statement)
    at_own true fresh q = refl
    at_own true begun q = refl
    at_own true locked q = refl
    at_own true done q = absurd q
    at_own false stage q = refl

unlocked_open : (stage : Stage) → IsUnlocked stage → IsOpen stage
unlocked_open fresh h = tt
unlocked_open begun h = tt
unlocked_open locked h = absurd h
unlocked_open done h = absurd h

no_names : (held : List Name) → not_held held [] ≡ []
no_names held = refl

-- a write takes effect once nothing is wanted
takes_so : (s : State) (place l : ℕ) (run : Run) (statement : Statement) → IsOnTables statement → HoldsAll run statement → go_running s place l run statement ≡ entries.Done place l
takes_so s place l run (statements.Write write) on h = ap (taking place l) h
takes_so s place l run (statements.Select select) on h = refl
takes_so s place l run other on h = absurd on

pub next_done : (s : State) (place l : ℕ) (session : Session) (statement : Statement) → s.halted ≡ None → CanTake s place session statement → next_of s place l session statement ≡ entries.Done place l
next_done s place l session statement none h = at_standing session.standing refl h.held
  where
    at_standing : (standing : Standing) → session.standing ≡ standing → IsRunning standing (λ run. HoldsAll run statement) → next_of s place l session statement ≡ entries.Done place l
    at_standing idle is q = absurd q
    at_standing lost is q = absurd q
    at_standing (running run) is q =
        next_open s place l session statement run None is (sym (first_same s place session statement none) ∙ h.granted) h.stage ∙ takes_so s place l run statement h.tables q

-- a lock is the next entry, unless a test behind the locks refuses the write, and then the refusal is
pub data LocksOr (s : State) (place l : ℕ) (names : List Name) (session : Session) (statement : Statement) : Type 0 where
  goes : next_of s place l session statement ≡ entries.Lock place l names → LocksOr s place l names session statement
  stops : (cause : Refusal) → first_refusal (line_checks s place session statement) ≡ Some cause → next_of s place l session statement ≡ entries.Refused (Some place) l cause → LocksOr s place l names session statement

locks_so : (s : State) (place l : ℕ) (run : Run) (names : List Name) (statement : Statement) → names ≡ wanted statement run → has_some names ≡ true → go_running s place l run statement ≡ entries.Lock place l names
locks_so s place l run names (statements.Write write) is some = ap (taking place l) (sym is) ∙ at_names names some
  where
    at_names : (names : List Name) → has_some names ≡ true → taking place l names ≡ entries.Lock place l names
    at_names [] q = cc q
    at_names (name ∷ names) q = refl
locks_so s place l run names other is some = absurd (at_none names is some)
  where
    at_none : (names : List Name) → names ≡ [] → has_some names ≡ true → ⊥
    at_none [] p q = cc q
    at_none (name ∷ names) p q = cc p

pub next_lock : (s : State) (place l : ℕ) (names : List Name) (session : Session) (statement : Statement) → CanLock s place names session statement → LocksOr s place l names session statement
next_lock s place l names session statement h = at_standing session.standing refl h.names_are
  where
    at_found : (run : Run) → session.standing ≡ running run → names ≡ wanted statement run → (o : Option Refusal) → first_refusal (line_checks s place session statement) ≡ o → LocksOr s place l names session statement
    at_found run is q None found = goes (next_open s place l session statement run None is found (unlocked_open session.stage h.stage) ∙ locks_so s place l run names statement q h.some)
    at_found run is q (Some cause) found = stops cause found (next_open s place l session statement run (Some cause) is found (unlocked_open session.stage h.stage))

    at_standing : (standing : Standing) → session.standing ≡ standing → IsRunning standing (λ run. names ≡ wanted statement run) → LocksOr s place l names session statement
    at_standing idle is q = absurd q
    at_standing lost is q = absurd q
    at_standing (running run) is q = at_found run is q (first_refusal (line_checks s place session statement)) refl

-- REFUSALS

-- a first refusal before the line's effect is the next entry
pub next_found : (s : State) (place l : ℕ) (session : Session) (statement : Statement) (cause : Refusal) → IsOpen session.stage → first_refusal (line_checks s place session statement) ≡ Some cause
    → next_of s place l session statement ≡ entries.Refused (Some place) l cause
next_found s place l session statement cause open_still found = at_standing session.standing refl
  where
    at_standing : (standing : Standing) → session.standing ≡ standing → next_of s place l session statement ≡ entries.Refused (Some place) l cause
    at_standing idle is = next_known s place l session statement idle (Some cause) is found
    at_standing lost is = next_known s place l session statement lost (Some cause) is found
    at_standing (running run) is = next_open s place l session statement run (Some cause) is found open_still

-- a loss is told at any place of a line
next_lost : (s : State) (place l i : ℕ) (session : Session) (statement : Statement) → lost_refusal (slice_get s.nodes session.node) session.standing ≡ Some (refusals.Lost i)
    → next_of s place l session statement ≡ entries.Refused (Some place) l (refusals.Lost i)
next_lost s place l i session statement h = at_standing session.standing refl
  where
    found : first_refusal (line_checks s place session statement) ≡ Some (refusals.Lost i)
    found = rw h refl

    at_node : (o : Option Node) (standing : Standing) → lost_refusal o standing ≡ Some (refusals.Lost i) → standing ≡ lost
    at_node None standing q = cc q
    at_node (Some node) idle q = cc q
    at_node (Some node) lost q = refl
    at_node (Some node) (running run) q = cc q

    at_standing : (standing : Standing) → session.standing ≡ standing → next_of s place l session statement ≡ entries.Refused (Some place) l (refusals.Lost i)
    at_standing standing is =
        next_known s place l session statement lost (Some (refusals.Lost i)) (at_node (slice_get s.nodes session.node) session.standing h) found

next_met : (s : State) (place l : ℕ) (session : Session) (statement : Statement) (cause : Refusal) → IsCertain cause → IsMet s place session statement cause
    → next_of s place l session statement ≡ entries.Refused (Some place) l cause
next_met s place l session statement (refusals.Lost i) certain h = next_lost s place l i session statement h
next_met s place l session statement (refusals.Halted c) certain h = absurd certain
next_met s place l session statement (refusals.NoSpace census) certain h = absurd certain
next_met s place l session statement (refusals.StoreFault before after) certain h = absurd certain
next_met s place l session statement (refusals.BadPage object page) certain h = absurd certain
next_met s place l session statement refusals.NoMemory certain h = absurd certain
next_met s place l session statement other certain h = absurd h

pub next_refused : (s : State) (place l : ℕ) (session : Session) (statement : Statement) (cause : Refusal) → s.halted ≡ None → IsCertain cause → CanRefuse s place cause session statement
    → next_of s place l session statement ≡ entries.Refused (Some place) l cause
next_refused s place l session statement cause none certain (inl (open_still, inl found)) = next_found s place l session statement cause open_still found
next_refused s place l session statement cause none certain (inl (open_still, inr (write, runs))) = next_found s place l session statement cause open_still (at_standing session.standing runs)
  where
    at_standing : (standing : Standing) → IsRunning standing (λ run. HoldsAll run statement × (first_refusal (checks_but 7 (line_checks s place session statement)) ≡ Some cause)) → first_refusal (line_checks s place session statement) ≡ Some cause
    at_standing idle q = absurd q
    at_standing lost q = absurd q
    at_standing (running run) q = sym (first_same s place session statement none) ∙ q.1
next_refused s place l session statement cause none certain (inr met) = next_met s place l session statement cause certain met

-- LINES OF ONE ENTRY

next_one : (s : State) (place l : ℕ) (session : Session) (statement : Statement) (go : Entry) → first_refusal (line_checks s place session statement) ≡ None
    → ((c : ℕ) → go_idle s place l c statement ≡ go) → ((run : Run) → go_running s place l run statement ≡ go) → (IsOnTables statement → ⊥) → IsOnTablesAt session.stage statement
    → next_of s place l session statement ≡ go
next_one s place l session statement go granted idle_so running_so not_tables at_stage = at_standing session.standing refl
  where
    at_own : (run : Run) (own : Bool) (stage : Stage) → IsOnTablesAt stage statement → next_run s place l run own stage None statement ≡ go
    at_own run true fresh q = running_so run
    at_own run true begun q = running_so run
    at_own run true locked q = running_so run
    at_own run true done q = absurd (not_tables q)
    at_own run false stage q = running_so run

    at_standing : (standing : Standing) → session.standing ≡ standing → next_of s place l session statement ≡ go
    at_standing idle is = next_known s place l session statement idle None is granted ∙ idle_so _
    at_standing lost is = next_known s place l session statement lost None is granted ∙ idle_so _
    at_standing (running run) is = next_known s place l session statement (running run) None is granted ∙ at_own run run.own session.stage at_stage

next_this : (s : State) (place l : ℕ) (this : Statement) (session : Session) (statement : Statement) (go : Entry)
    → ((c : ℕ) → go_idle s place l c this ≡ go) → ((run : Run) → go_running s place l run this ≡ go) → (IsOnTables this → ⊥) → IsOnTablesAt session.stage statement
    → CanRun s place this session statement → next_of s place l session statement ≡ go
next_this s place l this session statement go idle_so running_so not_tables at_stage h =
    next_one s place l session statement go h.granted (λ c. ap (go_idle s place l c) h.same ∙ idle_so c) (λ run. ap (go_running s place l run) h.same ∙ running_so run) (λ t. not_tables (on_this statement h.same t)) at_stage
  where
    on_this : (statement : Statement) → statement ≡ this → IsOnTables statement → IsOnTables this
    on_this statement same t = rw same at t

pub next_rollback : (s : State) (place l : ℕ) (session : Session) (statement : Statement) → IsOnTablesAt session.stage statement → CanRun s place statements.Rollback session statement → next_of s place l session statement ≡ entries.Rollback place l
next_rollback s place l session statement at_stage h = next_this s place l statements.Rollback session statement (entries.Rollback place l) (λ c. refl) (λ run. refl) (λ t. t) at_stage h

pub next_savepoint : (s : State) (place l : ℕ) (name : Name) (session : Session) (statement : Statement) → IsOnTablesAt session.stage statement → CanRun s place (statements.Savepoint name) session statement → next_of s place l session statement ≡ entries.Savepoint place l name
next_savepoint s place l name session statement at_stage h = next_this s place l (statements.Savepoint name) session statement (entries.Savepoint place l name) (λ c. refl) (λ run. refl) (λ t. t) at_stage h

pub next_back : (s : State) (place l : ℕ) (name : Name) (session : Session) (statement : Statement) → IsOnTablesAt session.stage statement → CanRun s place (statements.BackTo name) session statement → next_of s place l session statement ≡ entries.Back place l name
next_back s place l name session statement at_stage h = next_this s place l (statements.BackTo name) session statement (entries.Back place l name) (λ c. refl) (λ run. refl) (λ t. t) at_stage h

pub next_release : (s : State) (place l : ℕ) (name : Name) (session : Session) (statement : Statement) → IsOnTablesAt session.stage statement → CanRun s place (statements.Release name) session statement → next_of s place l session statement ≡ entries.Release place l name
next_release s place l name session statement at_stage h = next_this s place l (statements.Release name) session statement (entries.Release place l name) (λ c. refl) (λ run. refl) (λ t. t) at_stage h

pub next_sync : (s : State) (place l : ℕ) (session : Session) (statement : Statement) → IsOnTablesAt session.stage statement → CanRun s place statements.Sync session statement → next_of s place l session statement ≡ entries.Sync place l s.latest
next_sync s place l session statement at_stage h = next_this s place l statements.Sync session statement (entries.Sync place l s.latest) (λ c. refl) (λ run. refl) (λ t. t) at_stage h

-- ENDS

-- a node that isn't excluded, where there is one
abbrev pub IsIncluded : Option Node → Type 0
IsIncluded None = ⊤
IsIncluded (Some node) = node.excluded ≡ false

-- a COMMIT of the session's transaction finds no refusal
commit_granted : (s : State) (place : ℕ) (session : Session) (run : Run) → session.standing ≡ running run → run.own ≡ false → s.halted ≡ None → IsIncluded (slice_get s.nodes session.node)
    → first_refusal (line_checks s place session statements.Commit) ≡ None
commit_granted s place session run is own none included = at_node (slice_get s.nodes session.node) refl included
  where
    at_node : (o : Option Node) → slice_get s.nodes session.node ≡ o → IsIncluded o → first_refusal (line_checks s place session statements.Commit) ≡ None
    at_node None node_is q = rw (is, own, node_is, none) refl
    at_node (Some node) node_is q = rw (is, own, node_is, q, none) refl

-- the line ends its transaction
next_ends : (s : State) (place l : ℕ) (holds : Bool) (session : Session) (statement : Statement) → s.halted ≡ None → IsIncluded (slice_get s.nodes session.node) → IsRunning session.standing (CanEnd holds session statement)
    → next_of s place l session statement ≡ ending s.latest place l holds
next_ends s place l holds session statement none included h = at_standing session.standing refl h
  where
    at_own : (run : Run) → session.standing ≡ running run → has_some run.now.held ≡ holds → (own : Bool) → run.own ≡ own → IsEnding own session.stage statement → next_of s place l session statement ≡ ending s.latest place l holds
    at_own run is held true own ending_is =
        next_known s place l session statement (running run) _ is refl
        ∙ ap (λ (o : Bool). next_run s place l run o session.stage (first_refusal (line_checks s place session statement)) statement) own
        ∙ ap (λ (t : Stage). next_run s place l run true t (first_refusal (line_checks s place session statement)) statement) ending_is
        ∙ ap (ending s.latest place l) held
    at_own run is held false own ending_is =
        next_known s place l session statement (running run) None is (ap (λ (t : Statement). first_refusal (line_checks s place session t)) ending_is ∙ commit_granted s place session run is own none included)
        ∙ ap (λ (o : Bool). next_run s place l run o session.stage None statement) own
        ∙ ap (go_running s place l run) ending_is
        ∙ ap (ending s.latest place l) held

    at_standing : (standing : Standing) → session.standing ≡ standing → IsRunning standing (CanEnd holds session statement) → next_of s place l session statement ≡ ending s.latest place l holds
    at_standing idle is q = absurd q
    at_standing lost is q = absurd q
    at_standing (running run) is q = at_own run is q.held run.own refl q.ending

pub next_commit : (s : State) (place l c : ℕ) (session : Session) (statement : Statement) → IsIncluded (slice_get s.nodes session.node) → CanCommit s c session statement → next_of s place l session statement ≡ entries.Commit place l c
next_commit s place l c session statement included h = next_ends s place l true session statement h.not_halted included h.ends ∙ ap (λ (n : ℕ). entries.Commit place l n) (sym h.number)

pub next_end : (s : State) (place l : ℕ) (session : Session) (statement : Statement) → s.halted ≡ None → IsIncluded (slice_get s.nodes session.node) → CanEndWithout session statement → next_of s place l session statement ≡ entries.End place l
next_end s place l session statement none included h = next_ends s place l false session statement none included h

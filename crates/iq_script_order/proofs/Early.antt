-- A lock before a refusal by a test behind the locks: the refusal comes next, and leaves the same as without the lock.
use Rattle.std.specs.Prelude.{◌≡◌, refl, ℕ, zero, suc, Bool, true, false, ◌||◌, List, [], ◌∷◌, ◌++◌, Option, Some, None, nat_lt, if◌then◌else◌}
use Rattle.std.specs.List.{slice_get}
use Rattle.std.specs.Option.{option_or}
use Rattle.std.proofs.Common.{◌∙◌, ap, sym}
use Rattle.iq_base.specs.Shorts.{Name}
use Rattle.iq_base.specs.declared.refusals.Refusal.{Refusal}
use Rattle.iq_ast.specs.declared.statements.Statement.{Statement}
use Rattle.iq_ast.specs.declared.statements.Statement.TheVariants as statements
use Rattle.iq_ast.specs.declared.statements.Write.{Write}
use Rattle.iq_model.specs.declared.replies.Said.TheVariants as said
use Rattle.iq_conditions.specs.Servers.{same_name}
use Rattle.iq_statements.specs.Checks.{Check, first_refusal, first_found}
use Rattle.iq_statements.specs.Statements.{statement_checks, room_checks, names_of}
use Rattle.iq_replay.specs.State.{State, Session, Standing, idle, lost, running, Run, Node, changed_at, has_name, not_held, has_some}
use Rattle.iq_replay.specs.Refusals.{wanted, locked_refusal, later_refusal, halted_refusal, lost_refusal, excluded_refusal, at_node, reader_refusal, before_line, transaction_refusal, line_checks, checks_below}
use Rattle.iq_replay.specs.Asked.{IsRunning}
use Rattle.iq_replay.specs.Lines.{CanLock}
use Rattle.iq_replay.specs.Changes.{holds_more, on_run, locks_more, ends_line, after_refusal, refused}
use Rattle.iq_script_order.proofs.Checks.{found_below}
use Rattle.iq_script_order.proofs.Steps.{same_name-refl}

-- NAMES

has-append : (xs ys : List Name) (n : Name) → has_name (xs ++ ys) n ≡ (has_name xs n || has_name ys n)
has-append [] ys n = refl
has-append (x ∷ xs) ys n = at_first (same_name x n) (has-append xs ys n)
  where
    at_first : (b : Bool) → has_name (xs ++ ys) n ≡ (has_name xs n || has_name ys n) → (b || has_name (xs ++ ys) n) ≡ ((b || has_name xs n) || has_name ys n)
    at_first true more = refl
    at_first false more = more

or_right : (a b : Bool) → b ≡ true → (a || b) ≡ true
or_right true b k = refl
or_right false b k = k

-- names that are held beside others that have all that aren't held: none is wanted
all_held : (held more names : List Name) → ((m : Name) → has_name (not_held held names) m ≡ true → has_name more m ≡ true) → not_held (held ++ more) names ≡ []
all_held held more [] sub = refl
all_held held more (x ∷ names) sub = at_held (has_name held x) refl (all_held held more names (λ m k. sub m (later (has_name held x) refl m k)))
  where
    later : (b : Bool) → has_name held x ≡ b → (m : Name) → has_name (not_held held names) m ≡ true → has_name (not_held held (x ∷ names)) m ≡ true
    later true q m k = rw q k
    later false q m k = rw q (or_right (same_name x m) (has_name (not_held held names) m) k)

    here : has_name held x ≡ false → has_name (not_held held (x ∷ names)) x ≡ true
    here q = rw (q, same_name-refl x) refl

    has_both : (b : Bool) → has_name held x ≡ b → has_name (held ++ more) x ≡ true
    has_both true q = rw (has-append held more x, q) refl
    has_both false q = rw (has-append held more x, q) (sub x (here q))

    at_held : (b : Bool) → has_name held x ≡ b → not_held (held ++ more) names ≡ [] → not_held (held ++ more) (x ∷ names) ≡ []
    at_held b q rest = rw (has_both b q) rest

-- once the names that are wanted are held, none is wanted
pub none_wanted : (held names : List Name) → not_held (held ++ not_held held names) names ≡ []
none_wanted held names = all_held held (not_held held names) names (λ m k. k)

-- THE TESTS BEHIND THE LOCK

-- the first refusal of a write in a transaction, by what the tests of the transaction, of locks and of later commits find
abbrev pub first_by : State → Session → Write → Run → Option Refusal → Option Refusal → Option Refusal → Option Refusal
first_by s session write run transaction locked later =
    option_or (at_node excluded_refusal (slice_get s.nodes session.node))
    (option_or transaction
    (option_or (reader_refusal (slice_get s.nodes session.node) (statements.Write write))
    (first_refusal
    (statement_checks (statements.Write write) run.start.seen
    ++ record { order = 7; found = halted_refusal s.halted true }
    ∷ record { order = 8; found = locked }
    ∷ record { order = 9; found = later }
    ∷ room_checks (statements.Write write) run.start.seen))))

no_loss : (o : Option Node) (run : Run) → lost_refusal o (running run) ≡ None
no_loss None run = refl
no_loss (Some node) run = refl

-- a session in a transaction, one of whose lines is a write
first_is : (s : State) (place : ℕ) (session : Session) (write : Write) (run : Run) → session.standing ≡ running run
    → first_refusal (line_checks s place session (statements.Write write))
    ≡ first_by s session write run (transaction_refusal (before_line (running run)) (statements.Write write))
    (first_found (locked_refusal s.sessions place) (wanted (statements.Write write) run)) (first_found (later_refusal s.wrote run.snapshot) (wanted (statements.Write write) run))
first_is s place session write run is = rw (is, no_loss (slice_get s.nodes session.node) run) refl

-- the names that a lock puts to a transaction change nothing in what its transaction's test finds
same_before : (run : Run) (names : List Name) (write : Write) → transaction_refusal (before_line (running (holds_more names run))) (statements.Write write) ≡ transaction_refusal (before_line (running run)) (statements.Write write)
same_before run names write = at_own run.own
  where
    at_own : (own : Bool) → transaction_refusal (if own then None else Some (holds_more names run)) (statements.Write write) ≡ transaction_refusal (if own then None else Some run) (statements.Write write)
    at_own true = refl
    at_own false = refl

rest_below : (order : ℕ) (front behind : List Check) → first_refusal (checks_below order (front ++ behind)) ≡ None → first_refusal (checks_below order behind) ≡ None
rest_below order [] behind h = h
rest_below order (first ∷ front) behind h = rest_below order front behind (at_order (nat_lt first.order order) refl h)
  where
    at_found : (o : Option Refusal) → option_or o (first_refusal (checks_below order (front ++ behind))) ≡ None → first_refusal (checks_below order (front ++ behind)) ≡ None
    at_found None p = p
    at_found (Some cause) p = cc p

    at_order : (b : Bool) → nat_lt first.order order ≡ b → first_refusal (checks_below order (first ∷ (front ++ behind))) ≡ None → first_refusal (checks_below order (front ++ behind)) ≡ None
    at_order true q k = at_found first.found (rw q at k)
    at_order false q k = rw q at k

-- the tests of a transaction that come behind those of its statement's names and values
abbrev pub behind_names : State → ℕ → Write → Run → List Check
behind_names s place write run =
    record { order = 7; found = halted_refusal s.halted true }
    ∷ record { order = 8; found = first_found (locked_refusal s.sessions place) (wanted (statements.Write write) run) }
    ∷ record { order = 9; found = first_found (later_refusal s.wrote run.snapshot) (wanted (statements.Write write) run) }
    ∷ room_checks (statements.Write write) run.start.seen

-- the tests below the order of room find nothing in locks and later commits
granted_behind : (s : State) (place : ℕ) (session : Session) (write : Write) (run : Run) → session.standing ≡ running run → first_refusal (checks_below 10 (line_checks s place session (statements.Write write))) ≡ None
    → first_refusal (checks_below 10 (behind_names s place write run)) ≡ None
granted_behind s place session write run is granted =
    rest_below 10 (statement_checks (statements.Write write) run.start.seen) (behind_names s place write run)
    (rest_below 10
    (record { order = 2; found = lost_refusal (slice_get s.nodes session.node) (running run) }
    ∷ record { order = 2; found = at_node excluded_refusal (slice_get s.nodes session.node) }
    ∷ record { order = 3; found = transaction_refusal (before_line (running run)) (statements.Write write) }
    ∷ record { order = 4; found = reader_refusal (slice_get s.nodes session.node) (statements.Write write) }
    ∷ [])
    (statement_checks (statements.Write write) run.start.seen ++ behind_names s place write run) (rw is at granted))

nothing_locked : (s : State) (place : ℕ) (session : Session) (write : Write) (run : Run) → session.standing ≡ running run → first_refusal (checks_below 10 (line_checks s place session (statements.Write write))) ≡ None
    → first_found (locked_refusal s.sessions place) (wanted (statements.Write write) run) ≡ None
nothing_locked s place session write run is granted =
    found_below 10 (record { order = 7; found = halted_refusal s.halted true } ∷ [])
    (record { order = 8; found = first_found (locked_refusal s.sessions place) (wanted (statements.Write write) run) })
    (record { order = 9; found = first_found (later_refusal s.wrote run.snapshot) (wanted (statements.Write write) run) } ∷ room_checks (statements.Write write) run.start.seen)
    (granted_behind s place session write run is granted) refl

nothing_later : (s : State) (place : ℕ) (session : Session) (write : Write) (run : Run) → session.standing ≡ running run → first_refusal (checks_below 10 (line_checks s place session (statements.Write write))) ≡ None
    → first_found (later_refusal s.wrote run.snapshot) (wanted (statements.Write write) run) ≡ None
nothing_later s place session write run is granted =
    found_below 10
    (record { order = 7; found = halted_refusal s.halted true }
    ∷ record { order = 8; found = first_found (locked_refusal s.sessions place) (wanted (statements.Write write) run) } ∷ [])
    (record { order = 9; found = first_found (later_refusal s.wrote run.snapshot) (wanted (statements.Write write) run) })
    (room_checks (statements.Write write) run.start.seen)
    (granted_behind s place session write run is granted) refl

-- THE STATE BEHIND THE LOCK

abbrev pub after_lock : State → ℕ → List Name → State
after_lock s place names = record s { sessions = changed_at place (locks_more names) s.sessions }

-- the first refusal behind the lock is the one before it
first_behind : (s : State) (place : ℕ) (names : List Name) (session : Session) (write : Write) (run : Run) → session.standing ≡ running run → names ≡ wanted (statements.Write write) run
    → first_refusal (checks_below 10 (line_checks s place session (statements.Write write))) ≡ None
    → first_refusal (line_checks (after_lock s place names) place (locks_more names session) (statements.Write write)) ≡ first_refusal (line_checks s place session (statements.Write write))
first_behind s place names session write run is named granted =
    first_is (after_lock s place names) place (locks_more names session) write (holds_more names run) (ap (on_run (holds_more names)) is)
    ∙ ap (λ (ns : List Name). first_by s session write run (transaction_refusal (before_line (running (holds_more names run))) (statements.Write write))
    (first_found (locked_refusal (after_lock s place names).sessions place) ns) (first_found (later_refusal s.wrote run.snapshot) ns)) none
    ∙ ap (λ (o : Option Refusal). first_by s session write run o None None) (same_before run names write)
    ∙ ap (λ (o : Option Refusal). first_by s session write run (transaction_refusal (before_line (running run)) (statements.Write write)) o None) (sym (nothing_locked s place session write run is granted))
    ∙ ap (λ (o : Option Refusal). first_by s session write run (transaction_refusal (before_line (running run)) (statements.Write write)) (first_found (locked_refusal s.sessions place) (wanted (statements.Write write) run)) o) (sym (nothing_later s place session write run is granted))
    ∙ sym (first_is s place session write run is)
  where
    none : wanted (statements.Write write) (holds_more names run) ≡ []
    none = rw named (none_wanted run.now.held (names_of write))

-- a lock is one of a write
pub first_of_lock : (s : State) (place : ℕ) (names : List Name) (session : Session) (statement : Statement) → CanLock s place names session statement
    → first_refusal (line_checks (after_lock s place names) place (locks_more names session) statement) ≡ first_refusal (line_checks s place session statement)
first_of_lock s place names session statement h = at_statement statement h.granted h.names_are
  where
    at_none : (ns : List Name) → ns ≡ [] → has_some ns ≡ true → ⊥
    at_none [] p q = cc q
    at_none (n ∷ ns) p q = cc p

    at_standing : (write : Write) → first_refusal (checks_below 10 (line_checks s place session (statements.Write write))) ≡ None → (standing : Standing) → session.standing ≡ standing → IsRunning standing (λ run. names ≡ wanted (statements.Write write) run)
        → first_refusal (line_checks (after_lock s place names) place (locks_more names session) (statements.Write write)) ≡ first_refusal (line_checks s place session (statements.Write write))
    at_standing write granted idle is q = absurd q
    at_standing write granted lost is q = absurd q
    at_standing write granted (running run) is q = first_behind s place names session write run is q granted

    at_other : (standing : Standing) → IsRunning standing (λ run. names ≡ []) → ⊥
    at_other idle q = q
    at_other lost q = q
    at_other (running run) q = at_none names q h.some

    at_statement : (statement : Statement) → first_refusal (checks_below 10 (line_checks s place session statement)) ≡ None → IsRunning session.standing (λ run. names ≡ wanted statement run)
        → first_refusal (line_checks (after_lock s place names) place (locks_more names session) statement) ≡ first_refusal (line_checks s place session statement)
    at_statement (statements.Write write) granted q = at_standing write granted session.standing refl q
    at_statement (statements.Select select) granted q = absurd (at_other session.standing q)
    at_statement other granted q = absurd (at_other session.standing q)

-- a refusal leaves the same behind the lock as before it
refused_locked : (l : ℕ) (cause : Refusal) (names : List Name) (session : Session) → refused l cause (locks_more names session) ≡ refused l cause session
refused_locked l cause names session = ap (λ (standing : Standing). ends_line l (said.Refused cause) (record session { standing = standing })) (at_standing session.standing)
  where
    at_standing : (standing : Standing) → after_refusal cause (on_run (holds_more names) standing) ≡ after_refusal cause standing
    at_standing idle = refl
    at_standing lost = refl
    at_standing (running run) = refl

pub changed_twice : (place : ℕ) (l : ℕ) (cause : Refusal) (names : List Name) (sessions : List Session) → changed_at place (refused l cause) (changed_at place (locks_more names) sessions) ≡ changed_at place (refused l cause) sessions
changed_twice place l cause names [] = refl
changed_twice zero l cause names (session ∷ sessions) = ap (λ (now : Session). now ∷ sessions) (refused_locked l cause names session)
changed_twice (suc place) l cause names (session ∷ sessions) = ap (λ (more : List Session). session ∷ more) (changed_twice place l cause names sessions)

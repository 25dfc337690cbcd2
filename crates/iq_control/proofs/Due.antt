-- Each entry of a line takes one of those that are due.
use Rattle.std.specs.Prelude.{◌≡◌, ◌≤◌, ◌<◌, ◌^◌, refl, ℕ, zero, suc, ◌+◌, Bool, true, false, List, [], ◌∷◌, Option, Some, None, length, drop, IsSomeAnd, if◌then◌else◌}
use Rattle.std.specs.List.{slice_get, AllByRecursion}
use Rattle.std.proofs.Common.{arith, ap, sym, ◌∙◌}
use Rattle.iq_base.specs.Shorts.{Name}
use Rattle.iq_base.specs.declared.refusals.Refusal.{Refusal}
use Rattle.iq_ast.specs.declared.statements.Statement.{Statement}
use Rattle.iq_history.specs.State.{HistoryState, IsPushed}
use Rattle.iq_history.specs.declared.entries.Entry.{Entry}
use Rattle.iq_model.specs.declared.scripts.Line.{Line}
use Rattle.iq_model.specs.declared.scripts.Deed.{Deed}
use Rattle.iq_model.specs.declared.scripts.Deed.TheVariants as deeds
use Rattle.iq_replay.specs.State.{Session, Stage, fresh, begun, locked, done, Standing, idle, lost, running, Run, Node, changed_at}
use Rattle.iq_replay.specs.Asked.{FirstIs, StatementIs, IsRunning, IsOpen, IsUnlocked}
use Rattle.iq_replay.specs.Causes.{tells_lost}
use Rattle.iq_replay.specs.Lines.{runs}
use Rattle.iq_replay.specs.Changes.{ends_run, on_run, works, holds_more, locks_more, after_refusal}
use Rattle.iq_sessions.specs.Bare.{At}
use Rattle.iq_sessions.specs.Changes.{ends_line, begins_at, creates_more, keeps_work, took, takes, refuses, ends_both}
use Rattle.iq_sessions.specs.Table.{TableState}
use Rattle.iq_control.specs.Due.{line_due, standing_due, due, all_due, IsControl}

-- THE SESSION OF A LINE

pub record LineHere (sessions : List Session) (place : ℕ) (P : Session → Statement → Type 0) : Type 0 where
  pub session : Session
  pub statement : Statement
  pub found : slice_get sessions place ≡ Some session
  pub line : 0 < length session.left
  pub holds : P session statement

pub line_here : (sessions : List Session) (place l : ℕ) (P : Session → Statement → Type 0) → At place sessions (λ session. FirstIs session.left l (λ deed. StatementIs deed (P session))) → LineHere sessions place P
line_here sessions place l P p = at_session (slice_get sessions place) refl p
  where
    at_deed : (session : Session) → slice_get sessions place ≡ Some session → 0 < length session.left → (deed : Deed) → StatementIs deed (P session) → LineHere sessions place P
    at_deed session is some (deeds.Statement statement) p = record { session = session; statement = statement; found = is; line = some; holds = p }
    at_deed session is some (deeds.Step step) p = absurd p

    at_left : (session : Session) → slice_get sessions place ≡ Some session → (left : List Line) → session.left ≡ left → FirstIs left l (λ deed. StatementIs deed (P session)) → LineHere sessions place P
    at_left session is [] left p = absurd p
    at_left session is (line ∷ lines) left p = at_deed session is (rw left (omega arith)) line.deed p.1

    at_session : (o : Option Session) → slice_get sessions place ≡ o → IsSomeAnd o (λ session. FirstIs session.left l (λ deed. StatementIs deed (P session))) → LineHere sessions place P
    at_session None is p = absurd p
    at_session (Some session) is p = at_left session is session.left refl p

pub at_of : (sessions : List Session) (place : ℕ) (session : Session) (P : Session → Type 0) → slice_get sessions place ≡ Some session → P session → At place sessions P
at_of sessions place session P found p = rw found p

pub place_within : (sessions : List Session) (place : ℕ) (session : Session) → slice_get sessions place ≡ Some session → place < length sessions
place_within [] place session q = cc q
place_within (s ∷ sessions) zero session q = omega arith
place_within (s ∷ sessions) (suc n) session q = omega (arith, place_within sessions n session q)

-- WHAT IS DUE

ends_due : (stage : Stage) (left : List Line) → 0 < length left → line_due fresh (drop 1 left) < line_due stage left
ends_due stage [] some = absurd (omega (arith, some))
ends_due fresh (line ∷ []) some = omega arith
ends_due begun (line ∷ []) some = omega arith
ends_due locked (line ∷ []) some = omega arith
ends_due done (line ∷ []) some = omega arith
ends_due fresh (line ∷ (next ∷ lines)) some = omega arith
ends_due begun (line ∷ (next ∷ lines)) some = omega arith
ends_due locked (line ∷ (next ∷ lines)) some = omega arith
ends_due done (line ∷ (next ∷ lines)) some = omega arith

pub due_ends : (session : Session) → 0 < length session.left → due (ends_both session) < due session
due_ends session some = omega (arith, ends_due session.stage session.left some)

all_changed : (n : ℕ) (f : Session → Session) (ss : List Session) (x : Session) → slice_get ss n ≡ Some x → all_due (changed_at n f ss) + due x ≡ all_due ss + due (f x)
all_changed n f [] x q = cc q
all_changed zero f (s ∷ ss) x q = at_same (cc q)
  where
    at_same : s ≡ x → all_due (changed_at 0 f (s ∷ ss)) + due x ≡ all_due (s ∷ ss) + due (f x)
    at_same same = rw same (omega arith)
all_changed (suc n) f (s ∷ ss) x q = omega (arith, all_changed n f ss x q)

due_within : (n : ℕ) (ss : List Session) (x : Session) → slice_get ss n ≡ Some x → due x ≤ all_due ss
due_within n [] x q = cc q
due_within zero (s ∷ ss) x q = at_same (cc q)
  where
    at_same : s ≡ x → due x ≤ all_due (s ∷ ss)
    at_same same = rw same (omega arith)
due_within (suc n) (s ∷ ss) x q = omega (arith, due_within n ss x q)

nodes_changed : (n limit : ℕ) (f : Session → Session) (ss : List Session) → ((x : Session) → (f x).node ≡ x.node) → AllByRecursion (λ (session : Session). session.node < limit) ss → AllByRecursion (λ (session : Session). session.node < limit) (changed_at n f ss)
nodes_changed n limit f [] same all = tt
nodes_changed zero limit f (s ∷ ss) same all = (rw (same s) all.0, all.1)
nodes_changed (suc n) limit f (s ∷ ss) same all = (all.0, nodes_changed n limit f ss same all.1)

changed_long : (n : ℕ) (f : Session → Session) (ss : List Session) → length (changed_at n f ss) ≡ length ss
changed_long n f [] = refl
changed_long zero f (s ∷ ss) = refl
changed_long (suc n) f (s ∷ ss) = ap suc (changed_long n f ss)

-- there is room for an entry of a line
pub has_room : (history : HistoryState) (latest n : ℕ) (nodes : List Node) (table : TableState) (x : Session) → IsControl history latest nodes table → slice_get table.sessions n ≡ Some x → 0 < due x → 0 < history.room
has_room history latest n nodes table x kept found some = omega (arith, kept.room, due_within n table.sessions x found)

-- no number wraps
pub has_number : (history : HistoryState) (latest n : ℕ) (nodes : List Node) (table : TableState) (x : Session) → IsControl history latest nodes table → slice_get table.sessions n ≡ Some x → 0 < due x → latest < 2 ^ 40
has_number history latest n nodes table x kept found some = omega (arith, kept.number, due_within n table.sessions x found)

-- what the control keeps to, behind an entry of a line that changed one session
pub stepped : (old new : HistoryState) (e : Entry) (latest now n : ℕ) (nodes after : List Node) (table next : TableState) (f : Session → Session) (x : Session) → IsControl old latest nodes table → slice_get table.sessions n ≡ Some x
    → next.sessions ≡ changed_at n f table.sessions → due (f x) < due x → ((y : Session) → (f y).node ≡ y.node) → now ≤ latest + 1 → length after ≡ length nodes → IsPushed old e new → IsControl new now after next
stepped old new e latest now n nodes after table next f x kept found changed less same low long pushed =
    let all = all_changed n f table.sessions x found in
    record {
      sessions = ap (λ (names : List (List ℕ)). length names) pushed.same_sessions ∙ kept.sessions ∙ sym (ap (λ (ss : List Session). length ss) changed ∙ changed_long n f table.sessions);
      room = rw changed (omega (arith, all, less, kept.room, pushed.room_used));
      number = rw changed (omega (arith, all, less, kept.number, low));
      nodes_are = rw (changed, long) (nodes_changed n (length nodes) f table.sessions same kept.nodes_are);
    }

pub some_due : (session : Session) → 0 < length session.left → 0 < due session
some_due session some = by_left session.stage session.left some
  where
    by_left : (stage : Stage) (left : List Line) → 0 < length left → 0 < line_due stage left + standing_due session.standing
    by_left stage [] some = absurd (omega (arith, some))
    by_left fresh (line ∷ lines) some = omega arith
    by_left begun (line ∷ lines) some = omega arith
    by_left locked (line ∷ lines) some = omega arith
    by_left done (line ∷ lines) some = omega arith

-- EACH CALL

pub due_begin : (own : Bool) (c : ℕ) (session : Session) → session.stage ≡ fresh → session.standing ≡ idle → 0 < length session.left → due (begins_at own c session) < due session
due_begin true c session stage none some = rw (stage, none) (by_left session.left some)
  where
    by_left : (left : List Line) → 0 < length left → line_due begun left + 1 < line_due fresh left + 0
    by_left [] some = absurd (omega (arith, some))
    by_left (line ∷ lines) some = omega arith
due_begin false c session stage none some = rw (stage, none) (by_left session.left some)
  where
    by_left : (left : List Line) → 0 < length left → line_due fresh (drop 1 left) + 1 < line_due fresh left + 0
    by_left [] some = absurd (omega (arith, some))
    by_left (line ∷ []) some = omega arith
    by_left (line ∷ (next ∷ lines)) some = omega arith

pub same_begin : (own : Bool) (c : ℕ) (session : Session) → (begins_at own c session).node ≡ session.node
same_begin true c session = refl
same_begin false c session = refl

standing_run : (f : Run → Run) (standing : Standing) → standing_due (on_run f standing) ≡ standing_due standing
standing_run f idle = refl
standing_run f lost = refl
standing_run f (running run) = refl

pub due_lock : (names : List Name) (session : Session) → IsUnlocked session.stage → 0 < length session.left → due (locks_more names session) < due session
due_lock names session stage some = omega (arith, by_stage session.stage session.left stage some, standing_run (holds_more names) session.standing)
  where
    by_stage : (stage : Stage) (left : List Line) → IsUnlocked stage → 0 < length left → line_due locked left < line_due stage left
    by_stage stage [] h some = absurd (omega (arith, some))
    by_stage fresh (line ∷ lines) h some = omega arith
    by_stage begun (line ∷ lines) h some = omega arith
    by_stage locked (line ∷ lines) h some = absurd h
    by_stage done (line ∷ lines) h some = absurd h

pub due_works : (f : Run → Run) (session : Session) → 0 < length session.left → due (ends_line (works f session)) < due session
due_works f session some = omega (arith, ends_due session.stage session.left some, standing_run f session.standing)

after_due : (cause : Refusal) (standing : Standing) → standing_due (after_refusal cause standing) ≤ standing_due standing
after_due cause idle = omega arith
after_due cause lost = by_told (tells_lost cause)
  where
    by_told : (b : Bool) → standing_due (if b then idle else lost) ≤ 0
    by_told true = omega arith
    by_told false = omega arith
after_due cause (running run) = by_own run.own
  where
    by_own : (b : Bool) → standing_due (if b then idle else running (record run { now = run.start })) ≤ 1
    by_own true = omega arith
    by_own false = omega arith

pub due_refuse : (cause : Refusal) (session : Session) → 0 < length session.left → due (refuses cause session) < due session
due_refuse cause session some = omega (arith, ends_due session.stage session.left some, after_due cause session.standing)

pub due_close : (session : Session) → runs session.standing ≡ true → due (ends_run session) < due session
due_close session h = omega (arith, by_standing session.standing h)
  where
    by_standing : (standing : Standing) → runs standing ≡ true → 0 < standing_due standing
    by_standing idle h = cc h
    by_standing lost h = cc h
    by_standing (running run) h = omega arith

done_due : (stage : Stage) (left : List Line) → IsOpen stage → 0 < length left → line_due done left < line_due stage left
done_due stage [] h some = absurd (omega (arith, some))
done_due fresh (line ∷ lines) h some = omega arith
done_due begun (line ∷ lines) h some = omega arith
done_due locked (line ∷ lines) h some = omega arith
done_due done (line ∷ lines) h some = absurd h

take_due : (own : Bool) (names : List Name) (run : Run) (session : Session) → IsOpen session.stage → 0 < length session.left
    → due (if own then record session { standing = running (creates_more names run); stage = done } else ends_line (record session { standing = running (keeps_work run) })) < line_due session.stage session.left + 1
take_due true names run session stage some = omega (arith, done_due session.stage session.left stage some)
take_due false names run session stage some = omega (arith, ends_due session.stage session.left some)

took_due : (names : List Name) (standing : Standing) (session : Session) (P : Run → Type 0) → IsRunning standing P → IsOpen session.stage → 0 < length session.left → due (took names standing session) < line_due session.stage session.left + standing_due standing
took_due names idle session P p stage some = absurd p
took_due names lost session P p stage some = absurd p
took_due names (running run) session P p stage some = take_due run.own names run session stage some

pub due_take : (names : List Name) (session : Session) (P : Run → Type 0) → IsRunning session.standing P → IsOpen session.stage → 0 < length session.left → due (takes names session) < due session
due_take names session P p stage some = took_due names session.standing session P p stage some

took_node : (names : List Name) (standing : Standing) (session : Session) → (took names standing session).node ≡ session.node
took_node names idle session = refl
took_node names lost session = refl
took_node names (running run) session = by_own run.own
  where
    by_own : (own : Bool) → (if own then record session { standing = running (creates_more names run); stage = done } else ends_line (record session { standing = running (keeps_work run) })).node ≡ session.node
    by_own true = refl
    by_own false = refl

pub same_take : (names : List Name) (session : Session) → (takes names session).node ≡ session.node
same_take names session = took_node names session.standing session

pub found_in : (a b : TableState) (n : ℕ) (x : Session) → a ≡ b → slice_get b.sessions n ≡ Some x → slice_get a.sessions n ≡ Some x
found_in a b n x same found = rw same found

-- a session whose transaction runs
pub record RunsHere (sessions : List Session) (place : ℕ) : Type 0 where
  pub session : Session
  pub found : slice_get sessions place ≡ Some session
  pub holds : runs session.standing ≡ true

pub runs_here : (sessions : List Session) (place : ℕ) → At place sessions (λ session. runs session.standing ≡ true) → RunsHere sessions place
runs_here sessions place p = at_session (slice_get sessions place) refl p
  where
    at_session : (o : Option Session) → slice_get sessions place ≡ o → IsSomeAnd o (λ session. runs session.standing ≡ true) → RunsHere sessions place
    at_session None is p = absurd p
    at_session (Some session) is p = record { session = session; found = is; holds = p }

pub runs_due : (session : Session) → runs session.standing ≡ true → 0 < due session
runs_due session h = omega (arith, due_close session h)

-- What each call of a step asks, and what an answered cause makes of the line.
use Rattle.std.specs.Prelude.{◌≡◌, refl, ◌<◌, ⊤, ℕ, ◌+◌, true, false, List, [], ◌∷◌, ◌++◌, None, Result, Ok, Err, IfErr, length}
use Rattle.std.proofs.Common.{ap, sym, ◌∙◌, subst, arith, inl, inr}
use Rattle.iq_base.specs.Shorts.{Name}
use Rattle.iq_base.specs.declared.refusals.Refusal.{Refusal}
use Rattle.iq_ast.specs.declared.statements.Select.{Select}
use Rattle.iq_ast.specs.declared.statements.Statement.{Statement}
use Rattle.iq_ast.specs.declared.statements.Statement.TheVariants as statements
use Rattle.iq_ast.specs.declared.statements.Write.{Write}
use Rattle.iq_history.specs.Placed.{IsPlacedRefusal}
use Rattle.iq_model.specs.declared.replies.Said.{Said}
use Rattle.iq_statements.specs.Named.{write_checks, query_checks}
use Rattle.iq_statements.specs.Statements.{names_of, created_by}
use Rattle.iq_replay.specs.State.{Session, idle, running, fresh, begun, locked, done, has_some, held_by}
use Rattle.iq_sessions.specs.Bare.{At}
use Rattle.iq_control.specs.Asked.{AtLine, AsksBegin, AsksLock, AsksTake, AsksEnd, HasHoldRoom, AreFree, is_own}
use Rattle.iq_control.specs.Control.{ControlState}
use Rattle.iq_control.specs.Changes as changes
use Rattle.iq_write.specs.Effects.{all_checks}
use Rattle.iq_memory.specs.declared.tables.MemoryTables.{MemoryTables}
use Rattle.iq_memory.specs.Holding.{Hold, OfHeld, IsCause}
use Rattle.iq_plex.specs.declared.plex.Plex.{Plex}
use Rattle.iq_plex.specs.Standing.{session_at, Serves}
use Rattle.iq_plex.specs.Doing.{Waits, Does, HasBegun, IsNamed, HasNames, HasSaid, HasAnswered, MayRefuse, CanRun}
use Rattle.iq_plex.proofs.Sessions.{at_line, at_one, of_one, bare_at}
use Rattle.iq_plex.proofs.Names.{some_names, few_names, all_held}
use Rattle.iq_plex.proofs.Causes.{memory_cause}
use Rattle.iq_plex.proofs.Serving.{begin_asks, lock_asks, lock_serves, take_asks, end_asks}
use Rattle.iq_plex.proofs.Stepping.{IsEarly, early_admitted, meaning_of, none_yet, locking, after_lock, check_refused, write_refused, query_refused, refused_again}

-- THE ONE SESSION IS THERE

there : (p : Plex) (session : Session) → Serves p session → 0 < length p.control.table.sessions
there p session h = rw (bare_at p session h) (omega arith)

pub waiting_there : (p : Plex) (l : ℕ) (st : Statement) → Waits p l st → 0 < length p.control.table.sessions
waiting_there p l st w = there p (session_at idle fresh None (w.line ∷ w.rest) w.replies) w.between

pub named_there : (p : Plex) (l : ℕ) (write : Write) → Does p l (statements.Write write) begun (IsNamed (statements.Write write)) → 0 < length p.control.table.sessions
named_there p l write d = there p (session_at (running d.run) begun d.told (d.line ∷ d.rest) d.replies) d.serves

-- WHAT CALLS ASK

pub asks_begin : (p : Plex) (l : ℕ) (st : Statement) → Waits p l st → is_own st ≡ true → IsEarly p st None → AtLine p.control 0 l (AsksBegin p.control true)
asks_begin p l st w own early =
    at_line p idle fresh None w.line w.rest w.replies l st (AsksBegin p.control true) w.between w.is (begin_asks p w.line w.rest w.replies st own (early_admitted p l st w early))

pub asks_lock : (p : Plex) (l : ℕ) (write : Write) (names : List Name) → Does p l (statements.Write write) begun (IsNamed (statements.Write write)) → names ≡ names_of write → AtLine p.control 0 l (AsksLock names)
asks_lock p l write names d are =
    at_line p (running d.run) begun d.told d.line d.rest d.replies l (statements.Write write) (AsksLock names) d.serves d.is
    (lock_asks p d.run d.told d.line d.rest d.replies (statements.Write write) names d.serves tt are (ap has_some are ∙ some_names write))

pub asks_room : (p : Plex) (l : ℕ) (write : Write) (names : List Name) → Does p l (statements.Write write) begun (IsNamed (statements.Write write)) → names ≡ names_of write → At 0 p.control.table.sessions (HasHoldRoom names)
asks_room p l write names d are =
    let session = session_at (running d.run) begun d.told (d.line ∷ d.rest) d.replies in
    let none = none_yet p d.run d.told (d.line ∷ d.rest) d.replies d.serves in
    at_one p session (HasHoldRoom names) d.serves (rw (none, are) (omega (arith, few_names write)))

pub asks_take : (p : Plex) (l : ℕ) (write : Write) (created : List Name) → Does p l (statements.Write write) locked (HasNames p (statements.Write write)) → CanRun write → created ≡ created_by write → AtLine p.control 0 l (AsksTake created)
asks_take p l write created d can are =
    at_line p (running d.run) locked d.told d.line d.rest d.replies l (statements.Write write) (AsksTake created) d.serves d.is
    (take_asks d.run locked d.told (d.line ∷ d.rest) d.replies (statements.Write write) created tt (meaning_of write can) tt (rw d.holds.held (all_held write)) are)

pub asks_answer : (p : Plex) (l : ℕ) (select : Select) → Does p l (statements.Select select) begun HasBegun → AtLine p.control 0 l (AsksTake [])
asks_answer p l select d =
    at_line p (running d.run) begun d.told d.line d.rest d.replies l (statements.Select select) (AsksTake []) d.serves d.is
    (take_asks d.run begun d.told (d.line ∷ d.rest) d.replies (statements.Select select) [] tt tt tt refl refl)

pub asks_commit : (p : Plex) (l : ℕ) (write : Write) (what : Said) → Does p l (statements.Write write) done (HasSaid p what) → AtLine p.control 0 l (AsksEnd true)
asks_commit p l write what d =
    at_line p (running d.run) done d.told d.line d.rest d.replies l (statements.Write write) (AsksEnd true) d.serves d.is
    (end_asks d.run true d.told (d.line ∷ d.rest) d.replies (statements.Write write) d.serves.alone.own d.holds.held)

pub asks_end : (p : Plex) (l : ℕ) (select : Select) (what : Said) → Does p l (statements.Select select) done (HasAnswered what) → AtLine p.control 0 l (AsksEnd false)
asks_end p l select what d =
    at_line p (running d.run) done d.told d.line d.rest d.replies l (statements.Select select) (AsksEnd false) d.serves d.is
    (end_asks d.run false d.told (d.line ∷ d.rest) d.replies (statements.Select select) d.serves.alone.own (ap has_some d.holds.held))

pub asks_refuse : (p : Plex) (l : ℕ) (cause : Refusal) → MayRefuse p l cause → AtLine p.control 0 l (λ session statement. ⊤)
asks_refuse p l cause m = at_line p m.standing m.stage m.told m.line m.rest m.replies l m.st (λ session statement. ⊤) m.serves m.is tt

pub asks_placed : (p : Plex) (l : ℕ) (cause : Refusal) → MayRefuse p l cause → IsPlacedRefusal (length p.control.table.sessions) cause
asks_placed p l cause m = rw (bare_at p (session_at m.standing m.stage m.told (m.line ∷ m.rest) m.replies) m.serves) m.placed

-- the room that is made is for the names that are held, and one more
pub noted_as : (p : Plex) (l : ℕ) (write : Write) (names : List Name) (c : ControlState) → Does p l (statements.Write write) begun (IsNamed (statements.Write write)) → names ≡ names_of write → At 0 p.control.table.sessions (AreFree p.control 0 names)
    → At 0 (changes.locked_more 0 l names p.control).table.sessions (λ session. c ≡ changes.noted 0 (length (held_by session.standing) + 1) (changes.locked_more 0 l names p.control))
    → c ≡ changes.noted 0 (length (names_of write) + 1) (changes.locked_more 0 l names p.control)
noted_as p l write names c d are free noted =
    let more = changes.locked_more 0 l names p.control in
    let session = session_at (running (locking d.run names)) locked d.told (d.line ∷ d.rest) d.replies in
    let serves = lock_serves p d.run d.told d.line d.rest d.replies l (statements.Write write) names d.serves d.is tt d.admitted d.holds are (ap has_some are ∙ some_names write) free in
    let is = of_one (after_lock p l names) session (λ session. c ≡ changes.noted 0 (length (held_by session.standing) + 1) more) serves noted in
    let none = none_yet p d.run d.told (d.line ∷ d.rest) d.replies d.serves in
    is ∙ ap (λ (ns : List Name). changes.noted 0 (length ns + 1) more) (ap (λ (held : List Name). held ++ names) none ∙ are)

-- CAUSES OVER TABLES

pub check_cause : (p : Plex) (l : ℕ) (write : Write) (cause : Refusal) → Does p l (statements.Write write) begun HasBegun → ((n : ℕ) → IsPlacedRefusal n cause) → IsCause p.tables (write_checks write) cause → MayRefuse p l cause
check_cause p l write cause d placed (inl memory) =
    subst (MayRefuse p l) (sym memory) (memory_cause p (running d.run) begun d.told d.line d.rest d.replies l (statements.Write write) d.serves d.is tt)
check_cause p l write cause d placed (inr found) = check_refused p l write cause d (placed 1) found

pub check_refuses : (p : Plex) (l : ℕ) (write : Write) (result : Result Unit Refusal) → Does p l (statements.Write write) begun HasBegun → IfErr result (λ e. (n : ℕ) → IsPlacedRefusal n e) → IfErr result (IsCause p.tables (write_checks write)) → IfErr result (MayRefuse p l)
check_refuses p l write (Ok u) d placed is = tt
check_refuses p l write (Err e) d placed is = check_cause p l write e d placed is

write_first : (p : Plex) (l : ℕ) (write : Write) (cause : Refusal) → Does p l (statements.Write write) locked (HasNames p (statements.Write write)) → ((n : ℕ) → IsPlacedRefusal n cause) → IsCause p.tables (all_checks write) cause → MayRefuse p l cause
write_first p l write cause d placed (inl memory) =
    subst (MayRefuse p l) (sym memory) (memory_cause p (running d.run) locked d.told d.line d.rest d.replies l (statements.Write write) d.serves d.is tt)
write_first p l write cause d placed (inr found) = write_refused p l write cause d (placed 1) found

pub write_cause : (p : Plex) (t : MemoryTables) (l : ℕ) (write : Write) (cause : Refusal) → Does p l (statements.Write write) locked (HasNames p (statements.Write write)) → ((n : ℕ) → IsPlacedRefusal n cause) → IsCause p.tables (all_checks write) cause → OfHeld p.tables (Hold t)
    → MayRefuse (record { control = p.control; tables = t }) l cause
write_cause p t l write cause d placed is same = refused_again p t l cause (write_first p l write cause d placed is) same

query_first : (p : Plex) (l : ℕ) (select : Select) (cause : Refusal) → Does p l (statements.Select select) begun HasBegun → ((n : ℕ) → IsPlacedRefusal n cause) → IsCause p.tables (query_checks select) cause → MayRefuse p l cause
query_first p l select cause d placed (inl memory) =
    subst (MayRefuse p l) (sym memory) (memory_cause p (running d.run) begun d.told d.line d.rest d.replies l (statements.Select select) d.serves d.is tt)
query_first p l select cause d placed (inr found) = query_refused p l select cause d (placed 1) found

pub query_cause : (p : Plex) (t : MemoryTables) (l : ℕ) (select : Select) (cause : Refusal) → Does p l (statements.Select select) begun HasBegun → ((n : ℕ) → IsPlacedRefusal n cause) → IsCause p.tables (query_checks select) cause → OfHeld p.tables (Hold t)
    → MayRefuse (record { control = p.control; tables = t }) l cause
query_cause p t l select cause d placed is same = refused_again p t l cause (query_first p l select cause d placed is) same

-- What each step of a line does.
use Rattle.std.specs.Prelude.{◌≡◌, refl, ◌≤◌, ℕ, ◌+◌, true, false, List, [], ◌∷◌, ◌++◌, Option, Some, None, length, slice_set, slice_index_or}
use Rattle.std.proofs.Common.{ap, sym, ◌∙◌, subst, arith, length-append}
use Rattle.iq_base.specs.Shorts.{Name}
use Rattle.iq_base.specs.declared.refusals.Refusal.{Refusal}
use Rattle.iq_ast.specs.declared.statements.Statement.{Statement}
use Rattle.iq_ast.specs.declared.statements.Statement.TheVariants as statements
use Rattle.iq_ast.specs.declared.statements.Write.{Write}
use Rattle.iq_ast.specs.declared.statements.Write.TheVariants as writes
use Rattle.iq_ast.specs.declared.statements.Select.{Select}
use Rattle.iq_base.specs.declared.refusals.Refusal.TheVariants as refusals
use Rattle.std.specs.Option.{option_or}
use Rattle.iq_history.specs.Placed.{IsPlacedRefusal}
use Rattle.iq_model.specs.declared.answers.Answer.{Answer}
use Rattle.iq_model.specs.declared.replies.Reply.{Reply}
use Rattle.iq_model.specs.declared.replies.Said.{Said}
use Rattle.iq_model.specs.declared.replies.Said.TheVariants as said
use Rattle.iq_model.specs.declared.scripts.Line.{Line}
use Rattle.iq_statements.specs.Checks.{first_refusal}
use Rattle.iq_statements.specs.Tables.{Database}
use Rattle.iq_statements.specs.Named.{write_checks, query_checks}
use Rattle.iq_statements.specs.Room.{write_room}
use Rattle.iq_statements.specs.Effects.{effect, count}
use Rattle.iq_statements.specs.Answers.{answer}
use Rattle.iq_statements.specs.Statements.{names_of, created_by, HasWriteMeaning}
use Rattle.iq_replay.specs.State.{Session, idle, running, Run, Work, fresh, begun, locked, done, has_some, not_held}
use Rattle.iq_replay.specs.Said.{commit_said, numbered, write_said}
use Rattle.iq_replay.specs.Changes.{begin_run, begin_work, work_after}
use Rattle.iq_sessions.specs.Bare.{bare_session, bare_run, At}
use Rattle.iq_sessions.specs.Table.{TableState, CommitsAt, AsksCommit, noted_at, names_refusal}
use Rattle.iq_replay.specs.Refusals.{wanted}
use Rattle.iq_control.specs.Asked.{is_own, IsSnapshot, IsAdmitted, IsNotAdmitted, AreFree, AreNotFree, AreRefused, AreNamed, halted_found, early_checks}
use Rattle.iq_control.specs.Changes as changes
use Rattle.iq_control.proofs.Early.{or_none, first_more}
use Rattle.iq_control.proofs.Lines.{line_at}
use Rattle.iq_control.proofs.Possible.{not_admitted, names_refused}
use Rattle.iq_control.proofs.Admitted.{named_line}
use Rattle.iq_memory.specs.declared.tables.MemoryTables.{MemoryTables}
use Rattle.iq_memory.specs.Holding.{Hold}
use Rattle.iq_plex.specs.declared.plex.Plex.{Plex}
use Rattle.iq_plex.specs.Standing.{state_of, session_at, seen_by, Serves, HasWorked}
use Rattle.iq_plex.specs.Doing.{Waits, Does, HasBegun, IsNamed, HasNames, HasSaid, HasAnswered, GoesOn, Ends, MayRefuse, IsToldBy, CanRun}
use Rattle.iq_plex.proofs.Sessions.{at_line, at_one, of_one, of_line, bare_at}
use Rattle.iq_plex.proofs.Goes.{goes_from, ends_from, admitted_alone, admitted_within}
use Rattle.iq_plex.proofs.Names.{some_names, all_held, none_held}
use Rattle.iq_plex.proofs.Merges.{write_merges}
use Rattle.iq_plex.proofs.Causes.{named_cause, fit_cause, memory_cause, names_placed, early_placed}
use Rattle.iq_plex.proofs.Serving.{begin_serves, lock_serves, noted_serves, take_serves, commit_serves, end_serves, refuse_serves}

-- BEGIN

abbrev pub IsEarly : Plex → Statement → Option Refusal → Type 0
IsEarly p st found = At 0 p.control.table.sessions (λ session. found ≡ first_refusal (early_checks p.control.nodes session st))

abbrev pub after_begin : Plex → ℕ → ℕ → Plex
after_begin p l c = record { control = changes.begun 0 l true c p.control; tables = p.tables }

pub early_admitted : (p : Plex) (l : ℕ) (st : Statement) → (w : Waits p l st) → IsEarly p st None → IsAdmitted p.control.nodes (bare_session (session_at idle fresh None (w.line ∷ w.rest) w.replies)) st
early_admitted p l st w early = sym (of_one p (session_at idle fresh None (w.line ∷ w.rest) w.replies) (λ session. None ≡ first_refusal (early_checks p.control.nodes session st)) w.between early)

pub begin_does : (p : Plex) (l c : ℕ) (st : Statement) → Waits p l st → is_own st ≡ true → IsEarly p st None → At 0 p.control.table.sessions (λ session. IsSnapshot p.control session c) → Does (after_begin p l c) l st begun HasBegun
begin_does p l c st w own early snapshot =
    let admitted = early_admitted p l st w early in
    record {
      run = begin_run true c (state_of p.control).newest;
      told = None;
      line = w.line;
      rest = w.rest;
      replies = w.replies;
      serves = begin_serves p w.line w.rest w.replies l c st w.between w.is own admitted snapshot;
      is = w.is;
      admitted = admitted_alone p.control.nodes (begin_run true c (state_of p.control).newest) begun None (w.line ∷ w.rest) w.replies st refl admitted;
      holds = tt;
    }

pub begin_goes : (p : Plex) (l c : ℕ) (st : Statement) → Waits p l st → is_own st ≡ true → IsEarly p st None → At 0 p.control.table.sessions (λ session. IsSnapshot p.control session c) → GoesOn p (after_begin p l c)
begin_goes p l c st w own early snapshot =
    goes_from p (after_begin p l c) idle (running (begin_run true c (state_of p.control).newest)) fresh begun None None (w.line ∷ w.rest) w.replies refl w.between.at
    (begin_serves p w.line w.rest w.replies l c st w.between w.is own (early_admitted p l st w early) snapshot).at

pub begin_refused : (p : Plex) (l : ℕ) (st : Statement) (cause : Refusal) → Waits p l st → IsEarly p st (Some cause) → MayRefuse p l cause
begin_refused p l st cause w early =
    let session = session_at idle fresh None (w.line ∷ w.rest) w.replies in
    let found = sym (of_one p session (λ session. Some cause ≡ first_refusal (early_checks p.control.nodes session st)) w.between early) in
    let asked = at_line p idle fresh None w.line w.rest w.replies l st (IsNotAdmitted p.control cause) w.between w.is (tt, found) in
    record {
      standing = idle;
      stage = fresh;
      told = None;
      line = w.line;
      rest = w.rest;
      replies = w.replies;
      st = st;
      serves = w.between;
      is = w.is;
      open_still = tt;
      can = not_admitted p.control (state_of p.control) 0 l cause w.between.follows.agrees (line_at p.control (state_of p.control) 0 l (IsNotAdmitted p.control cause) w.between.follows.agrees asked);
      placed = early_placed p.control.nodes (bare_session session) st cause found;
    }

-- TESTS

-- as a line began, its transaction sees the tables that stand
start_begun : (p : Plex) (run : Run) (told : Option Said) (left : List Line) (replies : List Reply) → Serves p (session_at (running run) begun told left replies) → run.now.seen ≡ run.start.seen
start_begun p run told left replies h = rw (h.alone.works, h.alone.start) refl

start_locked : (p : Plex) (run : Run) (told : Option Said) (left : List Line) (replies : List Reply) → Serves p (session_at (running run) locked told left replies) → run.now.seen ≡ run.start.seen
start_locked p run told left replies h = rw h.alone.start h.alone.works.seen

pub check_does : (p : Plex) (l : ℕ) (write : Write) → Does p l (statements.Write write) begun HasBegun → ((db : Database) → Hold p.tables db → first_refusal (write_checks write db) ≡ None) → Does p l (statements.Write write) begun (IsNamed (statements.Write write))
check_does p l write d granted = record {
  run = d.run;
  told = d.told;
  line = d.line;
  rest = d.rest;
  replies = d.replies;
  serves = d.serves;
  is = d.is;
  admitted = d.admitted;
  holds = granted d.run.start.seen (subst (Hold p.tables) (start_begun p d.run d.told (d.line ∷ d.rest) d.replies d.serves) d.serves.held);
}

pub check_refused : (p : Plex) (l : ℕ) (write : Write) (cause : Refusal) → Does p l (statements.Write write) begun HasBegun → IsPlacedRefusal 1 cause → ((db : Database) → Hold p.tables db → first_refusal (write_checks write db) ≡ Some cause) → MayRefuse p l cause
check_refused p l write cause d placed found =
    named_cause p d.run begun d.told d.line d.rest d.replies l (statements.Write write) cause d.serves d.is tt d.admitted placed
    (found d.run.start.seen (subst (Hold p.tables) (start_begun p d.run d.told (d.line ∷ d.rest) d.replies d.serves) d.serves.held))

-- LOCKS

abbrev pub after_lock : Plex → ℕ → List Name → Plex
after_lock p l names = record { control = changes.locked_more 0 l names p.control; tables = p.tables }

abbrev pub after_note : Plex → ℕ → Plex
after_note p n = record { control = changes.noted 0 n p.control; tables = p.tables }

pub none_yet : (p : Plex) (run : Run) (told : Option Said) (left : List Line) (replies : List Reply) → Serves p (session_at (running run) begun told left replies) → run.now.held ≡ []
none_yet p run told left replies h = rw h.alone.works refl

set_here : (ns : List ℕ) (n : ℕ) → length ns ≡ 1 → slice_index_or (slice_set ns 0 n) 0 0 ≡ n
set_here [] n one = absurd (omega (arith, one))
set_here (x ∷ ns) n one = refl

-- the transaction with the names of a write
abbrev pub locking : Run → List Name → Run
locking run names = record run { now = record (run.now) { held = run.now.held ++ names } }

locked_serves : (p : Plex) (l n : ℕ) (write : Write) (names : List Name) → (d : Does p l (statements.Write write) begun (IsNamed (statements.Write write))) → names ≡ names_of write → At 0 p.control.table.sessions (AreFree p.control 0 names)
    → Serves (after_note (after_lock p l names) n) (session_at (running (locking d.run names)) locked d.told (d.line ∷ d.rest) d.replies)
locked_serves p l n write names d are free =
    noted_serves (after_lock p l names) n (session_at (running (locking d.run names)) locked d.told (d.line ∷ d.rest) d.replies)
    (lock_serves p d.run d.told d.line d.rest d.replies l (statements.Write write) names d.serves d.is tt d.admitted d.holds are (ap has_some are ∙ some_names write) free)

pub lock_does : (p : Plex) (l n : ℕ) (write : Write) (names : List Name) → Does p l (statements.Write write) begun (IsNamed (statements.Write write)) → names ≡ names_of write → At 0 p.control.table.sessions (AreFree p.control 0 names) → n ≡ length (names_of write) + 1
    → Does (after_note (after_lock p l names) n) l (statements.Write write) locked (HasNames (after_note (after_lock p l names) n) (statements.Write write))
lock_does p l n write names d are free room =
    let st = statements.Write write in
    record {
      run = locking d.run names;
      told = d.told;
      line = d.line;
      rest = d.rest;
      replies = d.replies;
      serves = locked_serves p l n write names d are free;
      is = d.is;
      admitted = admitted_alone p.control.nodes (locking d.run names) locked d.told (d.line ∷ d.rest) d.replies st d.serves.alone.own (admitted_within p.control.nodes d.run begun d.told (d.line ∷ d.rest) d.replies st d.serves.alone.own d.admitted);
      holds = record {
        named = d.holds;
        held = ap (λ (ns : List Name). ns ++ names) (none_yet p d.run d.told (d.line ∷ d.rest) d.replies d.serves) ∙ are;
        room = omega (arith, set_here p.control.table.noted n d.serves.counted, room);
      };
    }

-- the line goes on where its names are locked, with room for its commit or not
pub lock_goes : (p : Plex) (l : ℕ) (write : Write) (names : List Name) → Does p l (statements.Write write) begun (IsNamed (statements.Write write)) → names ≡ names_of write → At 0 p.control.table.sessions (AreFree p.control 0 names) → GoesOn p (after_lock p l names)
lock_goes p l write names d are free =
    goes_from p (after_lock p l names) (running d.run) (running (locking d.run names)) begun locked d.told d.told (d.line ∷ d.rest) d.replies refl d.serves.at
    (lock_serves p d.run d.told d.line d.rest d.replies l (statements.Write write) names d.serves d.is tt d.admitted d.holds are (ap has_some are ∙ some_names write) free).at

pub note_goes : (p : Plex) (l n : ℕ) (write : Write) (names : List Name) → Does p l (statements.Write write) begun (IsNamed (statements.Write write)) → names ≡ names_of write → At 0 p.control.table.sessions (AreFree p.control 0 names) → GoesOn p (after_note (after_lock p l names) n)
note_goes p l n write names d are free =
    goes_from p (after_note (after_lock p l names) n) (running d.run) (running (locking d.run names)) begun locked d.told d.told (d.line ∷ d.rest) d.replies refl d.serves.at (locked_serves p l n write names d are free).at

-- want of memory for that room
pub note_refused : (p : Plex) (l : ℕ) (write : Write) (names : List Name) → Does p l (statements.Write write) begun (IsNamed (statements.Write write)) → names ≡ names_of write → At 0 p.control.table.sessions (AreFree p.control 0 names) → MayRefuse (after_lock p l names) l refusals.NoMemory
note_refused p l write names d are free =
    memory_cause (after_lock p l names) (running (locking d.run names)) locked d.told d.line d.rest d.replies l (statements.Write write)
    (lock_serves p d.run d.told d.line d.rest d.replies l (statements.Write write) names d.serves d.is tt d.admitted d.holds are (ap has_some are ∙ some_names write) free) d.is tt

-- names that aren't free
pub lock_refused : (p : Plex) (l : ℕ) (write : Write) (names : List Name) (cause : Refusal) → Does p l (statements.Write write) begun (IsNamed (statements.Write write)) → names ≡ names_of write → At 0 p.control.table.sessions (AreNotFree p.control 0 names cause) → MayRefuse p l cause
lock_refused p l write names cause d are refused =
    let st = statements.Write write in
    let session = session_at (running d.run) begun d.told (d.line ∷ d.rest) d.replies in
    let found : names_refusal p.control.table.sessions p.control.table.wrote 0 d.run.snapshot names ≡ Some cause =
    rw (← ap (λ (o : Option Refusal). option_or o (names_refusal p.control.table.sessions p.control.table.wrote 0 d.run.snapshot names)) (ap halted_found d.serves.not_halted)) (of_one p session (AreNotFree p.control 0 names cause) d.serves refused) in
    let want : wanted st (bare_run d.run) ≡ names = ap (λ (held : List Name). not_held held (names_of write)) (none_yet p d.run d.told (d.line ∷ d.rest) d.replies d.serves) ∙ none_held (names_of write) ∙ sym are in
    let asked = at_line p (running d.run) begun d.told d.line d.rest d.replies l st (AreRefused p.control 0 cause) d.serves d.is (record { stage = tt; cause_is = rw want found }) in
    let granted = named_line p.control (state_of p.control) 0 l d.serves.follows.agrees (at_line p (running d.run) begun d.told d.line d.rest d.replies l st (IsAdmitted p.control.nodes) d.serves d.is d.admitted) (of_line p (running d.run) begun d.told d.line d.rest d.replies l st AreNamed d.serves d.is d.holds) in
    record {
      standing = running d.run;
      stage = begun;
      told = d.told;
      line = d.line;
      rest = d.rest;
      replies = d.replies;
      st = st;
      serves = d.serves;
      is = d.is;
      open_still = tt;
      can = names_refused p.control (state_of p.control) 0 l cause d.serves.follows.agrees (line_at p.control (state_of p.control) 0 l (AreRefused p.control 0 cause) d.serves.follows.agrees asked) d.serves.not_halted granted;
      placed = subst (λ (n : ℕ). IsPlacedRefusal n cause) (ap length (bare_at p session d.serves)) (names_placed p.control.table.sessions p.control.table.wrote 0 d.run.snapshot names cause found);
    }

-- EFFECTS

abbrev pub after_take : Plex → ℕ → List Name → MemoryTables → Plex
after_take p l created t = record { control = changes.took 0 l created p.control; tables = t }

work_made : (work : Work) (newest : Database) (held created : List Name) → work.seen ≡ newest → work.held ≡ held → work.created ≡ created → work ≡ record { seen = newest; held = held; created = created }
work_made work newest held created a b c = rw (← a, ← b, ← c) refl

written_worked : (newest : Database) (run : Run) (write : Write) → run.now.seen ≡ newest → run.now.created ≡ [] → run.now.held ≡ names_of write → CanRun write → first_refusal (write_checks write newest) ≡ None
    → HasWorked newest (record run { now = work_after (statements.Write write) run.now })
written_worked newest run write seen created held can granted =
    let now : run.now ≡ record { seen = newest; held = names_of write; created = [] } = work_made run.now newest (names_of write) [] seen held created in
    record {
      unchanged = λ none. let clash : true ≡ false = sym (ap has_some held ∙ some_names write) ∙ none in cc clash;
      commits = λ some. rw now (write_merges write newest can.named granted);
    }

-- what a write says is what it is told by
said_told : (write : Write) (rows : ℕ) (db : Database) (what : Said) → rows ≡ count write db → IsToldBy write rows None what → write_said write db ≡ what
said_told (writes.CreateTable name schema) rows db what are told = sym told
said_told (writes.DropTable name) rows db what are told = sym told
said_told (writes.CreateIndex name kind table column second) rows db what are told = absurd told
said_told (writes.DropIndex table name) rows db what are told = absurd told
said_told (writes.Insert table values) rows db what are told = sym (told ∙ ap (λ (n : ℕ). said.Inserted n None) are)
said_told (writes.Load table values text) rows db what are told = absurd told
said_told (writes.Delete table cond) rows db what are told = absurd told
said_told (writes.Update table changes cond) rows db what are told = absurd told

few_created : (write : Write) → length (created_by write) ≤ 1
few_created (writes.CreateTable name schema) = omega arith
few_created (writes.DropTable name) = omega arith
few_created (writes.CreateIndex name kind table column second) = omega arith
few_created (writes.DropIndex table name) = omega arith
few_created (writes.Insert table values) = omega arith
few_created (writes.Load table values text) = omega arith
few_created (writes.Delete table cond) = omega arith
few_created (writes.Update table changes cond) = omega arith

pub meaning_of : (write : Write) → CanRun write → HasWriteMeaning write
meaning_of (writes.CreateTable name schema) can = tt
meaning_of (writes.DropTable name) can = tt
meaning_of (writes.CreateIndex name kind table column second) can = absurd can.named
meaning_of (writes.DropIndex table name) can = absurd can.named
meaning_of (writes.Insert table values) can = tt
meaning_of (writes.Load table values text) can = absurd can.named
meaning_of (writes.Delete table cond) can = absurd can.named
meaning_of (writes.Update table changes cond) can = absurd can.named

-- the tests of a write, those of room with them, over the tables as the line began
locked_granted : (p : Plex) (l : ℕ) (write : Write) → (d : Does p l (statements.Write write) locked (HasNames p (statements.Write write))) → ((db : Database) → Hold p.tables db → first_refusal (write_checks write db ++ write_room write db) ≡ None)
    → first_refusal (write_checks write d.run.start.seen ++ write_room write d.run.start.seen) ≡ None
locked_granted p l write d granted = granted d.run.start.seen (subst (Hold p.tables) (start_locked p d.run d.told (d.line ∷ d.rest) d.replies d.serves) d.serves.held)

pub write_serves : (p : Plex) (t : MemoryTables) (l : ℕ) (write : Write) (created : List Name) → (d : Does p l (statements.Write write) locked (HasNames p (statements.Write write))) → CanRun write → ((db : Database) → Hold p.tables db → first_refusal (write_checks write db ++ write_room write db) ≡ None)
    → ((db : Database) → Hold p.tables db → Hold t (effect write db)) → created ≡ created_by write
    → Serves (after_take p l created t) (session_at (running (record (d.run) { now = work_after (statements.Write write) d.run.now })) done (Some (write_said write d.run.now.seen)) (d.line ∷ d.rest) d.replies)
write_serves p t l write created d can granted ok are =
    let works = d.serves.alone.works in
    let start = locked_granted p l write d granted in
    let names = or_none (first_refusal (write_checks write d.run.start.seen)) (first_refusal (write_room write d.run.start.seen)) (sym (first_more (write_checks write d.run.start.seen) (write_room write d.run.start.seen)) ∙ start) in
    let newest : d.run.start.seen ≡ (state_of p.control).newest = ap (λ (work : Work). work.seen) d.serves.alone.start in
    take_serves p t d.run locked d.told d.line d.rest d.replies l (statements.Write write) created d.serves d.is tt (meaning_of write can) tt (rw d.holds.held (all_held write)) are d.admitted start
    (written_worked (state_of p.control).newest d.run write works.seen works.created d.holds.held can (subst (λ (db : Database). first_refusal (write_checks write db) ≡ None) newest names.0))
    (ok d.run.now.seen d.serves.held)

pub write_does : (p : Plex) (t : MemoryTables) (l rows : ℕ) (write : Write) (created : List Name) (what : Said) → Does p l (statements.Write write) locked (HasNames p (statements.Write write)) → CanRun write → ((db : Database) → Hold p.tables db → first_refusal (write_checks write db ++ write_room write db) ≡ None)
    → ((db : Database) → Hold p.tables db → Hold t (effect write db)) → created ≡ created_by write → ((db : Database) → Hold p.tables db → rows ≡ count write db) → IsToldBy write rows None what
    → Does (after_take p l created t) l (statements.Write write) done (HasSaid (after_take p l created t) what)
write_does p t l rows write created what d can granted ok are counted told =
    let st = statements.Write write in
    let run' : Run = record (d.run) { now = work_after st d.run.now } in
    record {
      run = run';
      told = Some (write_said write d.run.now.seen);
      line = d.line;
      rest = d.rest;
      replies = d.replies;
      serves = write_serves p t l write created d can granted ok are;
      is = d.is;
      admitted = admitted_alone p.control.nodes run' done (Some (write_said write d.run.now.seen)) (d.line ∷ d.rest) d.replies st d.serves.alone.own (admitted_within p.control.nodes d.run locked d.told (d.line ∷ d.rest) d.replies st d.serves.alone.own d.admitted);
      holds = record {
        said = ap Some (said_told write rows d.run.now.seen what (counted d.run.now.seen d.serves.held) told);
        held = ap has_some d.holds.held ∙ some_names write;
        room = rw (d.holds.held, d.serves.alone.works.created) (omega (arith, length-append (names_of write) (created_by write), few_created write, d.holds.room));
      };
    }

pub write_goes : (p : Plex) (t : MemoryTables) (l : ℕ) (write : Write) (created : List Name) → Does p l (statements.Write write) locked (HasNames p (statements.Write write)) → CanRun write → ((db : Database) → Hold p.tables db → first_refusal (write_checks write db ++ write_room write db) ≡ None)
    → ((db : Database) → Hold p.tables db → Hold t (effect write db)) → created ≡ created_by write → GoesOn p (after_take p l created t)
write_goes p t l write created d can granted ok are =
    goes_from p (after_take p l created t) (running d.run) (running (record (d.run) { now = work_after (statements.Write write) d.run.now })) locked done d.told (Some (write_said write d.run.now.seen)) (d.line ∷ d.rest) d.replies refl d.serves.at
    (write_serves p t l write created d can granted ok are).at

pub write_refused : (p : Plex) (l : ℕ) (write : Write) (cause : Refusal) → Does p l (statements.Write write) locked (HasNames p (statements.Write write)) → IsPlacedRefusal 1 cause → ((db : Database) → Hold p.tables db → first_refusal (write_checks write db ++ write_room write db) ≡ Some cause) → MayRefuse p l cause
write_refused p l write cause d placed found =
    fit_cause p d.run locked d.told d.line d.rest d.replies l (statements.Write write) cause d.serves d.is tt d.admitted placed (rw d.holds.held (all_held write))
    (found d.run.start.seen (subst (Hold p.tables) (start_locked p d.run d.told (d.line ∷ d.rest) d.replies d.serves) d.serves.held))

-- tables that stand for the same stay in the place of others
pub held_again : (p : Plex) (t : MemoryTables) (session : Session) → Serves p session → ((db : Database) → Hold p.tables db → Hold t db) → Serves (record { control = p.control; tables = t }) session
held_again p t session h same = record {
  follows = h.follows;
  at = h.at;
  alone = h.alone;
  no_step = h.no_step;
  not_halted = h.not_halted;
  still = h.still;
  home = h.home;
  counted = h.counted;
  held = same (seen_by (state_of p.control).newest session.standing) h.held;
}

pub refused_again : (p : Plex) (t : MemoryTables) (l : ℕ) (cause : Refusal) → MayRefuse p l cause → ((db : Database) → Hold p.tables db → Hold t db) → MayRefuse (record { control = p.control; tables = t }) l cause
refused_again p t l cause m same = record {
  standing = m.standing;
  stage = m.stage;
  told = m.told;
  line = m.line;
  rest = m.rest;
  replies = m.replies;
  st = m.st;
  serves = held_again p t (session_at m.standing m.stage m.told (m.line ∷ m.rest) m.replies) m.serves same;
  is = m.is;
  open_still = m.open_still;
  can = m.can;
  placed = m.placed;
}

-- QUERIES

query_worked : (newest : Database) (run : Run) (select : Select) → run.now ≡ begin_work newest → HasWorked newest (record run { now = work_after (statements.Select select) run.now })
query_worked newest run select now = record {
  unchanged = λ none. rw now refl;
  commits = λ some. let clash : false ≡ true = sym (ap has_some (ap (λ (work : Work). work.held) now)) ∙ some in cc clash;
}

pub query_serves : (p : Plex) (t : MemoryTables) (l : ℕ) (select : Select) (told : Answer) → (d : Does p l (statements.Select select) begun HasBegun) → ((db : Database) → Hold p.tables db → first_refusal (query_checks select db) ≡ None)
    → ((db : Database) → Hold p.tables db → Hold t db) → ((db : Database) → Hold p.tables db → told ≡ answer select db)
    → Serves (after_take p l [] t) (session_at (running (record (d.run) { now = work_after (statements.Select select) d.run.now })) done (Some (said.Answer told)) (d.line ∷ d.rest) d.replies)
query_serves p t l select told d granted same is =
    let start = granted d.run.start.seen (subst (Hold p.tables) (start_begun p d.run d.told (d.line ∷ d.rest) d.replies d.serves) d.serves.held) in
    rw (is d.run.now.seen d.serves.held)
    (take_serves p t d.run begun d.told d.line d.rest d.replies l (statements.Select select) [] d.serves d.is tt tt tt refl refl d.admitted (first_more (query_checks select d.run.start.seen) [] ∙ rw start refl)
    (query_worked (state_of p.control).newest d.run select d.serves.alone.works) (same d.run.now.seen d.serves.held))

pub query_does : (p : Plex) (t : MemoryTables) (l : ℕ) (select : Select) (told : Answer) → Does p l (statements.Select select) begun HasBegun → ((db : Database) → Hold p.tables db → first_refusal (query_checks select db) ≡ None)
    → ((db : Database) → Hold p.tables db → Hold t db) → ((db : Database) → Hold p.tables db → told ≡ answer select db) → Does (after_take p l [] t) l (statements.Select select) done (HasAnswered (said.Answer told))
query_does p t l select told d granted same is =
    let st = statements.Select select in
    let run' : Run = record (d.run) { now = work_after st d.run.now } in
    record {
      run = run';
      told = Some (said.Answer told);
      line = d.line;
      rest = d.rest;
      replies = d.replies;
      serves = query_serves p t l select told d granted same is;
      is = d.is;
      admitted = admitted_alone p.control.nodes run' done (Some (said.Answer told)) (d.line ∷ d.rest) d.replies st d.serves.alone.own (admitted_within p.control.nodes d.run begun d.told (d.line ∷ d.rest) d.replies st d.serves.alone.own d.admitted);
      holds = record { said = refl; held = none_yet p d.run d.told (d.line ∷ d.rest) d.replies d.serves };
    }

pub query_goes : (p : Plex) (t : MemoryTables) (l : ℕ) (select : Select) (told : Answer) → Does p l (statements.Select select) begun HasBegun → ((db : Database) → Hold p.tables db → first_refusal (query_checks select db) ≡ None)
    → ((db : Database) → Hold p.tables db → Hold t db) → ((db : Database) → Hold p.tables db → told ≡ answer select db) → GoesOn p (after_take p l [] t)
query_goes p t l select told d granted same is =
    goes_from p (after_take p l [] t) (running d.run) (running (record (d.run) { now = work_after (statements.Select select) d.run.now })) begun done d.told (Some (said.Answer told)) (d.line ∷ d.rest) d.replies refl d.serves.at
    (query_serves p t l select told d granted same is).at

pub query_refused : (p : Plex) (l : ℕ) (select : Select) (cause : Refusal) → Does p l (statements.Select select) begun HasBegun → IsPlacedRefusal 1 cause → ((db : Database) → Hold p.tables db → first_refusal (query_checks select db) ≡ Some cause) → MayRefuse p l cause
query_refused p l select cause d placed found =
    named_cause p d.run begun d.told d.line d.rest d.replies l (statements.Select select) cause d.serves d.is tt d.admitted placed
    (found d.run.start.seen (subst (Hold p.tables) (start_begun p d.run d.told (d.line ∷ d.rest) d.replies d.serves) d.serves.held))

-- ENDS

abbrev pub after_commit : Plex → ℕ → TableState → Plex
after_commit p l table = record { control = changes.committed_at 0 l table p.control; tables = p.tables }

abbrev pub after_end : Plex → ℕ → Plex
after_end p l = record { control = changes.ended 0 l p.control; tables = p.tables }

abbrev pub after_refuse : Plex → ℕ → Refusal → Plex
after_refuse p l cause = record { control = changes.refused_line 0 l cause p.control; tables = p.tables }

-- what a commit answers is told by the same write under its number
numbered_told : (write : Write) (rows c : ℕ) (before after : Said) → IsToldBy write rows None before → IsToldBy write rows (Some c) after → numbered c before ≡ after
numbered_told (writes.CreateTable name schema) rows c before after b a = rw (b, a) refl
numbered_told (writes.DropTable name) rows c before after b a = rw (b, a) refl
numbered_told (writes.CreateIndex name kind table column second) rows c before after b a = absurd b
numbered_told (writes.DropIndex table name) rows c before after b a = absurd b
numbered_told (writes.Insert table values) rows c before after b a = rw (b, a) refl
numbered_told (writes.Load table values text) rows c before after b a = absurd b
numbered_told (writes.Delete table cond) rows c before after b a = absurd b
numbered_told (writes.Update table changes cond) rows c before after b a = absurd b

-- a write that is run is told somehow
pub record Told (write : Write) (rows : ℕ) (commit : Option ℕ) : Type 0 where
  pub what : Said
  pub is : IsToldBy write rows commit what

pub told_of : (write : Write) (rows : ℕ) (commit : Option ℕ) → CanRun write → Told write rows commit
told_of (writes.CreateTable name schema) rows commit can = record { what = said.Created commit; is = refl }
told_of (writes.DropTable name) rows commit can = record { what = said.Dropped commit; is = refl }
told_of (writes.CreateIndex name kind table column second) rows commit can = absurd can.named
told_of (writes.DropIndex table name) rows commit can = absurd can.named
told_of (writes.Insert table values) rows commit can = record { what = said.Inserted rows commit; is = refl }
told_of (writes.Load table values text) rows commit can = absurd can.named
told_of (writes.Delete table cond) rows commit can = absurd can.named
told_of (writes.Update table changes cond) rows commit can = absurd can.named

said_serves : (p : Plex) (run : Run) (told : Option Said) (what : Said) (left : List Line) (replies : List Reply) → told ≡ Some what → Serves p (session_at (running run) done told left replies) → Serves p (session_at (running run) done (Some what) left replies)
said_serves p run told what left replies is h = subst (λ (t : Option Said). Serves p (session_at (running run) done t left replies)) is h

pub commit_asks : (p : Plex) (l : ℕ) (write : Write) (what : Said) → Does p l (statements.Write write) done (HasSaid p what) → At 0 p.control.table.sessions (AsksCommit (noted_at 0 p.control.table.noted))
commit_asks p l write what d = at_one p (session_at (running d.run) done d.told (d.line ∷ d.rest) d.replies) (AsksCommit (noted_at 0 p.control.table.noted)) d.serves (record { line = omega arith; room = d.holds.room })

pub commit_ends : (p : Plex) (l rows : ℕ) (write : Write) (what after : Said) (table : TableState) → Does p l (statements.Write write) done (HasSaid p what) → IsToldBy write rows None what → IsToldBy write rows (Some (p.control.latest + 1)) after → CommitsAt 0 (p.control.latest + 1) p.control.table table
    → Ends p (record { line = l; said = after }) (after_commit p l table)
commit_ends p l rows write what after table d before is commit =
    let serves = said_serves p d.run d.told what (d.line ∷ d.rest) d.replies d.holds.said d.serves in
    let ended = commit_serves p d.run what d.line d.rest d.replies l (statements.Write write) table serves d.is d.holds.held commit in
    let same : commit_said (p.control.latest + 1) (Some what) ≡ after = numbered_told write rows (p.control.latest + 1) what after before is in
    ends_from p (after_commit p l table) (running d.run) done d.told d.line d.rest d.replies (record { line = l; said = after }) refl d.serves.at
    (subst (λ (w : Said). Serves (after_commit p l table) (session_at idle fresh None d.rest (d.replies ++ record { line = l; said = w } ∷ []))) same ended)

pub end_ends : (p : Plex) (l : ℕ) (select : Select) (what : Said) → Does p l (statements.Select select) done (HasAnswered what) → Ends p (record { line = l; said = what }) (after_end p l)
end_ends p l select what d =
    let serves = said_serves p d.run d.told what (d.line ∷ d.rest) d.replies d.holds.said d.serves in
    ends_from p (after_end p l) (running d.run) done d.told d.line d.rest d.replies (record { line = l; said = what }) refl d.serves.at
    (end_serves p d.run what d.line d.rest d.replies l (statements.Select select) serves d.is (rw d.holds.held refl))

pub refuse_ends : (p : Plex) (l : ℕ) (cause : Refusal) → MayRefuse p l cause → Ends p (record { line = l; said = said.Refused cause }) (after_refuse p l cause)
refuse_ends p l cause m =
    ends_from p (after_refuse p l cause) m.standing m.stage m.told m.line m.rest m.replies (record { line = l; said = said.Refused cause }) refl m.serves.at
    (refuse_serves p m.standing m.stage m.told m.line m.rest m.replies l m.st cause m.serves m.is m.open_still m.can)

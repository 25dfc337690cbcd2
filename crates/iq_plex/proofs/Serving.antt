-- The shared state serves its session behind each entry of a line.
use Rattle.std.specs.Prelude.{◌≡◌, refl, ℕ, ◌+◌, Bool, true, false, List, [], ◌∷◌, ◌++◌, Option, Some, None, length, zero, suc, slice_set}
use Rattle.std.specs.List.{slice_get}
use Rattle.std.proofs.Common.{ap, sym, ◌∙◌}
use Rattle.iq_base.specs.Shorts.{Name}
use Rattle.iq_base.specs.declared.refusals.Refusal.{Refusal}
use Rattle.iq_ast.specs.declared.statements.Statement.{Statement}
use Rattle.iq_ast.specs.declared.statements.Statement.TheVariants as statements
use Rattle.iq_history.specs.declared.entries.Entry.TheVariants as entries
use Rattle.iq_model.specs.declared.replies.Reply.{Reply}
use Rattle.iq_model.specs.declared.replies.Said.{Said}
use Rattle.iq_model.specs.declared.replies.Said.TheVariants as said
use Rattle.iq_model.specs.declared.scripts.Line.{Line}
use Rattle.iq_statements.specs.Statements.{IsOnTables, IsWrite, HasMeaning, Begins, creates, locks, statement_checks, room_checks}
use Rattle.iq_replay.specs.State.{Session, Standing, idle, running, Run, Stage, fresh, begun, locked, done, Node, has_some, changed_at, moved_to}
use Rattle.iq_replay.specs.Causes.{CanRefuse}
use Rattle.iq_replay.specs.Asked.{IsOpen, IsGranted, HoldsAll, OfLine}
use Rattle.iq_replay.specs.Said.{commit_said, statement_said}
use Rattle.iq_replay.specs.Changes.{begin_run, work_after}
use Rattle.iq_sessions.specs.Bare.{bare_session, At}
use Rattle.iq_sessions.specs.Table.{TableState, CommitsAt}
use Rattle.iq_control.specs.Asked.{is_own, IsSnapshot, IsAdmitted, AsksBegin, AsksLock, AsksTake, AsksEnd, AreFree, AreNamed, AreFit}
use Rattle.iq_control.specs.Changes as changes
use Rattle.iq_control.proofs.Lines.{line_at}
use Rattle.iq_control.proofs.Possible.{lock_possible, end_possible, refusal_possible}
use Rattle.iq_control.proofs.Follows.{follows_next, follows_begin, follows_take, follows_commit, agrees_lock, agrees_end, agrees_refused}
use Rattle.iq_control.proofs.Admitted.{named_line, unrefused_line}
use Rattle.iq_memory.specs.declared.tables.MemoryTables.{MemoryTables}
use Rattle.iq_memory.specs.Holding.{Hold}
use Rattle.iq_plex.specs.declared.plex.Plex.{Plex}
use Rattle.iq_plex.specs.Standing.{first_of, state_of, session_at, IsHome, HasWorked, Serves}
use Rattle.iq_plex.specs.Doing.{IsLineOf}
use Rattle.iq_plex.proofs.Sessions.{at_line, of_line, of_one, bare_at}
use Rattle.iq_plex.proofs.Entries.{serves_next, at_latest, begin_leads, lock_leads, take_leads, answered, end_leads, commit_leads, refuse_leads}
use Rattle.iq_plex.proofs.Names.{none_held}

-- BEGIN

begins_of : (st : Statement) → is_own st ≡ true → Begins st
begins_of (statements.Write write) own = tt
begins_of (statements.Select select) own = tt
begins_of statements.Begin own = cc own
begins_of statements.Commit own = cc own
begins_of statements.Rollback own = cc own
begins_of (statements.Savepoint name) own = cc own
begins_of (statements.BackTo name) own = cc own
begins_of (statements.Release name) own = cc own
begins_of statements.Sync own = cc own

pub begin_asks : (p : Plex) (line : Line) (rest : List Line) (replies : List Reply) (st : Statement) → is_own st ≡ true → IsAdmitted p.control.nodes (bare_session (session_at idle fresh None (line ∷ rest) replies)) st
    → AsksBegin p.control true (bare_session (session_at idle fresh None (line ∷ rest) replies)) st
begin_asks p line rest replies st own admitted = record { begins = begins_of st own; own_is = sym own; stage = refl; none = refl; admitted = admitted }

pub begin_serves : (p : Plex) (line : Line) (rest : List Line) (replies : List Reply) (l c : ℕ) (st : Statement) → Serves p (session_at idle fresh None (line ∷ rest) replies) → IsLineOf line l st → is_own st ≡ true
    → IsAdmitted p.control.nodes (bare_session (session_at idle fresh None (line ∷ rest) replies)) st → At 0 p.control.table.sessions (λ session. IsSnapshot p.control session c)
    → Serves (record { control = changes.begun 0 l true c p.control; tables = p.tables }) (session_at (running (begin_run true c (state_of p.control).newest)) begun None (line ∷ rest) replies)
begin_serves p line rest replies l c st h is own admitted snapshot =
    let session = session_at idle fresh None (line ∷ rest) replies in
    let latest : c ≡ p.control.latest = at_latest p.control.latest c (slice_get p.control.nodes 0) h.home (of_one p session (λ session. IsSnapshot p.control session c) h snapshot) in
    let asked = at_line p idle fresh None line rest replies l st (AsksBegin p.control true) h is (begin_asks p line rest replies st own admitted) in
    let follows = follows_begin (first_of p.control.script) p.control 0 l c true h.follows (line_at p.control (state_of p.control) 0 l (AsksBegin p.control true) h.follows.agrees asked) snapshot in
    serves_next p (changes.begun 0 l true c p.control) p.tables (entries.Begin 0 l c) (session_at (running (begin_run true c (state_of p.control).newest)) begun None (line ∷ rest) replies) refl refl follows h.not_halted h.still h.home h.counted
    (begin_leads (state_of p.control) p.tables line rest replies l c st h.at h.no_step is own (latest ∙ sym h.follows.agrees.latest) h.held)

-- LOCK

pub lock_asks : (p : Plex) (run : Run) (told : Option Said) (line : Line) (rest : List Line) (replies : List Reply) (st : Statement) (names : List Name) → Serves p (session_at (running run) begun told (line ∷ rest) replies) → IsWrite st → names ≡ locks st → has_some names ≡ true
    → AsksLock names (bare_session (session_at (running run) begun told (line ∷ rest) replies)) st
lock_asks p run told line rest replies st names h write are some = record { write = write; stage = tt; names_are = rw (h.alone.works) (are ∙ sym (none_held (locks st))); some = some }

pub lock_serves : (p : Plex) (run : Run) (told : Option Said) (line : Line) (rest : List Line) (replies : List Reply) (l : ℕ) (st : Statement) (names : List Name) → Serves p (session_at (running run) begun told (line ∷ rest) replies) → IsLineOf line l st → IsWrite st
    → IsAdmitted p.control.nodes (bare_session (session_at (running run) begun told (line ∷ rest) replies)) st → IsGranted (statement_checks st run.start.seen) → names ≡ locks st → has_some names ≡ true → At 0 p.control.table.sessions (AreFree p.control 0 names)
    → Serves (record { control = changes.locked_more 0 l names p.control; tables = p.tables }) (session_at (running (record run { now = record (run.now) { held = run.now.held ++ names } })) locked told (line ∷ rest) replies)
lock_serves p run told line rest replies l st names h is write admitted named are some free =
    let asked = at_line p (running run) begun told line rest replies l st (AsksLock names) h is (lock_asks p run told line rest replies st names h write are some) in
    let granted = named_line p.control (state_of p.control) 0 l h.follows.agrees (at_line p (running run) begun told line rest replies l st (IsAdmitted p.control.nodes) h is admitted) (of_line p (running run) begun told line rest replies l st AreNamed h is named) in
    let follows = follows_next (first_of p.control.script) p.control (changes.locked_more 0 l names p.control) (entries.Lock 0 l names) h.follows
    (lock_possible p.control (state_of p.control) 0 l names h.follows.agrees (line_at p.control (state_of p.control) 0 l (AsksLock names) h.follows.agrees asked) h.not_halted free granted) refl (agrees_lock p.control (state_of p.control) 0 l names h.follows.agrees) in
    serves_next p (changes.locked_more 0 l names p.control) p.tables (entries.Lock 0 l names) (session_at (running (record run { now = record (run.now) { held = run.now.held ++ names } })) locked told (line ∷ rest) replies) refl refl follows h.not_halted h.still h.home h.counted
    (lock_leads (state_of p.control) p.tables run told (line ∷ rest) replies l names h.at h.no_step h.alone h.held)

set_long : (ns : List ℕ) (i n : ℕ) → length (slice_set ns i n) ≡ length ns
set_long [] i n = refl
set_long (x ∷ ns) zero n = refl
set_long (x ∷ ns) (suc i) n = ap suc (set_long ns i n)

-- room for names of a commit changes nothing else
pub noted_serves : (p : Plex) (n : ℕ) (session : Session) → Serves p session → Serves (record { control = changes.noted 0 n p.control; tables = p.tables }) session
noted_serves p n session h = record {
  follows = record {
    legal = h.follows.legal;
    agrees = record {
      latest = h.follows.agrees.latest;
      halted = h.follows.agrees.halted;
      faults = h.follows.agrees.faults;
      closing = h.follows.agrees.closing;
      nodes = h.follows.agrees.nodes;
      sessions = h.follows.agrees.sessions;
      wrote = h.follows.agrees.wrote;
    };
  };
  at = h.at;
  alone = h.alone;
  no_step = h.no_step;
  not_halted = h.not_halted;
  still = h.still;
  home = h.home;
  counted = set_long p.control.table.noted 0 n ∙ h.counted;
  held = h.held;
}

-- AN EFFECT

pub take_asks : (run : Run) (stage : Stage) (told : Option Said) (left : List Line) (replies : List Reply) (st : Statement) (created : List Name) → IsOnTables st → HasMeaning st → IsOpen stage → HoldsAll run st → created ≡ creates st
    → AsksTake created (bare_session (session_at (running run) stage told left replies)) st
take_asks run stage told left replies st created tables meaning open_still held are = record { tables = tables; meaning = meaning; stage = open_still; held = held; created_are = are }

pub take_serves : (p : Plex) (t : MemoryTables) (run : Run) (stage : Stage) (told : Option Said) (line : Line) (rest : List Line) (replies : List Reply) (l : ℕ) (st : Statement) (created : List Name) → Serves p (session_at (running run) stage told (line ∷ rest) replies) → IsLineOf line l st
    → IsOnTables st → HasMeaning st → IsOpen stage → HoldsAll run st → created ≡ creates st → IsAdmitted p.control.nodes (bare_session (session_at (running run) stage told (line ∷ rest) replies)) st
    → IsGranted (statement_checks st run.start.seen ++ room_checks st run.start.seen) → HasWorked (state_of p.control).newest (record run { now = work_after st run.now }) → Hold t (work_after st run.now).seen
    → Serves (record { control = changes.took 0 l created p.control; tables = t }) (session_at (running (record run { now = work_after st run.now })) done (statement_said st run.now.seen) (line ∷ rest) replies)
take_serves p t run stage told line rest replies l st created h is tables meaning open_still held are admitted granted worked held' =
    let asked = at_line p (running run) stage told line rest replies l st (AsksTake created) h is (take_asks run stage told (line ∷ rest) replies st created tables meaning open_still held are) in
    let fit = unrefused_line p.control (state_of p.control) 0 l h.follows.agrees (at_line p (running run) stage told line rest replies l st (IsAdmitted p.control.nodes) h is admitted) (of_line p (running run) stage told line rest replies l st AreFit h is (held, granted)) in
    let follows = follows_take (first_of p.control.script) p.control 0 l created h.follows (line_at p.control (state_of p.control) 0 l (AsksTake created) h.follows.agrees asked) fit in
    serves_next p (changes.took 0 l created p.control) t (entries.Done 0 l) (session_at (running (record run { now = work_after st run.now })) done (statement_said st run.now.seen) (line ∷ rest) replies) refl refl follows h.not_halted h.still h.home h.counted
    (take_leads (state_of p.control) t stage run told line rest replies l st h.at h.no_step is h.alone worked held')

-- ENDS

pub end_asks : (run : Run) (holds : Bool) (told : Option Said) (left : List Line) (replies : List Reply) (st : Statement) → run.own ≡ true → has_some run.now.held ≡ holds → AsksEnd holds (bare_session (session_at (running run) done told left replies)) st
end_asks run holds told left replies st own held = record { ending = rw own refl; held = held }

moved_home : (nodes : List Node) (c : ℕ) → IsHome (slice_get nodes 0) → IsHome (slice_get (changed_at 0 (moved_to c) nodes) 0)
moved_home [] c h = absurd h
moved_home (node ∷ nodes) c h = h

pub commit_serves : (p : Plex) (run : Run) (what : Said) (line : Line) (rest : List Line) (replies : List Reply) (l : ℕ) (st : Statement) (table : TableState) → Serves p (session_at (running run) done (Some what) (line ∷ rest) replies) → IsLineOf line l st
    → has_some run.now.held ≡ true → CommitsAt 0 (p.control.latest + 1) p.control.table table
    → Serves (record { control = changes.committed_at 0 l table p.control; tables = p.tables }) (answered l (commit_said (p.control.latest + 1) (Some what)) rest replies)
commit_serves p run what line rest replies l st table h is some commit =
    let session = session_at (running run) done (Some what) (line ∷ rest) replies in
    let asked = at_line p (running run) done (Some what) line rest replies l st (AsksEnd true) h is (end_asks run true (Some what) (line ∷ rest) replies st h.alone.own some) in
    let follows = follows_commit (first_of p.control.script) p.control 0 l table h.follows (line_at p.control (state_of p.control) 0 l (AsksEnd true) h.follows.agrees asked) h.not_halted commit in
    serves_next p (changes.committed_at 0 l table p.control) p.tables (entries.Commit 0 l (p.control.latest + 1)) (answered l (commit_said (p.control.latest + 1) (Some what)) rest replies) refl refl follows h.not_halted h.still
    (rw (bare_at p session h) (moved_home p.control.nodes (p.control.latest + 1) h.home)) (ap length commit.noted ∙ set_long p.control.table.noted 0 0 ∙ h.counted)
    (commit_leads (state_of p.control) p.tables run what line rest replies l (p.control.latest + 1) h.at h.no_step h.alone some h.held)

pub end_serves : (p : Plex) (run : Run) (what : Said) (line : Line) (rest : List Line) (replies : List Reply) (l : ℕ) (st : Statement) → Serves p (session_at (running run) done (Some what) (line ∷ rest) replies) → IsLineOf line l st → has_some run.now.held ≡ false
    → Serves (record { control = changes.ended 0 l p.control; tables = p.tables }) (answered l what rest replies)
end_serves p run what line rest replies l st h is none =
    let asked = at_line p (running run) done (Some what) line rest replies l st (AsksEnd false) h is (end_asks run false (Some what) (line ∷ rest) replies st h.alone.own none) in
    let follows = follows_next (first_of p.control.script) p.control (changes.ended 0 l p.control) (entries.End 0 l) h.follows
    (end_possible p.control (state_of p.control) 0 l h.follows.agrees (line_at p.control (state_of p.control) 0 l (AsksEnd false) h.follows.agrees asked)) refl (agrees_end p.control (state_of p.control) 0 l h.follows.agrees) in
    serves_next p (changes.ended 0 l p.control) p.tables (entries.End 0 l) (answered l what rest replies) refl refl follows h.not_halted h.still h.home h.counted
    (end_leads (state_of p.control) p.tables run what line rest replies l h.at h.no_step h.alone none h.held)

-- A REFUSAL

pub refuse_serves : (p : Plex) (standing : Standing) (stage : Stage) (told : Option Said) (line : Line) (rest : List Line) (replies : List Reply) (l : ℕ) (st : Statement) (cause : Refusal) → Serves p (session_at standing stage told (line ∷ rest) replies) → IsLineOf line l st → IsOpen stage
    → OfLine (state_of p.control) 0 l (CanRefuse (state_of p.control) 0 cause)
    → Serves (record { control = changes.refused_line 0 l cause p.control; tables = p.tables }) (answered l (said.Refused cause) rest replies)
refuse_serves p standing stage told line rest replies l st cause h is open_still can =
    let follows = follows_next (first_of p.control.script) p.control (changes.refused_line 0 l cause p.control) (entries.Refused (Some 0) l cause) h.follows
    (refusal_possible (state_of p.control) 0 l cause can) refl (agrees_refused p.control (state_of p.control) 0 l cause h.follows.agrees) in
    serves_next p (changes.refused_line 0 l cause p.control) p.tables (entries.Refused (Some 0) l cause) (answered l (said.Refused cause) rest replies) refl refl follows h.not_halted h.still h.home h.counted
    (refuse_leads (state_of p.control) p.tables standing stage told line rest replies l cause h.at h.no_step h.alone open_still h.held)

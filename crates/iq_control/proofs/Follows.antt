-- The control follows an entry that is possible.
use Rattle.std.specs.Prelude.{◌≡◌, ◌<◌, refl, ℕ, zero, suc, ◌+◌, Bool, true, false, List, [], ◌∷◌, ◌++◌, Option, Some, None, map, if◌then◌else◌}
use Rattle.std.specs.List.{slice_get}
use Rattle.std.specs.Option.{option_map}
use Rattle.std.proofs.Common.{arith, ap, sym, ◌∙◌}
use Rattle.std.proofs.lemmas.Bool.{ne_eqb}
use Rattle.iq_base.specs.Shorts.{Name}
use Rattle.iq_base.specs.declared.refusals.Refusal.{Refusal}
use Rattle.iq_history.specs.declared.entries.Entry.{Entry}
use Rattle.iq_history.specs.declared.entries.Entry.TheVariants as entries
use Rattle.iq_base.specs.declared.refusals.Refusal.TheVariants as refusals
use Rattle.iq_ast.specs.declared.statements.Statement.{Statement}
use Rattle.iq_ast.specs.declared.statements.Statement.TheVariants as statements
use Rattle.iq_model.specs.declared.replies.Said.TheVariants as said
use Rattle.iq_conditions.specs.Servers.{same_name}
use Rattle.iq_statements.specs.Statements.{Begins, creates}
use Rattle.iq_locks.specs.Locked as locks
use Rattle.iq_replay.specs.State.{State, Session, Standing, idle, lost, running, Node, Written, changed_at}
use Rattle.iq_replay.specs.Commits.{database_of, latest_of, written_names, written_at}
use Rattle.iq_replay.specs.Causes.{faults_after}
use Rattle.iq_replay.specs.Changes.{statement_of, begins, locks_more, takes_effect, refused, commits, ends, rolls_back, ends_run, work_in, nodes_at}
use Rattle.iq_replay.specs.Entries.{IsPossible, change}
use Rattle.iq_replay.specs.Histories.{replay}
use Rattle.iq_replay.proofs.Histories.{replay-push, IsLegal-push}
use Rattle.iq_sessions.specs.Changes as bare
use Rattle.iq_replay.specs.Asked.{OfLine}
use Rattle.iq_sessions.specs.Bare.{bare_session, bare_standing, At}
use Rattle.iq_sessions.specs.Table.{TableState, CommitsAt, WritesAll}
use Rattle.iq_control.specs.Asked.{is_own, IsSnapshot, IsUnrefused, AsksBegin, AsksTake, AsksEnd, AsksRun}
use Rattle.iq_control.specs.Control.{ControlState, Agrees, Follows}
use Rattle.iq_control.specs.Changes.{begun, locked_more, took, refused_line, committed_at, ended, rolled_back, rolled_at_end, halted_at, saved, went_back, released}
use Rattle.iq_control.proofs.Bare.{map_changed, get_bare, bare_begins, bare_lock, CreatesAlone, bare_takes, bare_refused, bare_commits, bare_ends, bare_rolls, bare_rolls_at_end, bare_saves, bare_back, bare_release}
use Rattle.iq_control.proofs.Lines.{LineAt, at_state, of_line_at, statement_at}
use Rattle.iq_control.proofs.Possible.{begin_possible, take_possible, take_alone, commit_possible, rollback_possible}

-- one entry more
pub follows_next : (first : State) (old new : ControlState) (e : Entry) → Follows first old → IsPossible (replay first old.entries) e → new.entries ≡ old.entries ++ e ∷ []
    → Agrees new (change (replay first old.entries) e) → Follows first new
follows_next first old new e follows possible entries agrees =
    let state : replay first new.entries ≡ change (replay first old.entries) e = ap (replay first) entries ∙ replay-push first old.entries e in
    record {
      legal = rw entries (IsLegal-push first old.entries e follows.legal possible);
      agrees = rw state agrees;
    }

pub agrees_lock : (c : ControlState) (s : State) (place l : ℕ) (names : List Name) → Agrees c s → Agrees (locked_more place l names c) (change s (entries.Lock place l names))
unfolding change
agrees_lock c s place l names h =
    record {
      latest = h.latest;
      halted = h.halted;
      faults = h.faults;
      closing = h.closing;
      nodes = h.nodes;
      wrote = h.wrote;
      sessions = map_changed place (locks_more names) (locks_more names) s.sessions (λ session is. bare_lock names session) ∙ ap (changed_at place (locks_more names)) h.sessions;
    }

pub agrees_refused : (c : ControlState) (s : State) (place l : ℕ) (cause : Refusal) → Agrees c s → Agrees (refused_line place l cause c) (change s (entries.Refused (Some place) l cause))
unfolding change
agrees_refused c s place l cause h =
    record {
      latest = h.latest;
      halted = h.halted;
      faults = ap (faults_after cause) h.faults;
      closing = h.closing;
      nodes = h.nodes;
      wrote = h.wrote;
      sessions = map_changed place (refused l cause) (bare.refuses cause) s.sessions (λ session is. bare_refused l cause session) ∙ ap (changed_at place (bare.refuses cause)) h.sessions;
    }

pub agrees_end : (c : ControlState) (s : State) (place l : ℕ) → Agrees c s → Agrees (ended place l c) (change s (entries.End place l))
unfolding change
agrees_end c s place l h =
    record {
      latest = h.latest;
      halted = h.halted;
      faults = h.faults;
      closing = h.closing;
      nodes = h.nodes;
      wrote = h.wrote;
      sessions = map_changed place (ends l) bare.ends_both s.sessions (λ session is. bare_ends l session) ∙ ap (changed_at place bare.ends_both) h.sessions;
    }

pub agrees_begin : (c : ControlState) (s : State) (place l commit : ℕ) (session : Session) (statement : Statement) → Agrees c s → slice_get s.sessions place ≡ Some session
    → statement_of session.left ≡ Some statement → Begins statement → Agrees (begun place l (is_own statement) commit c) (change s (entries.Begin place l commit))
unfolding change
agrees_begin c s place l commit session statement h found at begins_it =
    record {
      latest = h.latest;
      halted = h.halted;
      faults = h.faults;
      closing = h.closing;
      nodes = h.nodes;
      wrote = h.wrote;
      sessions = map_changed place (λ (session : Session). begins (statement_of session.left) l commit (database_of s commit) session) (bare.begins_at (is_own statement) commit) s.sessions
          (λ other is. begin_here other (cc (found, is)))
          ∙ ap (changed_at place (bare.begins_at (is_own statement) commit)) h.sessions;
    }
  where
    begin_here : (other : Session) → other ≡ session → bare_session (begins (statement_of other.left) l commit (database_of s commit) other) ≡ bare.begins_at (is_own statement) commit (bare_session other)
    begin_here other q = rw (q, at) (bare_begins statement l commit (database_of s commit) session begins_it)

pub agrees_done : (c : ControlState) (s : State) (place l : ℕ) (session : Session) (statement : Statement) → Agrees c s → slice_get s.sessions place ≡ Some session
    → statement_of session.left ≡ Some statement → CreatesAlone session.standing (creates statement) → Agrees (took place l (creates statement) c) (change s (entries.Done place l))
unfolding change
agrees_done c s place l session statement h found at alone =
    record {
      latest = h.latest;
      halted = h.halted;
      faults = h.faults;
      closing = h.closing;
      nodes = h.nodes;
      wrote = h.wrote;
      sessions = map_changed place (λ (session : Session). takes_effect (statement_of session.left) l session) (bare.takes (creates statement)) s.sessions
          (λ other is. take_here other (cc (found, is)))
          ∙ ap (changed_at place (bare.takes (creates statement))) h.sessions;
    }
  where
    take_here : (other : Session) → other ≡ session → bare_session (takes_effect (statement_of other.left) l other) ≡ bare.takes (creates statement) (bare_session other)
    take_here other q = rw (q, at) (bare_takes statement l session alone)

pub agrees_rollback : (c : ControlState) (s : State) (place l : ℕ) → Agrees c s → Agrees (rolled_back place (suc l) c) (change s (entries.Rollback place (suc l)))
unfolding change
agrees_rollback c s place l h =
    record {
      latest = h.latest;
      halted = h.halted;
      faults = h.faults;
      closing = rw (ne_eqb (suc l) 0 (omega arith)) h.closing;
      nodes = h.nodes;
      wrote = h.wrote;
      sessions = map_changed place (rolls_back (suc l)) bare.ends_both s.sessions (λ session is. bare_rolls l session) ∙ ap (changed_at place bare.ends_both) h.sessions;
    }

pub agrees_close : (c : ControlState) (s : State) (place : ℕ) → Agrees c s → Agrees (rolled_at_end place c) (change s (entries.Rollback place 0))
unfolding change
agrees_close c s place h =
    record {
      latest = h.latest;
      halted = h.halted;
      faults = h.faults;
      closing = refl;
      nodes = h.nodes;
      wrote = h.wrote;
      sessions = map_changed place (rolls_back 0) ends_run s.sessions (λ session is. bare_rolls_at_end session) ∙ ap (changed_at place ends_run) h.sessions;
    }

pub agrees_halt : (c : ControlState) (s : State) (place l before after : ℕ) → Agrees c s → Agrees (halted_at place l before after c) (change s (entries.Halt place l (c.latest + 1) before after))
unfolding change
agrees_halt c s place l before after h =
    record {
      latest = h.latest;
      halted = refl;
      faults = refl;
      closing = h.closing;
      nodes = h.nodes;
      wrote = h.wrote;
      sessions = map_changed place (refused l (refusals.StoreFault before after)) (bare.refuses (refusals.StoreFault before after)) s.sessions (λ session is. bare_refused l (refusals.StoreFault before after) session)
          ∙ ap (changed_at place (bare.refuses (refusals.StoreFault before after))) h.sessions;
    }

pub agrees_save : (c : ControlState) (s : State) (place l : ℕ) (name : Name) → Agrees c s → Agrees (saved place l name c) (change s (entries.Savepoint place l name))
unfolding change
agrees_save c s place l name h =
    record {
      latest = h.latest;
      halted = h.halted;
      faults = h.faults;
      closing = h.closing;
      nodes = h.nodes;
      wrote = h.wrote;
      sessions = map_changed place _ (bare.saves name) s.sessions (λ session is. bare_saves l (said.Saved name) name session) ∙ ap (changed_at place (bare.saves name)) h.sessions;
    }

pub agrees_back : (c : ControlState) (s : State) (place l : ℕ) (name : Name) → Agrees c s → Agrees (went_back place l name c) (change s (entries.Back place l name))
unfolding change
agrees_back c s place l name h =
    record {
      latest = h.latest;
      halted = h.halted;
      faults = h.faults;
      closing = h.closing;
      nodes = h.nodes;
      wrote = h.wrote;
      sessions = map_changed place _ (bare.goes_back name) s.sessions (λ session is. bare_back l (said.BackTo name) name session) ∙ ap (changed_at place (bare.goes_back name)) h.sessions;
    }

pub agrees_release : (c : ControlState) (s : State) (place l : ℕ) (name : Name) → Agrees c s → Agrees (released place l name c) (change s (entries.Release place l name))
unfolding change
agrees_release c s place l name h =
    record {
      latest = h.latest;
      halted = h.halted;
      faults = h.faults;
      closing = h.closing;
      nodes = h.nodes;
      wrote = h.wrote;
      sessions = map_changed place _ (bare.releases name) s.sessions (λ session is. bare_release l (said.Released name) name session) ∙ ap (changed_at place (bare.releases name)) h.sessions;
    }

-- COMMITS

latest_written : (names : List Name) (k : ℕ) (ws : List Written) (n : Name) → latest_of n (map (written_at k) names ++ ws) ≡ (if locks.has_name names n then k else latest_of n ws)
latest_written [] k ws n = refl
latest_written (name ∷ names) k ws n = by_name (same_name name n) refl (latest_written names k ws n)
  where
    by_name : (b : Bool) → same_name name n ≡ b → latest_of n (map (written_at k) names ++ ws) ≡ (if locks.has_name names n then k else latest_of n ws)
        → latest_of n (map (written_at k) (name ∷ names) ++ ws) ≡ (if locks.has_name (name ∷ names) n then k else latest_of n ws)
    by_name true q more = rw (q) refl
    by_name false q more = rw (q) more

written_bare : (standing : Standing) → written_names (work_in (bare_standing standing)) ≡ written_names (work_in standing)
written_bare idle = refl
written_bare lost = refl
written_bare (running run) = refl

nodes_bare : (o : Option Session) (k : ℕ) (nodes : List Node) → nodes_at (option_map bare_session o) k nodes ≡ nodes_at o k nodes
nodes_bare None k nodes = refl
nodes_bare (Some session) k nodes = refl

pub agrees_commit : (c : ControlState) (s : State) (place l : ℕ) (table : TableState) (session : Session) → Agrees c s → slice_get s.sessions place ≡ Some session → CommitsAt place (c.latest + 1) c.table table
    → Agrees (committed_at place l table c) (change s (entries.Commit place l (c.latest + 1)))
unfolding change
agrees_commit c s place l table session h found commit =
    record {
      latest = ap (λ (n : ℕ). n + 1) h.latest;
      halted = h.halted;
      faults = h.faults;
      closing = h.closing;
      nodes = rw (← h.sessions, get_bare place s.sessions, nodes_bare (slice_get s.sessions place) (c.latest + 1) c.nodes, h.nodes) refl;
      sessions = map_changed place (commits l (c.latest + 1)) bare.ends_both s.sessions (λ session is. bare_commits l (c.latest + 1) session) ∙ ap (changed_at place bare.ends_both) h.sessions ∙ sym commit.sessions;
      wrote = λ name. rw (found, h.latest) (latest_written (written_names (work_in session.standing)) (c.latest + 1) s.wrote name ∙ wrote_there name);
    }
  where
    wrote_there : (name : Name) → (if locks.has_name (written_names (work_in session.standing)) name then c.latest + 1 else latest_of name s.wrote) ≡ locks.latest_of name table.wrote
    wrote_there name =
        let wrote = at_state c s place session (λ (session : Session). WritesAll (written_names (work_in session.standing)) (c.latest + 1) c.table.wrote table.wrote) h found commit.wrote in
        rw (← written_bare session.standing, h.wrote name) (sym (wrote name))

-- WITH WHAT THE LINE ASKS

pub follows_begin : (first : State) (c : ControlState) (place l commit : ℕ) (own : Bool) → Follows first c → LineAt (replay first c.entries) place l (AsksBegin c own) → At place c.table.sessions (λ session. IsSnapshot c session commit)
    → Follows first (begun place l own commit c)
follows_begin first c place l commit own follows at_line snapshot =
    rw at_line.holds.own_is (follows_next first c (begun place l (is_own at_line.statement) commit c) (entries.Begin place l commit) follows (begin_possible c _ place l commit own follows.agrees at_line snapshot) refl
    (agrees_begin c _ place l commit at_line.session at_line.statement follows.agrees at_line.found (statement_at _ place l _ at_line) at_line.holds.begins))

pub follows_take : (first : State) (c : ControlState) (place l : ℕ) (created : List Name) → Follows first c → LineAt (replay first c.entries) place l (AsksTake created) → OfLine (replay first c.entries) place l (IsUnrefused (replay first c.entries) place)
    → Follows first (took place l created c)
follows_take first c place l created follows at_line granted =
    let alone = take_alone (replay first c.entries) place at_line.session at_line.statement (of_line_at _ place l _ (IsUnrefused (replay first c.entries) place) at_line granted) in
    rw at_line.holds.created_are (follows_next first c (took place l (creates at_line.statement) c) (entries.Done place l) follows (take_possible c _ place l created follows.agrees at_line granted) refl
    (agrees_done c _ place l at_line.session at_line.statement follows.agrees at_line.found (statement_at _ place l _ at_line) alone))

pub follows_commit : (first : State) (c : ControlState) (place l : ℕ) (table : TableState) → Follows first c → LineAt (replay first c.entries) place l (AsksEnd true) → c.halted ≡ None → CommitsAt place (c.latest + 1) c.table table
    → Follows first (committed_at place l table c)
follows_commit first c place l table follows at_line halted commit =
    follows_next first c _ _ follows (commit_possible c _ place l follows.agrees at_line halted) refl (agrees_commit c _ place l table at_line.session follows.agrees at_line.found commit)

pub follows_rollback : (first : State) (c : ControlState) (place l : ℕ) → Follows first c → 0 < l → LineAt (replay first c.entries) place l (AsksRun c statements.Rollback) → Follows first (rolled_back place l c)
follows_rollback first c place zero follows some at_line = absurd (omega (arith, some))
follows_rollback first c place (suc l) follows some at_line = follows_next first c _ _ follows (rollback_possible c _ place l follows.agrees at_line) refl (agrees_rollback c _ place l follows.agrees)

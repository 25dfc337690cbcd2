-- What each entry of a line leaves of the shared state.
use Rattle.std.specs.Prelude.{◌≡◌, refl, ℕ, true, false, List, [], ◌∷◌, ◌++◌, Option, Some, None, IsSomeAnd, length}
use Rattle.std.specs.List.{slice_get}
use Rattle.std.proofs.Common.{ap, sym, ◌∙◌, subst}
use Rattle.std.proofs.lemmas.Bool.{eq-eqb}
use Rattle.iq_base.specs.Shorts.{Name}
use Rattle.iq_base.specs.declared.refusals.Refusal.{Refusal}
use Rattle.iq_ast.specs.declared.statements.Statement.{Statement}
use Rattle.iq_ast.specs.declared.statements.Statement.TheVariants as statements
use Rattle.iq_history.specs.declared.entries.Entry.{Entry}
use Rattle.iq_history.specs.declared.entries.Entry.TheVariants as entries
use Rattle.iq_model.specs.declared.replies.Reply.{Reply}
use Rattle.iq_model.specs.declared.replies.Said.{Said}
use Rattle.iq_model.specs.declared.replies.Said.TheVariants as said
use Rattle.iq_model.specs.declared.scripts.Line.{Line}
use Rattle.iq_statements.specs.Tables.{Database}
use Rattle.iq_replay.specs.State.{State, Session, Standing, idle, lost, running, Run, Stage, fresh, begun, locked, done, Node, has_some}
use Rattle.iq_base.specs.declared.nodes.NodeKind.{NodeKind}
use Rattle.iq_base.specs.declared.nodes.NodeKind.TheVariants as kinds
use Rattle.iq_replay.specs.Nodes.{node_position, kind_position, is_coordinator}
use Rattle.iq_replay.specs.Commits.{database_of}
use Rattle.iq_replay.specs.Asked.{IsOpen}
use Rattle.iq_replay.specs.Said.{commit_said, statement_said}
use Rattle.iq_replay.specs.Changes.{statement_of, begin_run, begins, begins_own, takes_effect, work_after, refused}
use Rattle.iq_replay.specs.Entries.{change}
use Rattle.iq_control.specs.Control.{ControlState, Follows}
use Rattle.iq_control.specs.Asked.{is_own}
use Rattle.iq_memory.specs.declared.tables.MemoryTables.{MemoryTables}
use Rattle.iq_memory.specs.Holding.{Hold}
use Rattle.iq_plex.specs.declared.plex.Plex.{Plex}
use Rattle.iq_plex.specs.Standing.{first_of, state_of, session_at, IsAlone, IsOwn, HasWorked, IsHome, Serves, seen_by}
use Rattle.iq_plex.specs.Doing.{IsLineOf}
use Rattle.iq_plex.proofs.Sessions.{state_next}

-- ONE ENTRY MORE

-- what must hold of the state behind an entry
pub record Leads (s : State) (t : MemoryTables) (session : Session) : Type 0 where
  pub at : s.sessions ≡ session ∷ []
  pub alone : IsAlone s session.stage session.standing
  pub no_step : s.steps ≡ []
  pub held : Hold t (seen_by s.newest session.standing)

pub serves_next : (p : Plex) (c : ControlState) (t : MemoryTables) (e : Entry) (session : Session) → c.script ≡ p.control.script → c.entries ≡ p.control.entries ++ e ∷ []
    → Follows (first_of c.script) c → c.halted ≡ None → c.closing ≡ false → IsHome (slice_get c.nodes 0) → length c.table.noted ≡ 1 → Leads (change (state_of p.control) e) t session → Serves (record { control = c; tables = t }) session
serves_next p c t e session script entries follows halted still home counted leads =
    let state : state_of c ≡ change (state_of p.control) e = state_next p.control c e script entries in
    record {
      follows = follows;
      at = subst (λ (s : State). s.sessions ≡ session ∷ []) (sym state) leads.at;
      alone = subst (λ (s : State). IsAlone s session.stage session.standing) (sym state) leads.alone;
      no_step = subst (λ (s : State). s.steps ≡ []) (sym state) leads.no_step;
      not_halted = halted;
      still = still;
      home = home;
      counted = counted;
      held = subst (λ (s : State). Hold t (seen_by s.newest session.standing)) (sym state) leads.held;
    }

statement_here : (line : Line) (rest : List Line) (l : ℕ) (st : Statement) → IsLineOf line l st → statement_of (line ∷ rest) ≡ Some st
statement_here line rest l st is = rw is.deed refl

-- BEGIN

begins_alone : (st : Statement) (l c : ℕ) (db : Database) (session : Session) → is_own st ≡ true → begins (Some st) l c db session ≡ begins_own c db session
begins_alone (statements.Write write) l c db session own = refl
begins_alone (statements.Select select) l c db session own = refl
begins_alone statements.Begin l c db session own = cc own
begins_alone statements.Commit l c db session own = cc own
begins_alone statements.Rollback l c db session own = cc own
begins_alone (statements.Savepoint name) l c db session own = cc own
begins_alone (statements.BackTo name) l c db session own = cc own
begins_alone (statements.Release name) l c db session own = cc own
begins_alone statements.Sync l c db session own = cc own

-- the session's snapshot is the latest commit
pub at_latest : (latest c : ℕ) (node : Option Node) → IsHome node → IsSomeAnd node (λ node. c ≡ node_position latest node) → c ≡ latest
at_latest latest c None home is = absurd is
at_latest latest c (Some node) home is = is ∙ by_kind node.kind home
  where
    by_kind : (kind : NodeKind) → is_coordinator kind ≡ true → kind_position kind latest node.position ≡ latest
    by_kind kinds.Coordinator home = refl
    by_kind kinds.Writer home = cc home
    by_kind kinds.Reader home = cc home

newest_at : (s : State) (c : ℕ) → c ≡ s.latest → database_of s c ≡ s.newest
newest_at s c is = rw (is, eq-eqb s.latest s.latest refl) refl

pub begin_leads : (s : State) (t : MemoryTables) (line : Line) (rest : List Line) (replies : List Reply) (l c : ℕ) (st : Statement) → s.sessions ≡ session_at idle fresh None (line ∷ rest) replies ∷ [] → s.steps ≡ [] → IsLineOf line l st → is_own st ≡ true
    → c ≡ s.latest → Hold t s.newest → Leads (change s (entries.Begin 0 l c)) t (session_at (running (begin_run true c s.newest)) begun None (line ∷ rest) replies)
unfolding change
begin_leads s t line rest replies l c st at steps is own latest held = record {
  at = rw at (ap (λ (session : Session). session ∷ []) here);
  alone = record { own = refl; snapshot = latest; start = refl; works = refl };
  no_step = steps;
  held = held;
}
  where
    here : begins (statement_of (line ∷ rest)) l c (database_of s c) (session_at idle fresh None (line ∷ rest) replies) ≡ session_at (running (begin_run true c s.newest)) begun None (line ∷ rest) replies
    here = rw (statement_here line rest l st is, newest_at s c latest) (begins_alone st l c s.newest (session_at idle fresh None (line ∷ rest) replies) own)

-- LOCK

pub lock_leads : (s : State) (t : MemoryTables) (run : Run) (told : Option Said) (left : List Line) (replies : List Reply) (l : ℕ) (names : List Name) → s.sessions ≡ session_at (running run) begun told left replies ∷ [] → s.steps ≡ []
    → IsOwn s begun run → Hold t run.now.seen → Leads (change s (entries.Lock 0 l names)) t (session_at (running (record run { now = record (run.now) { held = run.now.held ++ names } })) locked told left replies)
unfolding change
lock_leads s t run told left replies l names at steps own held = record {
  at = rw at refl;
  alone = record { own = own.own; snapshot = own.snapshot; start = own.start; works = record { seen = rw own.works refl; created = rw own.works refl } };
  no_step = steps;
  held = held;
}

-- AN EFFECT

pub take_leads : (s : State) (t : MemoryTables) (stage : Stage) (run : Run) (told : Option Said) (line : Line) (rest : List Line) (replies : List Reply) (l : ℕ) (st : Statement) → s.sessions ≡ session_at (running run) stage told (line ∷ rest) replies ∷ [] → s.steps ≡ [] → IsLineOf line l st
    → IsOwn s stage run → HasWorked s.newest (record run { now = work_after st run.now }) → Hold t (work_after st run.now).seen
    → Leads (change s (entries.Done 0 l)) t (session_at (running (record run { now = work_after st run.now })) done (statement_said st run.now.seen) (line ∷ rest) replies)
unfolding change
take_leads s t stage run told line rest replies l st at steps is own worked held = record {
  at = rw at (ap (λ (session : Session). session ∷ []) here);
  alone = record { own = own.own; snapshot = own.snapshot; start = own.start; works = worked };
  no_step = steps;
  held = held;
}
  where
    here : takes_effect (statement_of (line ∷ rest)) l (session_at (running run) stage told (line ∷ rest) replies) ≡ session_at (running (record run { now = work_after st run.now })) done (statement_said st run.now.seen) (line ∷ rest) replies
    here = rw (statement_here line rest l st is, own.own) refl

-- ENDS OF A LINE

-- the session between lines, this one answered
abbrev pub answered : ℕ → Said → List Line → List Reply → Session
answered l what rest replies = session_at idle fresh None rest (replies ++ record { line = l; said = what } ∷ [])

pub end_leads : (s : State) (t : MemoryTables) (run : Run) (what : Said) (line : Line) (rest : List Line) (replies : List Reply) (l : ℕ) → s.sessions ≡ session_at (running run) done (Some what) (line ∷ rest) replies ∷ [] → s.steps ≡ []
    → IsOwn s done run → has_some run.now.held ≡ false → Hold t run.now.seen → Leads (change s (entries.End 0 l)) t (answered l what rest replies)
unfolding change
end_leads s t run what line rest replies l at steps own none held = record {
  at = rw at refl;
  alone = refl;
  no_step = steps;
  held = rw (← own.works.unchanged none) held;
}

pub commit_leads : (s : State) (t : MemoryTables) (run : Run) (what : Said) (line : Line) (rest : List Line) (replies : List Reply) (l c : ℕ) → s.sessions ≡ session_at (running run) done (Some what) (line ∷ rest) replies ∷ [] → s.steps ≡ []
    → IsOwn s done run → has_some run.now.held ≡ true → Hold t run.now.seen → Leads (change s (entries.Commit 0 l c)) t (answered l (commit_said c (Some what)) rest replies)
unfolding change
commit_leads s t run what line rest replies l c at steps own some held = record {
  at = rw at refl;
  alone = refl;
  no_step = steps;
  held = rw (at, own.works.commits some) held;
}

-- the tables are as they were before the line's effect
unmoved : (s : State) (stage : Stage) (standing : Standing) → IsAlone s stage standing → IsOpen stage → seen_by s.newest standing ≡ s.newest
unmoved s stage idle alone open_still = refl
unmoved s stage lost alone open_still = absurd alone
unmoved s fresh (running run) alone open_still = absurd alone.works
unmoved s begun (running run) alone open_still = rw alone.works refl
unmoved s locked (running run) alone open_still = alone.works.seen
unmoved s done (running run) alone open_still = absurd open_still

pub refuse_leads : (s : State) (t : MemoryTables) (standing : Standing) (stage : Stage) (told : Option Said) (line : Line) (rest : List Line) (replies : List Reply) (l : ℕ) (cause : Refusal) → s.sessions ≡ session_at standing stage told (line ∷ rest) replies ∷ [] → s.steps ≡ []
    → IsAlone s stage standing → IsOpen stage → Hold t (seen_by s.newest standing) → Leads (change s (entries.Refused (Some 0) l cause)) t (answered l (said.Refused cause) rest replies)
unfolding change
refuse_leads s t standing stage told line rest replies l cause at steps alone open_still held = record {
  at = rw at (ap (λ (session : Session). session ∷ []) (over standing alone));
  alone = refl;
  no_step = steps;
  held = subst (Hold t) (unmoved s stage standing alone open_still) held;
}
  where
    over : (standing : Standing) → IsAlone s stage standing → refused l cause (session_at standing stage told (line ∷ rest) replies) ≡ answered l (said.Refused cause) rest replies
    over idle alone = refl
    over lost alone = absurd alone
    over (running run) alone = rw alone.own refl

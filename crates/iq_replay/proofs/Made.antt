-- Snapshots and positions are commits that were made.
use Rattle.std.specs.Prelude.{◌≡◌, ◌≤◌, ◌<◌, refl, ℕ, zero, suc, ◌+◌, Bool, true, false, List, [], ◌∷◌, Option, Some, None, map, nat_eq, if◌then◌else◌, IsSomeAnd}
use Rattle.std.specs.List.{AllByRecursion, slice_get}
use Rattle.std.proofs.Common.{arith}
use Rattle.iq_base.specs.declared.nodes.NodeKind.{NodeKind}
use Rattle.iq_base.specs.declared.nodes.NodeKind.TheVariants as node_kinds
use Rattle.iq_base.specs.declared.nodes.NodeSpec.{NodeSpec}
use Rattle.iq_base.specs.declared.nodes.SessionSpec.{SessionSpec}
use Rattle.iq_base.specs.declared.refusals.Refusal.{Refusal}
use Rattle.iq_base.specs.declared.refusals.Refusal.TheVariants as refusals
use Rattle.iq_model.specs.declared.scripts.Line.{Line}
use Rattle.iq_model.specs.declared.scripts.Script.{Script}
use Rattle.iq_model.specs.declared.scripts.Step.TheVariants as steps
use Rattle.iq_ast.specs.declared.statements.Statement.{Statement}
use Rattle.iq_ast.specs.declared.statements.Statement.TheVariants as statements
use Rattle.iq_history.specs.declared.entries.Entry.{Entry}
use Rattle.iq_history.specs.declared.entries.Entry.TheVariants as entries
use Rattle.iq_statements.specs.Tables.{Database}
use Rattle.iq_replay.specs.State.{State, Session, Standing, idle, lost, running, Run, Node, Report, changed_at, moved_to}
use Rattle.iq_replay.specs.Start.{start, node_start, sessions_from}
use Rattle.iq_replay.specs.Nodes.{kind_position, node_position}
use Rattle.iq_replay.specs.Causes.{tells_lost}
use Rattle.iq_replay.specs.Changes.{on_run, holds_more, saves_as, back_to, release_to, begins, took_effect, takes_effect, after_refusal, rolls_back, loses_run, loses, nodes_at, taken_up, nodes_taking, restarted, excluded, included}
use Rattle.iq_replay.specs.Laws.{IsMadeSnapshot, AreMade}
use Rattle.iq_replay.specs.Asked.{OfStep, OfTurn}
use Rattle.iq_replay.specs.Lines.{CanBegin}
use Rattle.iq_replay.specs.Entries.{IsPossible, change}
use Rattle.iq_replay.specs.Histories.{replay, IsLegal}
use Rattle.iq_replay.proofs.Lines.{LineFound, OfLine-found}
use Rattle.iq_replay.proofs.Numbered.{commit_number}

-- LISTS

AllByRecursion-changed : {X : Type 0} (P : X → Type 0) (n : ℕ) (f : X → X) (xs : List X) → ((x : X) → slice_get xs n ≡ Some x → P x → P (f x))
    → AllByRecursion P xs → AllByRecursion P (changed_at n f xs)
AllByRecursion-changed P n f [] one all = tt
AllByRecursion-changed P zero f (x ∷ xs) one all = (one x refl all.0, all.1)
AllByRecursion-changed P (suc n) f (x ∷ xs) one all = (all.0, AllByRecursion-changed P n f xs one all.1)

AllByRecursion-weaker : {X : Type 0} (P Q : X → Type 0) (xs : List X) → ((x : X) → P x → Q x) → AllByRecursion P xs → AllByRecursion Q xs
AllByRecursion-weaker P Q [] one all = tt
AllByRecursion-weaker P Q (x ∷ xs) one all = (one x all.0, AllByRecursion-weaker P Q xs one all.1)

AllByRecursion-map : {X : Type 0} (P : X → Type 0) (f : X → X) (xs : List X) → ((x : X) → P x → P (f x)) → AllByRecursion P xs → AllByRecursion P (map f xs)
AllByRecursion-map P f [] one all = tt
AllByRecursion-map P f (x ∷ xs) one all = (one x all.0, AllByRecursion-map P f xs one all.1)

-- SNAPSHOTS

snapshot-later : (latest now : ℕ) (standing : Standing) → latest ≤ now → IsMadeSnapshot latest standing → IsMadeSnapshot now standing
snapshot-later latest now idle low made = tt
snapshot-later latest now lost low made = tt
snapshot-later latest now (running run) low made = omega (arith, low, made)

snapshot-on_run : (latest : ℕ) (f : Run → Run) (standing : Standing) → ((run : Run) → (f run).snapshot ≡ run.snapshot) → IsMadeSnapshot latest standing → IsMadeSnapshot latest (on_run f standing)
snapshot-on_run latest f idle same made = tt
snapshot-on_run latest f lost same made = tt
snapshot-on_run latest f (running run) same made = rw (same run) made

snapshot-refused : (latest : ℕ) (cause : Refusal) (standing : Standing) → IsMadeSnapshot latest standing → IsMadeSnapshot latest (after_refusal cause standing)
snapshot-refused latest cause idle made = tt
snapshot-refused latest cause lost made = at_told (tells_lost cause)
  where
    at_told : (told : Bool) → IsMadeSnapshot latest (if told then idle else lost)
    at_told true = tt
    at_told false = tt
snapshot-refused latest cause (running run) made = at_own run.own
  where
    at_own : (own : Bool) → IsMadeSnapshot latest (if own then idle else running (record run { now = run.start }))
    at_own true = tt
    at_own false = made

snapshot-lost : (latest n : ℕ) (session : Session) → IsMadeSnapshot latest session.standing → IsMadeSnapshot latest (loses n session).standing
snapshot-lost latest n session made = at_node (nat_eq session.node n)
  where
    at_lost : (standing : Standing) → IsMadeSnapshot latest standing → IsMadeSnapshot latest (loses_run standing)
    at_lost idle made = tt
    at_lost lost made = tt
    at_lost (running run) made = tt

    at_node : (here : Bool) → IsMadeSnapshot latest (if here then loses_run session.standing else session.standing)
    at_node true = at_lost session.standing made
    at_node false = made

snapshot-takes : (latest l : ℕ) (statement : Option Statement) (session : Session) → IsMadeSnapshot latest session.standing → IsMadeSnapshot latest (takes_effect statement l session).standing
snapshot-takes latest l None session made = made
snapshot-takes latest l (Some statement) session made = at_standing session.standing made
  where
    at_standing : (standing : Standing) → IsMadeSnapshot latest standing → IsMadeSnapshot latest (took_effect statement l standing (record session { standing = standing })).standing
    at_standing idle made = tt
    at_standing lost made = tt
    at_standing (running run) made = at_own run.own
      where
        at_own : (own : Bool) → IsMadeSnapshot latest (took_effect statement l (running (record run { own = own })) (record session { standing = running run })).standing
        at_own true = made
        at_own false = made

snapshot-rolls : (latest l : ℕ) (session : Session) → IsMadeSnapshot latest (rolls_back l session).standing
snapshot-rolls latest zero session = tt
snapshot-rolls latest (suc l) session = tt

snapshot-begins : (latest l c : ℕ) (db : Database) (statement : Option Statement) (session : Session) → c ≤ latest → IsMadeSnapshot latest session.standing → IsMadeSnapshot latest (begins statement l c db session).standing
snapshot-begins latest l c db None session low made = made
snapshot-begins latest l c db (Some statements.Begin) session low made = low
snapshot-begins latest l c db (Some (statements.Write write)) session low made = low
snapshot-begins latest l c db (Some (statements.Select select)) session low made = low
snapshot-begins latest l c db (Some other) session low made = made

-- POSITIONS

kind_position-within : (kind : NodeKind) (latest position : ℕ) → position ≤ latest → kind_position kind latest position ≤ latest
kind_position-within node_kinds.Coordinator latest position low = omega arith
kind_position-within node_kinds.Writer latest position low = low
kind_position-within node_kinds.Reader latest position low = low

kind_position-later : (kind : NodeKind) (latest now position : ℕ) → latest ≤ now → kind_position kind latest position ≤ latest → kind_position kind now position ≤ now
kind_position-later node_kinds.Coordinator latest now position low made = omega arith
kind_position-later node_kinds.Writer latest now position low made = omega (arith, low, made)
kind_position-later node_kinds.Reader latest now position low made = omega (arith, low, made)

-- CHANGES

one_session : (latest place : ℕ) (f : Session → Session) (sessions : List Session) → ((session : Session) → IsMadeSnapshot latest session.standing → IsMadeSnapshot latest (f session).standing)
    → AllByRecursion (λ (session : Session). IsMadeSnapshot latest session.standing) sessions
    → AllByRecursion (λ (session : Session). IsMadeSnapshot latest session.standing) (changed_at place f sessions)
one_session latest place f sessions one all = AllByRecursion-changed (λ (session : Session). IsMadeSnapshot latest session.standing) place f sessions (λ session is. one session) all

moved_nodes : (latest c : ℕ) (session : Option Session) (nodes : List Node) → c ≤ latest
    → AllByRecursion (λ (node : Node). node_position latest node ≤ latest) nodes
    → AllByRecursion (λ (node : Node). node_position latest node ≤ latest) (nodes_at session c nodes)
moved_nodes latest c None nodes low all = all
moved_nodes latest c (Some session) nodes low all =
    AllByRecursion-changed (λ (node : Node). node_position latest node ≤ latest) session.node (moved_to c) nodes
    (λ node is made. kind_position-within node.kind latest c low) all

one_node : (latest n c : ℕ) (f : Node → Node) (nodes : List Node) → c ≤ latest → ((node : Node) → node_position latest (f node) ≡ kind_position node.kind latest c)
    → AllByRecursion (λ (node : Node). node_position latest node ≤ latest) nodes
    → AllByRecursion (λ (node : Node). node_position latest node ≤ latest) (changed_at n f nodes)
one_node latest n c f nodes low is all =
    AllByRecursion-changed (λ (node : Node). node_position latest node ≤ latest) n f nodes (λ node at made. rw (is node) (kind_position-within node.kind latest c low)) all

later_nodes : (latest now : ℕ) (nodes : List Node) → latest ≤ now
    → AllByRecursion (λ (node : Node). node_position latest node ≤ latest) nodes → AllByRecursion (λ (node : Node). node_position now node ≤ now) nodes
later_nodes latest now nodes low all =
    AllByRecursion-weaker (λ (node : Node). node_position latest node ≤ latest) (λ (node : Node). node_position now node ≤ now) nodes
    (λ node made. kind_position-later node.kind latest now node.position low made) all

later_sessions : (latest now : ℕ) (sessions : List Session) → latest ≤ now
    → AllByRecursion (λ (session : Session). IsMadeSnapshot latest session.standing) sessions
    → AllByRecursion (λ (session : Session). IsMadeSnapshot now session.standing) sessions
later_sessions latest now sessions low all =
    AllByRecursion-weaker (λ (session : Session). IsMadeSnapshot latest session.standing) (λ (session : Session). IsMadeSnapshot now session.standing) sessions
    (λ session made. snapshot-later latest now session.standing low made) all

taking_nodes : (latest : ℕ) (report : Option Report) (nodes : List Node)
    → AllByRecursion (λ (node : Node). node_position latest node ≤ latest) nodes
    → AllByRecursion (λ (node : Node). node_position latest node ≤ latest) (nodes_taking report nodes)
taking_nodes latest None nodes all = all
taking_nodes latest (Some report) nodes all =
    AllByRecursion-changed (λ (node : Node). node_position latest node ≤ latest) report.node (taken_up report.floor) nodes (λ node is made. made) all

-- the node of a session whose transaction begins is at a commit that was made
begin_within : (s : State) (place l c : ℕ) → IsPossible s (entries.Begin place l c) → AreMade s → c ≤ s.latest
unfolding IsPossible
begin_within s place l c h made = at_node (OfLine-found s place l (CanBegin s place c) h)
  where
    at_nodes : (n : ℕ) (nodes : List Node) → AllByRecursion (λ (node : Node). node_position s.latest node ≤ s.latest) nodes
        → IsSomeAnd (slice_get nodes n) (λ node. c ≡ node_position s.latest node) → c ≤ s.latest
    at_nodes n [] all is = absurd is
    at_nodes zero (node ∷ nodes) all is = rw is all.0
    at_nodes (suc n) (node ∷ nodes) all is = at_nodes n nodes all.1 is

    at_node : LineFound s place l (CanBegin s place c) → c ≤ s.latest
    at_node found = at_nodes found.session.node s.nodes made.positions found.holds.snapshot

apply_within : (s : State) (n l c : ℕ) → IsPossible s (entries.Apply n l c) → c ≤ s.latest
unfolding IsPossible
apply_within s n l c h = at_node (slice_get s.nodes n) h
  where
    at_node : (o : Option Node) → IsSomeAnd o (λ node. ((node.excluded ≡ false) × (c ≡ node_position s.latest node + 1) × (node_position s.latest node < s.latest)) × OfTurn s l (λ step. step ≡ steps.Apply node.name)) → c ≤ s.latest
    at_node None p = absurd p
    at_node (Some node) p = rw p.0.1 (omega (arith, p.0.2))

include_within : (s : State) (n l c : ℕ) → IsPossible s (entries.Include n l c) → c ≤ s.latest
unfolding IsPossible
include_within s n l c h = at_node (slice_get s.nodes n) h
  where
    at_node : (o : Option Node) → IsSomeAnd o (λ node. ((node.excluded ≡ true) × (c ≡ s.latest)) × OfStep s l (λ step. step ≡ steps.Include node.name)) → c ≤ s.latest
    at_node None p = absurd p
    at_node (Some node) p = rw p.0.1 (omega arith)

sync_within : (s : State) (place l c : ℕ) → IsPossible s (entries.Sync place l c) → c ≤ s.latest
unfolding IsPossible
sync_within s place l c h = rw h.1 (omega arith)

-- no entry that is possible leads to a snapshot or a position that isn't a commit
pub AreMade-change : (s : State) (e : Entry) → IsPossible s e → AreMade s → AreMade (change s e)
unfolding change
AreMade-change s (entries.Begin place l c) h made = record {
  snapshots = one_session s.latest place _ s.sessions (λ session. snapshot-begins s.latest l c _ _ session (begin_within s place l c h made)) made.snapshots;
  positions = made.positions;
}
AreMade-change s (entries.Lock place l names) h made = record {
  snapshots = one_session s.latest place _ s.sessions (λ session. snapshot-on_run s.latest (holds_more names) session.standing (λ run. refl)) made.snapshots;
  positions = made.positions;
}
AreMade-change s (entries.Done place l) h made = record {
  snapshots = one_session s.latest place _ s.sessions (λ session. snapshot-takes s.latest l _ session) made.snapshots;
  positions = made.positions;
}
AreMade-change s (entries.Refused None l cause) h made = record { snapshots = made.snapshots; positions = made.positions }
AreMade-change s (entries.Refused (Some place) l cause) h made = record {
  snapshots = one_session s.latest place _ s.sessions (λ session. snapshot-refused s.latest cause session.standing) made.snapshots;
  positions = made.positions;
}
AreMade-change s (entries.Commit place l c) h made = record {
  snapshots = one_session (s.latest + 1) place _ s.sessions (λ session was. tt) (later_sessions s.latest (s.latest + 1) s.sessions (omega arith) made.snapshots);
  positions = moved_nodes (s.latest + 1) c _ s.nodes (rw (commit_number s place l c h) (omega arith)) (later_nodes s.latest (s.latest + 1) s.nodes (omega arith) made.positions);
}
AreMade-change s (entries.End place l) h made = record {
  snapshots = one_session s.latest place _ s.sessions (λ session was. tt) made.snapshots;
  positions = made.positions;
}
AreMade-change s (entries.Rollback place l) h made = record {
  snapshots = one_session s.latest place _ s.sessions (λ session was. snapshot-rolls s.latest l session) made.snapshots;
  positions = made.positions;
}
AreMade-change s (entries.Halt place l c before after) h made = record {
  snapshots = one_session s.latest place _ s.sessions (λ session. snapshot-refused s.latest (refusals.StoreFault before after) session.standing) made.snapshots;
  positions = made.positions;
}
AreMade-change s (entries.Savepoint place l name) h made = record {
  snapshots = one_session s.latest place _ s.sessions (λ session. snapshot-on_run s.latest (saves_as name) session.standing (λ run. refl)) made.snapshots;
  positions = made.positions;
}
AreMade-change s (entries.Back place l name) h made = record {
  snapshots = one_session s.latest place _ s.sessions (λ session. snapshot-on_run s.latest (back_to name) session.standing (λ run. refl)) made.snapshots;
  positions = made.positions;
}
AreMade-change s (entries.Release place l name) h made = record {
  snapshots = one_session s.latest place _ s.sessions (λ session. snapshot-on_run s.latest (release_to name) session.standing (λ run. refl)) made.snapshots;
  positions = made.positions;
}
AreMade-change s (entries.Sync place l c) h made = record {
  snapshots = one_session s.latest place _ s.sessions (λ session was. was) made.snapshots;
  positions = moved_nodes s.latest c _ s.nodes (sync_within s place l c h) made.positions;
}
AreMade-change s (entries.Apply n l c) h made = record {
  snapshots = made.snapshots;
  positions = one_node s.latest n c (moved_to c) s.nodes (apply_within s n l c h) (λ node. refl) made.positions;
}
AreMade-change s (entries.Send n l number floor) h made = record { snapshots = made.snapshots; positions = made.positions }
AreMade-change s (entries.Lose l number) h made = record { snapshots = made.snapshots; positions = made.positions }
AreMade-change s (entries.Take l number horizon freed) h made = record {
  snapshots = made.snapshots;
  positions = taking_nodes s.latest _ s.nodes made.positions;
}
AreMade-change s (entries.Own n l horizon freed) h made = record { snapshots = made.snapshots; positions = made.positions }
AreMade-change s (entries.Restart n l incarnation) h made = record {
  snapshots = AllByRecursion-map _ (loses n) s.sessions (λ session. snapshot-lost s.latest n session) made.snapshots;
  positions = one_node s.latest n s.latest (restarted s.latest incarnation) s.nodes (omega arith) (λ node. refl) made.positions;
}
AreMade-change s (entries.Exclude n l incarnation) h made = record {
  snapshots = AllByRecursion-map _ (loses n) s.sessions (λ session. snapshot-lost s.latest n session) made.snapshots;
  positions = AllByRecursion-changed (λ (node : Node). node_position s.latest node ≤ s.latest) n (excluded incarnation) s.nodes (λ node is was. was) made.positions;
}
AreMade-change s (entries.Include n l c) h made = record {
  snapshots = made.snapshots;
  positions = one_node s.latest n c (included c) s.nodes (include_within s n l c h) (λ node. refl) made.positions;
}
AreMade-change s (entries.Space l census) h made = record { snapshots = made.snapshots; positions = made.positions }
AreMade-change s (entries.Versions l) h made = record { snapshots = made.snapshots; positions = made.positions }

pub AreMade-replay : (s : State) (es : List Entry) → IsLegal s es → AreMade s → AreMade (replay s es)
unfolding IsLegal replay
AreMade-replay s [] h made = made
AreMade-replay s (e ∷ es) h made = AreMade-replay (change s e) es h.1 (AreMade-change s e h.0 made)

-- where a run starts nothing runs, and all positions are 0
sessions-start : (place : ℕ) (lines : List Line) (specs : List SessionSpec) → AllByRecursion (λ (session : Session). IsMadeSnapshot 0 session.standing) (sessions_from place lines specs)
sessions-start place lines [] = tt
sessions-start place lines (spec ∷ specs) = (tt, sessions-start (place + 1) lines specs)

nodes-start : (specs : List NodeSpec) → AllByRecursion (λ (node : Node). node_position 0 node ≤ 0) (map node_start specs)
nodes-start [] = tt
nodes-start (spec ∷ specs) = (kind_position-within spec.kind 0 0 (omega arith), nodes-start specs)

pub AreMade-start : (blocks : ℕ) (told : Bool) (script : Script) (opening : Database) → AreMade (start blocks told script opening)
AreMade-start blocks told script opening = record { snapshots = sessions-start 0 script.lines script.sessions; positions = nodes-start script.nodes }

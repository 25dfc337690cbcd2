-- Undisturbed entries that are possible keep what holds of each state.
use Rattle.std.specs.Prelude.{◌≡◌, ◌≢◌, ◌⊎◌, refl, ℕ, Bool, true, false, List, ◌∷◌, Option, Some, None, map, nat_eq, IsSomeAnd}
use Rattle.std.specs.List.{slice_get}
use Rattle.std.specs.Option.{option_map}
use Rattle.std.proofs.Common.{◌∙◌, ap, sym, inl, inr}
use Rattle.std.proofs.lemmas.Option.{slice_get-map}
use Rattle.std.proofs.lemmas.Bool.Decides.{eqb_tells}
use Rattle.iq_ast.specs.declared.statements.Statement.{Statement}
use Rattle.iq_history.specs.declared.entries.Entry.{Entry}
use Rattle.iq_history.specs.declared.entries.Entry.TheVariants as entries
use Rattle.iq_model.specs.declared.scripts.Deed.TheVariants as deeds
use Rattle.iq_model.specs.declared.scripts.Line.{Line}
use Rattle.iq_replay.specs.State.{State, Session, Standing, idle, lost, running, Node, Report, changed_at, moved_to}
use Rattle.iq_replay.specs.Nodes.{is_coordinator, report_of}
use Rattle.iq_replay.specs.Commits.{database_of}
use Rattle.iq_replay.specs.Lines.{CanBegin, CanTake}
use Rattle.iq_replay.specs.Changes.{statement_of, deed_statement, holds_more, saves_as, back_to, release_to, takes_effect, loses_run, loses, nodes_at, taken_up, nodes_taking, restarted, excluded, included}
use Rattle.iq_replay.specs.Entries.{IsPossible, change}
use Rattle.iq_replay.proofs.Lines.{LineFound, OfLine-found}
use Rattle.iq_replay.proofs.Places.{slice_get-others}
use Rattle.iq_script_order.specs.Fixed.{IsUndisturbed}
use Rattle.iq_script_order.proofs.Next.{IsIncluded}
use Rattle.iq_script_order.proofs.Sound.{IsNumbered-change, AreSound, AreSound-changed, IncludedAt, IsSoundSession, IsSound, sound_changed, included_run, sound_refused, sound_rolls, sound_begins, sound_takes, sound_nodes}

-- SESSIONS OF AN ENTRY

-- a session's line as its first statement
pub head_is : (session : Session) (line : Line) (lines : List Line) (statement : Statement) → session.left ≡ line ∷ lines → line.deed ≡ deeds.Statement statement → statement_of session.left ≡ Some statement
head_is session line lines statement left deed = ap statement_of left ∙ ap deed_statement deed

same_session : (o : Option Session) (session found : Session) → o ≡ Some session → o ≡ Some found → found ≡ session
same_session o session found is was = cc (is, was)

-- a transaction begins on a node that isn't excluded
begin_included : (s : State) (place c : ℕ) (session : Session) (statement : Statement) → CanBegin s place c session statement → IsIncluded (slice_get s.nodes session.node)
begin_included s place c session statement h = at_node_is (slice_get s.nodes session.node) refl
  where
    at_excluded : (node : Node) → slice_get s.nodes session.node ≡ Some node → (b : Bool) → node.excluded ≡ b → node.excluded ≡ false
    at_excluded node is false q = q
    at_excluded node is true q = cc (rw (h.none, is, q) at h.granted)

    at_node_is : (o : Option Node) → slice_get s.nodes session.node ≡ o → IsIncluded o
    at_node_is None is = tt
    at_node_is (Some node) is = at_excluded node is node.excluded refl

begun_sessions : (s : State) (place l c : ℕ) → LineFound s place l (CanBegin s place c) → (session : Session) → slice_get s.sessions place ≡ Some session → IsIncluded (slice_get s.nodes session.node)
begun_sessions s place l c found session is = at_same (same_session _ session found.session is found.found)
  where
    at_same : found.session ≡ session → IsIncluded (slice_get s.nodes session.node)
    at_same same = rw (← same) (begin_included s place c found.session found.statement found.holds)

taken_sessions : (s : State) (place l : ℕ) → LineFound s place l (CanTake s place) → (session : Session) → slice_get s.sessions place ≡ Some session → IsSoundSession s.nodes session
    → IsSoundSession s.nodes (takes_effect (statement_of session.left) l session)
taken_sessions s place l found session is h = sound_takes s.nodes l session found.statement (at_same (same_session _ session found.session is found.found)) found.holds.tables h
  where
    at_same : found.session ≡ session → statement_of session.left ≡ Some found.statement
    at_same same = rw (← same) (head_is found.session found.line found.lines found.statement found.left found.deed)

-- NODES OF AN ENTRY

moved_sound : (session : Option Session) (c : ℕ) (nodes : List Node) → AreSound nodes → AreSound (nodes_at session c nodes)
moved_sound None c nodes h = h
moved_sound (Some session) c nodes h = AreSound-changed session.node (moved_to c) nodes (λ node. refl) (λ node is. h.coordinators session.node node is) h

moved_sessions : (at : Option Session) (c : ℕ) (nodes : List Node) (session : Session) → IsSoundSession nodes session → IsSoundSession (nodes_at at c nodes) session
moved_sessions None c nodes session h = h
moved_sessions (Some at) c nodes session h = sound_nodes nodes at.node (moved_to c) session (λ node k. k) h

taking_sound : (report : Option Report) (nodes : List Node) → AreSound nodes → AreSound (nodes_taking report nodes)
taking_sound None nodes h = h
taking_sound (Some report) nodes h = AreSound-changed report.node (taken_up report.floor) nodes (λ node. refl) (λ node is. h.coordinators report.node node is) h

taking_sessions : (report : Option Report) (nodes : List Node) (session : Session) → IsSoundSession nodes session → IsSoundSession (nodes_taking report nodes) session
taking_sessions None nodes session h = h
taking_sessions (Some report) nodes session h = sound_nodes nodes report.node (taken_up report.floor) session (λ node k. k) h

-- the sessions of a node lose their transactions
lost_sound : (nodes : List Node) (n : ℕ) (f : Node → Node) (session : Session) → IsSoundSession nodes session → IsSoundSession (changed_at n f nodes) (loses n session)
lost_sound nodes n f session h = record { included = at_node (eqb_tells session.node n); head = h.head }
  where
    at_lost : (o : Option Node) (standing : Standing) → IncludedAt o (loses_run standing)
    at_lost o idle = tt
    at_lost o lost = tt
    at_lost o (running run) = tt

    at_node : ((nat_eq session.node n ≡ true) × (session.node ≡ n)) ⊎ ((nat_eq session.node n ≡ false) × (session.node ≢ n)) → IncludedAt (slice_get (changed_at n f nodes) session.node) (loses n session).standing
    at_node (inl e) = rw e.0 (at_lost _ session.standing)
    at_node (inr e) = rw (e.0, slice_get-others n session.node f nodes (λ q. e.1 (sym q))) h.included

lost_sessions : (s : State) (n : ℕ) (f : Node → Node) → ((p : ℕ) (session : Session) → slice_get s.sessions p ≡ Some session → IsSoundSession s.nodes session)
    → (p : ℕ) (session : Session) → slice_get (map (loses n) s.sessions) p ≡ Some session → IsSoundSession (changed_at n f s.nodes) session
lost_sessions s n f all p session is = at_before (slice_get s.sessions p) refl (sym (slice_get-map (loses n) s.sessions p) ∙ is)
  where
    at_before : (o : Option Session) → slice_get s.sessions p ≡ o → option_map (loses n) o ≡ Some session → IsSoundSession (changed_at n f s.nodes) session
    at_before None was k = cc k
    at_before (Some before) was k = at_same (loses n before) (lost_sound s.nodes n f before (all p before was)) (cc k)
      where
        at_same : (this : Session) → IsSoundSession (changed_at n f s.nodes) this → this ≡ session → IsSoundSession (changed_at n f s.nodes) session
        at_same this sound same = rw (← same) sound

-- a node's step that is possible: its node
node_of_step : (s : State) (n : ℕ) (P Q : Node → Type 0) → IsSomeAnd (slice_get s.nodes n) (λ node. P node × Q node) → (node : Node) → slice_get s.nodes n ≡ Some node → P node
node_of_step s n P Q h node is = at_o (slice_get s.nodes n) is h
  where
    at_o : (o : Option Node) → o ≡ Some node → IsSomeAnd o (λ node. P node × Q node) → P node
    at_o o is h = (rw is at h).0

-- EVERY ENTRY

halted_stays : (s : State) (e : Entry) → IsUndisturbed e → s.halted ≡ None → (change s e).halted ≡ None
unfolding change
halted_stays s (entries.Refused None l cause) u none = none
halted_stays s (entries.Refused (Some q) l cause) u none = none
halted_stays s (entries.Halt q l c before after) u none = absurd u
halted_stays s other u none = none

pub include_kind : (s : State) (n : ℕ) → AreSound s.nodes → (node : Node) → slice_get s.nodes n ≡ Some node → node.excluded ≡ true → is_coordinator node.kind ≡ false
include_kind s n sound node is excluded = at_kind (is_coordinator node.kind) refl
  where
    at_kind : (b : Bool) → is_coordinator node.kind ≡ b → is_coordinator node.kind ≡ false
    at_kind true q = cc (excluded, sound.coordinators n node is q)
    at_kind false q = q

nodes_stay : (s : State) (e : Entry) → IsPossible s e → AreSound s.nodes → AreSound (change s e).nodes
unfolding IsPossible change
nodes_stay s (entries.Refused None l cause) h sound = sound
nodes_stay s (entries.Refused (Some q) l cause) h sound = sound
nodes_stay s (entries.Commit q l c) h sound = moved_sound (slice_get s.sessions q) c s.nodes sound
nodes_stay s (entries.Sync q l c) h sound = moved_sound (slice_get s.sessions q) c s.nodes sound
nodes_stay s (entries.Apply n l c) h sound = AreSound-changed n (moved_to c) s.nodes (λ node. refl) (λ node is. sound.coordinators n node is) sound
nodes_stay s (entries.Take l number horizon freed) h sound = taking_sound (report_of number s.bag) s.nodes sound
nodes_stay s (entries.Restart n l incarnation) h sound = AreSound-changed n (restarted s.latest incarnation) s.nodes (λ node. refl) (λ node is. sound.coordinators n node is) sound
nodes_stay s (entries.Exclude n l incarnation) h sound =
    AreSound-changed n (excluded incarnation) s.nodes (λ node. refl) (λ node is kind. cc (kind, (node_of_step s n _ _ h node is).0.kind)) sound
nodes_stay s (entries.Include n l c) h sound = AreSound-changed n (included c) s.nodes (λ node. refl) (λ node is kind. refl) sound
nodes_stay s other h sound = sound

sessions_stay : (s : State) (e : Entry) → IsPossible s e → IsUndisturbed e → IsSound s
    → (p : ℕ) (session : Session) → slice_get (change s e).sessions p ≡ Some session → IsSoundSession (change s e).nodes session
unfolding IsPossible change
sessions_stay s (entries.Begin q l c) h u sound = sound_changed s.nodes s.sessions q _ (λ session is. sound_begins s.nodes l c (database_of s c) session (statement_of session.left) refl (begun_sessions s q l c (OfLine-found s q l _ h) session is) (sound.sessions q session is)) sound.sessions
sessions_stay s (entries.Lock q l names) h u sound = sound_changed s.nodes s.sessions q _ (λ session is. record { included = included_run _ (holds_more names) session.standing (sound.sessions q session is).included; head = tt }) sound.sessions
sessions_stay s (entries.Done q l) h u sound = sound_changed s.nodes s.sessions q _ (λ session is. taken_sessions s q l (OfLine-found s q l _ h) session is (sound.sessions q session is)) sound.sessions
sessions_stay s (entries.Refused None l cause) h u sound = sound.sessions
sessions_stay s (entries.Refused (Some q) l cause) h u sound = sound_changed s.nodes s.sessions q _ (λ session is. sound_refused s.nodes l cause session (sound.sessions q session is)) sound.sessions
sessions_stay s (entries.Commit q l c) h u sound = sound_changed _ s.sessions q _ (λ session is. record { included = tt; head = tt }) (λ p session is. moved_sessions (slice_get s.sessions q) c s.nodes session (sound.sessions p session is))
sessions_stay s (entries.End q l) h u sound = sound_changed s.nodes s.sessions q _ (λ session is. record { included = tt; head = tt }) sound.sessions
sessions_stay s (entries.Rollback q l) h u sound = sound_changed s.nodes s.sessions q _ (λ session is. sound_rolls s.nodes l session (sound.sessions q session is)) sound.sessions
sessions_stay s (entries.Halt q l c before after) h u sound = absurd u
sessions_stay s (entries.Savepoint q l name) h u sound = sound_changed s.nodes s.sessions q _ (λ session is. record { included = included_run _ (saves_as name) session.standing (sound.sessions q session is).included; head = tt }) sound.sessions
sessions_stay s (entries.Back q l name) h u sound = sound_changed s.nodes s.sessions q _ (λ session is. record { included = included_run _ (back_to name) session.standing (sound.sessions q session is).included; head = tt }) sound.sessions
sessions_stay s (entries.Release q l name) h u sound = sound_changed s.nodes s.sessions q _ (λ session is. record { included = included_run _ (release_to name) session.standing (sound.sessions q session is).included; head = tt }) sound.sessions
sessions_stay s (entries.Sync q l c) h u sound = sound_changed _ s.sessions q _ (λ session is. record { included = (moved_sessions (slice_get s.sessions q) c s.nodes session (sound.sessions q session is)).included; head = tt }) (λ p session is. moved_sessions (slice_get s.sessions q) c s.nodes session (sound.sessions p session is))
sessions_stay s (entries.Apply n l c) h u sound = λ p session is. sound_nodes s.nodes n (moved_to c) session (λ node k. k) (sound.sessions p session is)
sessions_stay s (entries.Send n l number floor) h u sound = sound.sessions
sessions_stay s (entries.Lose l number) h u sound = sound.sessions
sessions_stay s (entries.Take l number horizon freed) h u sound = λ p session is. taking_sessions (report_of number s.bag) s.nodes session (sound.sessions p session is)
sessions_stay s (entries.Own n l horizon freed) h u sound = sound.sessions
sessions_stay s (entries.Restart n l incarnation) h u sound = lost_sessions s n (restarted s.latest incarnation) sound.sessions
sessions_stay s (entries.Exclude n l incarnation) h u sound = lost_sessions s n (excluded incarnation) sound.sessions
sessions_stay s (entries.Include n l c) h u sound = λ p session is. sound_nodes s.nodes n (included c) session (λ node k. refl) (sound.sessions p session is)
sessions_stay s (entries.Space l census) h u sound = sound.sessions
sessions_stay s (entries.Versions l) h u sound = sound.sessions

pub IsSound-change : (s : State) (e : Entry) → IsPossible s e → IsUndisturbed e → IsSound s → IsSound (change s e)
IsSound-change s e h undisturbed sound = record {
  halted = halted_stays s e undisturbed sound.halted;
  numbers = IsNumbered-change s e h sound.numbers;
  nodes = nodes_stay s e h sound.nodes;
  sessions = sessions_stay s e h undisturbed sound;
}

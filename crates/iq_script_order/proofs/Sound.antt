-- What holds of each state of an undisturbed history.
use Rattle.std.specs.Prelude.{◌≡◌, ◌≢◌, ◌⊎◌, refl, ℕ, zero, suc, ⊤, Bool, true, false, List, [], ◌∷◌, Option, Some, None, nat_eq, if◌then◌else◌}
use Rattle.std.specs.List.{slice_get}
use Rattle.std.specs.Option.{option_map}
use Rattle.std.proofs.Common.{◌∙◌, ap, sym, inl, inr}
use Rattle.std.proofs.lemmas.Bool.Decides.{eqb_tells}
use Rattle.iq_base.specs.declared.refusals.Refusal.{Refusal}
use Rattle.iq_ast.specs.declared.statements.Statement.{Statement}
use Rattle.iq_ast.specs.declared.statements.Statement.TheVariants as statements
use Rattle.iq_history.specs.declared.entries.Entry.{Entry}
use Rattle.iq_statements.specs.Statements.{IsOnTables}
use Rattle.iq_statements.specs.Tables.{Database}
use Rattle.iq_replay.specs.State.{State, Session, Stage, fresh, begun, locked, done, Standing, idle, lost, running, Run, Node, changed_at}
use Rattle.iq_replay.specs.Nodes.{is_coordinator}
use Rattle.iq_replay.specs.Causes.{tells_lost}
use Rattle.iq_replay.specs.Changes.{statement_of, on_run, begins, took_own, took_for_all, took_effect, takes_effect, after_refusal, refused, rolls_back, included}
use Rattle.iq_replay.specs.Entries.{IsPossible, change}
use Rattle.iq_replay.proofs.Places.{slice_get-changed, slice_get-others}
use Rattle.iq_script_order.proofs.Left.{has_number, left_of, Went-change, Went-steps, Went-back}
use Rattle.iq_script_order.proofs.Next.{IsIncluded}
use Rattle.iq_script_order.proofs.Steps.{names_in}
use Rattle.iq_script_order.specs.Fixed.{AreDistinct}

-- NUMBERS

-- a line's number is left at one place alone
pub record IsNumbered (s : State) : Type 0 where
  pub once : (p q n : ℕ) → has_number n (left_of s p) ≡ true → has_number n (left_of s q) ≡ true → p ≡ q
  pub apart : (p n : ℕ) → has_number n (left_of s p) ≡ true → has_number n s.steps ≡ true → ⊥

pub IsNumbered-change : (s : State) (e : Entry) → IsPossible s e → IsNumbered s → IsNumbered (change s e)
IsNumbered-change s e h numbered = record {
  once = λ p q n k m. numbered.once p q n (Went-back _ n _ _ (Went-change s e p h) k) (Went-back _ n _ _ (Went-change s e q h) m);
  apart = λ p n k m. numbered.apart p n (Went-back _ n _ _ (Went-change s e p h) k) (Went-back _ n _ _ (Went-steps s e h) m);
}

-- NODES

-- no node changes its name or its kind, and a coordinator is never excluded
pub record AreSound (nodes : List Node) : Type 0 where
  pub distinct : AreDistinct (names_in nodes)
  pub coordinators : (n : ℕ) (node : Node) → slice_get nodes n ≡ Some node → is_coordinator node.kind ≡ true → node.excluded ≡ false

names-changed : (n : ℕ) (f : Node → Node) (nodes : List Node) → ((node : Node) → (f node).name ≡ node.name) → names_in (changed_at n f nodes) ≡ names_in nodes
names-changed n f [] same = refl
names-changed zero f (node ∷ nodes) same = rw (same node) refl
names-changed (suc n) f (node ∷ nodes) same = rw (names-changed n f nodes same) refl

coordinators-changed : (n : ℕ) (f : Node → Node) (nodes : List Node)
    → ((node : Node) → slice_get nodes n ≡ Some node → is_coordinator (f node).kind ≡ true → (f node).excluded ≡ false)
    → ((m : ℕ) (node : Node) → slice_get nodes m ≡ Some node → is_coordinator node.kind ≡ true → node.excluded ≡ false)
    → (m : ℕ) (node : Node) → slice_get (changed_at n f nodes) m ≡ Some node → is_coordinator node.kind ≡ true → node.excluded ≡ false
coordinators-changed n f [] here all m node is kind = all m node is kind
coordinators-changed zero f (first ∷ nodes) here all zero node is kind = at_first (f first) (here first refl) (cc is) kind
  where
    at_first : (this : Node) → (is_coordinator this.kind ≡ true → this.excluded ≡ false) → this ≡ node → is_coordinator node.kind ≡ true → node.excluded ≡ false
    at_first this k same q = rw (← same) (k (rw same q))
coordinators-changed zero f (first ∷ nodes) here all (suc m) node is kind = all (suc m) node is kind
coordinators-changed (suc n) f (first ∷ nodes) here all zero node is kind = all zero node is kind
coordinators-changed (suc n) f (first ∷ nodes) here all (suc m) node is kind = coordinators-changed n f nodes here (λ k. all (suc k)) m node is kind

pub AreSound-changed : (n : ℕ) (f : Node → Node) (nodes : List Node) → ((node : Node) → (f node).name ≡ node.name)
    → ((node : Node) → slice_get nodes n ≡ Some node → is_coordinator (f node).kind ≡ true → (f node).excluded ≡ false) → AreSound nodes → AreSound (changed_at n f nodes)
AreSound-changed n f nodes same here h = record {
  distinct = rw (names-changed n f nodes same) h.distinct;
  coordinators = coordinators-changed n f nodes here h.coordinators;
}

-- SESSIONS

-- a running transaction's node isn't excluded
abbrev pub IncludedAt : Option Node → Standing → Type 0
IncludedAt o idle = ⊤
IncludedAt o lost = ⊤
IncludedAt o (running run) = IsIncluded o

-- a line that waits for its commit is one on tables
abbrev pub IsTablesHead : Stage → Option Statement → Type 0
IsTablesHead fresh o = ⊤
IsTablesHead begun o = ⊤
IsTablesHead locked o = ⊤
IsTablesHead done None = ⊤
IsTablesHead done (Some statement) = IsOnTables statement

pub record IsSoundSession (nodes : List Node) (session : Session) : Type 0 where
  pub included : IncludedAt (slice_get nodes session.node) session.standing
  pub head : IsTablesHead session.stage (statement_of session.left)

pub record IsSound (s : State) : Type 0 where
  pub halted : s.halted ≡ None
  pub numbers : IsNumbered s
  pub nodes : AreSound s.nodes
  pub sessions : (p : ℕ) (session : Session) → slice_get s.sessions p ≡ Some session → IsSoundSession s.nodes session

-- all sessions are sound where the one that changed is
pub sound_changed : (nodes : List Node) (sessions : List Session) (q : ℕ) (f : Session → Session)
    → ((session : Session) → slice_get sessions q ≡ Some session → IsSoundSession nodes (f session))
    → ((p : ℕ) (session : Session) → slice_get sessions p ≡ Some session → IsSoundSession nodes session)
    → (p : ℕ) (session : Session) → slice_get (changed_at q f sessions) p ≡ Some session → IsSoundSession nodes session
sound_changed nodes sessions q f here all p session is = at_place (eqb_tells q p)
  where
    at_here : (o : Option Session) → slice_get sessions q ≡ o → option_map f o ≡ Some session → IsSoundSession nodes session
    at_here None was k = cc k
    at_here (Some before) was k = at_same (f before) (here before was) (cc k)
      where
        at_same : (this : Session) → IsSoundSession nodes this → this ≡ session → IsSoundSession nodes session
        at_same this sound same = rw (← same) sound

    at_place : ((nat_eq q p ≡ true) × (q ≡ p)) ⊎ ((nat_eq q p ≡ false) × (q ≢ p)) → IsSoundSession nodes session
    at_place (inl e) = at_here (slice_get sessions q) refl (sym (slice_get-changed q f sessions) ∙ ap (slice_get (changed_at q f sessions)) e.1 ∙ is)
    at_place (inr e) = all p session (sym (slice_get-others q p f sessions e.1) ∙ is)

-- STANDINGS

pub included_run : (o : Option Node) (f : Run → Run) (standing : Standing) → IncludedAt o standing → IncludedAt o (on_run f standing)
included_run o f idle h = tt
included_run o f lost h = tt
included_run o f (running run) h = h

pub included_refused : (o : Option Node) (cause : Refusal) (standing : Standing) → IncludedAt o standing → IncludedAt o (after_refusal cause standing)
included_refused o cause idle h = tt
included_refused o cause lost h = at_told (tells_lost cause)
  where
    at_told : (told : Bool) → IncludedAt o (if told then idle else lost)
    at_told true = tt
    at_told false = tt
included_refused o cause (running run) h = at_own run.own
  where
    at_own : (own : Bool) → IncludedAt o (if own then idle else running (record run { now = run.start }))
    at_own true = tt
    at_own false = h

pub sound_refused : (nodes : List Node) (l : ℕ) (cause : Refusal) (session : Session) → IsSoundSession nodes session → IsSoundSession nodes (refused l cause session)
sound_refused nodes l cause session h = record { included = included_refused _ cause session.standing h.included; head = tt }

pub sound_rolls : (nodes : List Node) (l : ℕ) (session : Session) → IsSoundSession nodes session → IsSoundSession nodes (rolls_back l session)
sound_rolls nodes zero session h = record { included = tt; head = h.head }
sound_rolls nodes (suc l) session h = record { included = tt; head = tt }

pub sound_begins : (nodes : List Node) (l c : ℕ) (db : Database) (session : Session) (o : Option Statement) → statement_of session.left ≡ o → IsIncluded (slice_get nodes session.node)
    → IsSoundSession nodes session → IsSoundSession nodes (begins o l c db session)
sound_begins nodes l c db session None is included h = h
sound_begins nodes l c db session (Some statements.Begin) is included h = record { included = included; head = tt }
sound_begins nodes l c db session (Some (statements.Write write)) is included h = record { included = included; head = tt }
sound_begins nodes l c db session (Some (statements.Select select)) is included h = record { included = included; head = tt }
sound_begins nodes l c db session (Some other) is included h = h

pub sound_takes : (nodes : List Node) (l : ℕ) (session : Session) (statement : Statement) → statement_of session.left ≡ Some statement → IsOnTables statement → IsSoundSession nodes session
    → IsSoundSession nodes (takes_effect (statement_of session.left) l session)
sound_takes nodes l session statement is tables h = rw is (at_standing session.standing h.included)
  where
    at_own : (run : Run) → IsIncluded (slice_get nodes session.node) → (own : Bool) → IsSoundSession nodes (if own then took_own statement run session else took_for_all statement l run session)
    at_own run k true = record { included = k; head = rw is tables }
    at_own run k false = record { included = k; head = tt }

    at_standing : (standing : Standing) → IncludedAt (slice_get nodes session.node) standing → IsSoundSession nodes (took_effect statement l standing session)
    at_standing idle k = h
    at_standing lost k = h
    at_standing (running run) k = at_own run k run.own

-- NODES OF SESSIONS

pub included_kept : (n m : ℕ) (f : Node → Node) (nodes : List Node) → ((node : Node) → node.excluded ≡ false → (f node).excluded ≡ false) → IsIncluded (slice_get nodes m) → IsIncluded (slice_get (changed_at n f nodes) m)
included_kept n m f [] keeps h = h
included_kept zero zero f (node ∷ nodes) keeps h = keeps node h
included_kept zero (suc m) f (node ∷ nodes) keeps h = h
included_kept (suc n) zero f (node ∷ nodes) keeps h = h
included_kept (suc n) (suc m) f (node ∷ nodes) keeps h = included_kept n m f nodes keeps h

pub included_at_kept : (standing : Standing) (o o' : Option Node) → (IsIncluded o → IsIncluded o') → IncludedAt o standing → IncludedAt o' standing
included_at_kept idle o o' keeps h = tt
included_at_kept lost o o' keeps h = tt
included_at_kept (running run) o o' keeps h = keeps h

pub sound_nodes : (nodes : List Node) (n : ℕ) (f : Node → Node) (session : Session) → ((node : Node) → node.excluded ≡ false → (f node).excluded ≡ false) → IsSoundSession nodes session → IsSoundSession (changed_at n f nodes) session
sound_nodes nodes n f session keeps h = record { included = included_at_kept session.standing _ _ (included_kept n session.node f nodes keeps) h.included; head = h.head }

-- Lines that are left: they go one by one, each with an entry of its number.
use Rattle.std.specs.Prelude.{◌≡◌, ◌≢◌, ◌⊎◌, refl, ℕ, zero, suc, Bool, true, false, ◌||◌, List, [], ◌∷◌, Option, Some, None, drop, nat_eq, if◌then◌else◌, IsSomeAnd}
use Rattle.std.specs.List.{slice_get}
use Rattle.std.specs.Option.{option_map}
use Rattle.std.proofs.Common.{◌∙◌, sym, inl, inr}
use Rattle.std.proofs.lemmas.Option.{slice_get-map}
use Rattle.std.proofs.lemmas.Bool.{ne_eqb}
use Rattle.std.proofs.lemmas.Bool.Decides.{eqb_tells}
use Rattle.iq_base.specs.Shorts.{Name}
use Rattle.iq_base.specs.declared.refusals.Refusal.{Refusal}
use Rattle.iq_ast.specs.declared.statements.Statement.{Statement}
use Rattle.iq_ast.specs.declared.statements.Statement.TheVariants as statements
use Rattle.iq_history.specs.declared.entries.Entry.{Entry}
use Rattle.iq_history.specs.declared.entries.Entry.TheVariants as entries
use Rattle.iq_model.specs.declared.scripts.Deed.{Deed}
use Rattle.iq_model.specs.declared.scripts.Line.{Line}
use Rattle.iq_model.specs.declared.scripts.Step.{Step}
use Rattle.iq_statements.specs.Tables.{Database}
use Rattle.iq_replay.specs.State.{State, Session, Standing, idle, lost, running, Run, Node, changed_at}
use Rattle.iq_replay.specs.Commits.{database_of}
use Rattle.iq_replay.specs.Lines.{CanRefuseStep}
use Rattle.iq_replay.specs.Changes.{statement_of, begins, took_own, took_for_all, took_effect, takes_effect, loses, steps_after}
use Rattle.iq_replay.specs.Entries.{IsPossible, change}
use Rattle.iq_replay.specs.Histories.{line_of}
use Rattle.iq_replay.specs.Asked.{FirstIs, StatementIs, OfLine, OfStep, OfTurn}
use Rattle.iq_replay.proofs.Places.{slice_get-changed, slice_get-others}

-- whether one of the lines has this number
abbrev pub has_number : ℕ → List Line → Bool
has_number n [] = false
has_number n (line ∷ lines) = nat_eq line.number n || has_number n lines

abbrev pub left_in : Option Session → List Line
left_in None = []
left_in (Some session) = session.left

-- the lines that are left to the session at a place
abbrev pub left_of : State → ℕ → List Line
left_of s place = left_in (slice_get s.sessions place)

-- a list of lines, or the same without its first, which has this number
pub data Went (l : ℕ) (before : List Line) : List Line → Type 0 where
  same : Went l before before
  first : (line : Line) (lines : List Line) → before ≡ line ∷ lines → line.number ≡ l → Went l before lines

-- FIRST LINES

-- the first line, under a number, and those behind it
pub record First (l : ℕ) (lines : List Line) : Type 0 where
  pub line : Line
  pub behind : List Line
  pub is : lines ≡ line ∷ behind
  pub number : line.number ≡ l

pub FirstIs-first : (lines : List Line) (l : ℕ) (P : Deed → Type 0) → FirstIs lines l P → First l lines
FirstIs-first [] l P h = absurd h
FirstIs-first (line ∷ lines) l P h = record { line = line; behind = lines; is = refl; number = h.0 }

Went-drop : (l : ℕ) (lines : List Line) → First l lines → Went l lines (drop 1 lines)
Went-drop l lines first_is = rw first_is.is (first first_is.line first_is.behind refl first_is.number)

-- SESSIONS

-- a session whose left lines stay, or lose their first
abbrev pub LeavesOrDrops : Session → Session → Type 0
LeavesOrDrops session now = (now.left ≡ session.left) ⊎ (now.left ≡ drop 1 session.left)

Went-either : (l : ℕ) (session now : Session) → First l session.left → LeavesOrDrops session now → Went l session.left now.left
Went-either l session now first_is (inl p) = rw p same
Went-either l session now first_is (inr p) = rw p (Went-drop l session.left first_is)

some_first : (s : State) (place l : ℕ) (P : Session → Statement → Type 0) → OfLine s place l P → (session : Session) → slice_get s.sessions place ≡ Some session → First l session.left
some_first s place l P h session is = FirstIs-first session.left l _ (at_session (slice_get s.sessions place) is h.1)
  where
    at_session : (o : Option Session) → o ≡ Some session → IsSomeAnd o (λ (this : Session). FirstIs this.left l (λ deed. StatementIs deed (P this))) → FirstIs session.left l (λ deed. StatementIs deed (P session))
    at_session o is h = rw is at h

pub Went-session : (s : State) (q p l : ℕ) (f : Session → Session) → ((session : Session) → slice_get s.sessions q ≡ Some session → Went l session.left (f session).left)
    → Went l (left_of s p) (left_in (slice_get (changed_at q f s.sessions) p))
Went-session s q p l f one = at_place (eqb_tells q p)
  where
    at_same : (o : Option Session) → slice_get s.sessions q ≡ o → Went l (left_in o) (left_in (option_map f o))
    at_same None is = same
    at_same (Some session) is = one session is

    at_place : ((nat_eq q p ≡ true) × (q ≡ p)) ⊎ ((nat_eq q p ≡ false) × (q ≢ p)) → Went l (left_of s p) (left_in (slice_get (changed_at q f s.sessions) p))
    at_place (inl e) = rw (← e.1, slice_get-changed q f s.sessions) (at_same (slice_get s.sessions q) refl)
    at_place (inr e) = rw (slice_get-others q p f s.sessions e.1) same

begins-left : (o : Option Statement) (l c : ℕ) (db : Database) (session : Session) → LeavesOrDrops session (begins o l c db session)
begins-left None l c db session = inl refl
begins-left (Some statements.Begin) l c db session = inr refl
begins-left (Some other) l c db session = inl refl

takes-left : (o : Option Statement) (l : ℕ) (session : Session) → LeavesOrDrops session (takes_effect o l session)
takes-left None l session = inl refl
takes-left (Some statement) l session = at_standing session.standing
  where
    at_own : (own : Bool) (run : Run) → LeavesOrDrops session (if own then took_own statement run session else took_for_all statement l run session)
    at_own true run = inl refl
    at_own false run = inr refl

    at_standing : (standing : Standing) → LeavesOrDrops session (took_effect statement l standing session)
    at_standing idle = inl refl
    at_standing lost = inl refl
    at_standing (running run) = at_own run.own run

left-lost : (n : ℕ) (o : Option Session) → left_in (option_map (loses n) o) ≡ left_in o
left-lost n None = refl
left-lost n (Some session) = refl

-- the lines that are left to a session, after an entry that is possible
pub Went-change : (s : State) (e : Entry) (p : ℕ) → IsPossible s e → Went (line_of e) (left_of s p) (left_of (change s e) p)
unfolding IsPossible change
Went-change s (entries.Begin q l c) p h = Went-session s q p l _ (λ session is. Went-either l session (begins (statement_of session.left) l c (database_of s c) session) (some_first s q l _ h session is) (begins-left (statement_of session.left) l c (database_of s c) session))
Went-change s (entries.Lock q l names) p h = Went-session s q p l _ (λ session is. same)
Went-change s (entries.Done q l) p h = Went-session s q p l _ (λ session is. Went-either l session (takes_effect (statement_of session.left) l session) (some_first s q l _ h session is) (takes-left (statement_of session.left) l session))
Went-change s (entries.Refused None l cause) p h = same
Went-change s (entries.Refused (Some q) l cause) p h = Went-session s q p l _ (λ session is. Went-drop l session.left (some_first s q l _ h session is))
Went-change s (entries.Commit q l c) p h = Went-session s q p l _ (λ session is. Went-drop l session.left (some_first s q l _ h session is))
Went-change s (entries.End q l) p h = Went-session s q p l _ (λ session is. Went-drop l session.left (some_first s q l _ h session is))
Went-change s (entries.Rollback q zero) p h = Went-session s q p 0 _ (λ session is. same)
Went-change s (entries.Rollback q (suc l)) p h = Went-session s q p (suc l) _ (λ session is. Went-drop (suc l) session.left (some_first s q (suc l) _ h session is))
Went-change s (entries.Halt q l c before after) p h = Went-session s q p l _ (λ session is. Went-drop l session.left (some_first s q l _ h session is))
Went-change s (entries.Savepoint q l name) p h = Went-session s q p l _ (λ session is. Went-drop l session.left (some_first s q l _ h session is))
Went-change s (entries.Back q l name) p h = Went-session s q p l _ (λ session is. Went-drop l session.left (some_first s q l _ h session is))
Went-change s (entries.Release q l name) p h = Went-session s q p l _ (λ session is. Went-drop l session.left (some_first s q l _ h session is))
Went-change s (entries.Sync q l c) p h = Went-session s q p l _ (λ session is. Went-drop l session.left (some_first s q l _ h.0 session is))
Went-change s (entries.Apply n l c) p h = same
Went-change s (entries.Send n l number floor) p h = same
Went-change s (entries.Lose l number) p h = same
Went-change s (entries.Take l number horizon freed) p h = same
Went-change s (entries.Own n l horizon freed) p h = same
Went-change s (entries.Restart n l incarnation) p h = rw (slice_get-map (loses n) s.sessions p, left-lost n (slice_get s.sessions p)) same
Went-change s (entries.Exclude n l incarnation) p h = rw (slice_get-map (loses n) s.sessions p, left-lost n (slice_get s.sessions p)) same
Went-change s (entries.Include n l c) p h = same
Went-change s (entries.Space l census) p h = same
Went-change s (entries.Versions l) p h = same

-- STEPS

turn_went : (s : State) (l : ℕ) (P : Step → Type 0) → OfTurn s l P → Went l s.steps (steps_after l s.steps)
turn_went s zero P h = same
turn_went s (suc l) P h = Went-drop (suc l) s.steps (FirstIs-first s.steps (suc l) _ h.1)

step_went : (s : State) (l : ℕ) (P : Step → Type 0) → OfStep s l P → Went l s.steps (steps_after l s.steps)
step_went s zero P h = same
step_went s (suc l) P h = Went-drop (suc l) s.steps (FirstIs-first s.steps (suc l) _ h.1)

-- the turn of a node's step
node_turn : (s : State) (l : ℕ) (o : Option Node) (P : Node → Type 0) (named : Name → Step) → IsSomeAnd o (λ node. P node × OfTurn s l (λ step. step ≡ named node.name)) → Went l s.steps (steps_after l s.steps)
node_turn s l None P named h = absurd h
node_turn s l (Some node) P named h = turn_went s l _ h.1

node_step : (s : State) (l : ℕ) (o : Option Node) (P : Node → Type 0) (named : Name → Step) → IsSomeAnd o (λ node. P node × OfStep s l (λ step. step ≡ named node.name)) → Went l s.steps (steps_after l s.steps)
node_step s l None P named h = absurd h
node_step s l (Some node) P named h = step_went s l _ h.1

refused_went : (s : State) (l : ℕ) (cause : Refusal) → CanRefuseStep s l cause → Went l s.steps (steps_after l s.steps)
refused_went s l cause (inl p) = step_went s l _ p
refused_went s l cause (inr p) = turn_went s l _ p.0

-- the steps that are left, after an entry that is possible
pub Went-steps : (s : State) (e : Entry) → IsPossible s e → Went (line_of e) s.steps (change s e).steps
unfolding IsPossible change
Went-steps s (entries.Refused None l cause) h = refused_went s l cause h
Went-steps s (entries.Refused (Some q) l cause) h = same
Went-steps s (entries.Apply n l c) h = node_turn s l (slice_get s.nodes n) _ _ h
Went-steps s (entries.Send n l number floor) h = node_turn s l (slice_get s.nodes n) _ _ h
Went-steps s (entries.Lose l number) h = turn_went s l _ h.0
Went-steps s (entries.Take l number horizon freed) h = turn_went s l _ h.0
Went-steps s (entries.Own n l horizon freed) h = node_turn s l (slice_get s.nodes n) _ _ h
Went-steps s (entries.Restart n l incarnation) h = node_step s l (slice_get s.nodes n) _ _ h
Went-steps s (entries.Exclude n l incarnation) h = node_step s l (slice_get s.nodes n) _ _ h
Went-steps s (entries.Include n l c) h = node_step s l (slice_get s.nodes n) _ _ h
Went-steps s (entries.Space l census) h = step_went s l _ h.0
Went-steps s (entries.Versions l) h = step_went s l _ h
Went-steps s other h = same

-- NUMBERS THAT ARE LEFT

-- a number is left after an entry of another line
pub Went-keeps : (l n : ℕ) (before now : List Line) → Went l before now → l ≢ n → has_number n before ≡ true → has_number n now ≡ true
Went-keeps l n before now same other h = h
Went-keeps l n before now (first line lines is number) other h = at_first (rw is at h)
  where
    at_first : (nat_eq line.number n || has_number n now) ≡ true → has_number n now ≡ true
    at_first k = rw (ne_eqb line.number n (λ e. other (sym number ∙ e))) at k

-- a number that is left was left before
pub Went-back : (l n : ℕ) (before now : List Line) → Went l before now → has_number n now ≡ true → has_number n before ≡ true
Went-back l n before now same h = h
Went-back l n before now (first line lines is number) h = rw is (or_right (nat_eq line.number n) (has_number n now) h)
  where
    or_right : (a b : Bool) → b ≡ true → (a || b) ≡ true
    or_right true b k = refl
    or_right false b k = k

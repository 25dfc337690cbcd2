-- What an entry of a line changes, as the state's methods say it.
use Rattle.std.specs.Prelude.{◌≡◌, refl, ℕ, zero, suc, List, [], ◌∷◌, ◌||◌, Option, Some, nat_eq}
use Rattle.std.specs.List.{slice_get}
use Rattle.std.proofs.Common.{ap}
use Rattle.iq_base.specs.Shorts.{Name}
use Rattle.iq_base.specs.declared.refusals.Refusal.{Refusal}
use Rattle.iq_base.specs.declared.refusals.Refusal.TheVariants as refusals
use Rattle.iq_ast.specs.declared.statements.Statement.{Statement}
use Rattle.iq_history.specs.declared.entries.Entry.TheVariants as entries
use Rattle.iq_model.specs.declared.replies.Said.TheVariants as said
use Rattle.iq_replay.specs.State.{State, Session, with_session, changed_at}
use Rattle.iq_replay.specs.Causes.{faults_after}
use Rattle.iq_replay.specs.Commits.{database_of, with_commit}
use Rattle.iq_replay.specs.Changes.{statement_of, begins, locks_more, takes_effect, refused, commits, ends, rolls_back, ends_line, works, saves_as, back_to, release_to, work_of, nodes_at}
use Rattle.iq_replay.specs.Entries.{change}
use Rattle.iq_script_order.specs.Fixed.{IsCertain}

pub change_begin : (s : State) (p l c : ℕ) → change s (entries.Begin p l c) ≡ with_session p (λ session. begins (statement_of session.left) l c (database_of s c) session) s
unfolding change
change_begin s p l c = refl

pub change_lock : (s : State) (p l : ℕ) (names : List Name) → change s (entries.Lock p l names) ≡ with_session p (locks_more names) s
unfolding change
change_lock s p l names = refl

-- two changes of a list that do the same at the one place
changed_same : {X : Type 0} (n : ℕ) (f g : X → X) (xs : List X) (x : X) → slice_get xs n ≡ Some x → f x ≡ g x → changed_at n f xs ≡ changed_at n g xs
changed_same n f g [] x is same = refl
changed_same zero f g (y ∷ ys) x is same = ap (λ z. z ∷ ys) (at_same (cc is))
  where
    at_same : y ≡ x → f y ≡ g y
    at_same q = rw (q) same
changed_same (suc n) f g (y ∷ ys) x is same = ap (λ zs. y ∷ zs) (changed_same n f g ys x is same)

pub change_done : (s : State) (p l : ℕ) (session : Session) (statement : Statement) → slice_get s.sessions p ≡ Some session → statement_of session.left ≡ Some statement
    → change s (entries.Done p l) ≡ with_session p (takes_effect (Some statement) l) s
unfolding change
change_done s p l session statement is head =
    ap (λ (sessions : List Session). record s { sessions = sessions })
    (changed_same p (λ (session : Session). takes_effect (statement_of session.left) l session) (takes_effect (Some statement) l) s.sessions session is (ap (λ (o : Option Statement). takes_effect o l session) head))

-- a refusal that nothing disturbed tells no faults
faults_same : (cause : Refusal) (n : ℕ) → IsCertain cause → faults_after cause n ≡ n
faults_same (refusals.StoreFault before after) n h = absurd h
faults_same other n h = refl

pub change_refused : (s : State) (p l : ℕ) (cause : Refusal) → IsCertain cause → change s (entries.Refused (Some p) l cause) ≡ with_session p (refused l cause) s
unfolding change
change_refused s p l cause h = ap (λ (n : ℕ). with_session p (refused l cause) (record s { faults = n })) (faults_same cause s.faults h)

pub change_commit : (s : State) (p l c : ℕ) → change s (entries.Commit p l c)
    ≡ with_session p (commits l c) (with_commit (work_of (slice_get s.sessions p)) (record s { nodes = nodes_at (slice_get s.sessions p) c s.nodes }))
unfolding change
change_commit s p l c = refl

pub change_end : (s : State) (p l : ℕ) → change s (entries.End p l) ≡ with_session p (ends l) s
unfolding change
change_end s p l = refl

pub change_rollback : (s : State) (p l : ℕ) → change s (entries.Rollback p l) ≡ with_session p (rolls_back l) (record s { closing = nat_eq l 0 || s.closing })
unfolding change
change_rollback s p l = refl

pub change_savepoint : (s : State) (p l : ℕ) (name : Name) → change s (entries.Savepoint p l name) ≡ with_session p (λ session. ends_line l (said.Saved name) (works (saves_as name) session)) s
unfolding change
change_savepoint s p l name = refl

pub change_back : (s : State) (p l : ℕ) (name : Name) → change s (entries.Back p l name) ≡ with_session p (λ session. ends_line l (said.BackTo name) (works (back_to name) session)) s
unfolding change
change_back s p l name = refl

pub change_release : (s : State) (p l : ℕ) (name : Name) → change s (entries.Release p l name) ≡ with_session p (λ session. ends_line l (said.Released name) (works (release_to name) session)) s
unfolding change
change_release s p l name = refl

pub change_sync : (s : State) (p l c : ℕ) → change s (entries.Sync p l c) ≡ with_session p (ends_line l (said.Synced c)) (record s { nodes = nodes_at (slice_get s.sessions p) c s.nodes })
unfolding change
change_sync s p l c = refl

-- One session of the table is changed.
use Rattle.std.specs.Prelude.{◌≡◌, ◌≤◌, ◌<◌, refl, true, ℕ, zero, suc, ◌+◌, List, [], ◌∷◌, Some, length, slice_set, slice_index_or}
use Rattle.std.specs.List.{slice_get}
use Rattle.std.proofs.Common.{arith, ap, sym}
use Rattle.std.proofs.lemmas.List.{length-map}
use Rattle.iq_base.specs.Shorts.{Name}
use Rattle.iq_locks.specs.Locked.{LockState, held_at, holding}
use Rattle.iq_replay.specs.Asked.{IsRunning}
use Rattle.iq_replay.specs.Changes.{ends_run}
use Rattle.iq_replay.specs.State.{Session, Run, idle, not_held, changed_at, held_by}
use Rattle.iq_sessions.specs.declared.session.TransactionState.{TransactionState}
use Rattle.iq_sessions.specs.declared.session.TransactionState.TheVariants as transactions
use Rattle.iq_sessions.specs.Bare.{At}
use Rattle.iq_sessions.specs.Kept.{KeptSession, session_of, standing_of, save_of, sessions_of, HoldsFit, HasFewSaves, idled, runs_now, Turns, IsKeptAs}
use Rattle.iq_sessions.specs.Table.{IsTable, AllFit, HasSaveRoom, CanHoldMore, AsksLock, noted_of, table_of, with_at}

-- LISTS

set_same : {X : Type 0} (xs : List X) (n : ℕ) (d : X) → slice_set xs n (slice_index_or xs n d) ≡ xs
set_same [] n d = refl
set_same (x ∷ xs) zero d = refl
set_same (x ∷ xs) (suc n) d = ap (λ ys. x ∷ ys) (set_same xs n d)

-- A SESSION OF THE TABLE

-- the session at a place, as it is kept
pub kept_at : (sessions : List KeptSession) (held : List (List Name)) (n : ℕ) (x : KeptSession) → AllFit sessions held → n < length (sessions_of sessions held) → x ≡ slice_index_or sessions n x
    → slice_get (sessions_of sessions held) n ≡ Some (session_of x (held_at n held))
kept_at [] [] n x fit h is = absurd (omega (arith, h))
kept_at [] (names ∷ held) n x fit h is = absurd fit
kept_at (k ∷ sessions) [] n x fit h is = absurd fit
kept_at (k ∷ sessions) (names ∷ held) zero x fit h is = rw is refl
kept_at (k ∷ sessions) (names ∷ held) (suc n) x fit h is = kept_at sessions held n x fit.1 (omega (arith, h)) is

pub fits_at : (sessions : List KeptSession) (held : List (List Name)) (n : ℕ) (x : KeptSession) → AllFit sessions held → n < length (sessions_of sessions held) → x ≡ slice_index_or sessions n x
    → HoldsFit x.transaction (held_at n held)
fits_at [] [] n x fit h is = absurd (omega (arith, h))
fits_at [] (names ∷ held) n x fit h is = absurd fit
fits_at (k ∷ sessions) [] n x fit h is = absurd fit
fits_at (k ∷ sessions) (names ∷ held) zero x fit h is = rw is fit.0
fits_at (k ∷ sessions) (names ∷ held) (suc n) x fit h is = fits_at sessions held n x fit.1 (omega (arith, h)) is

pub as_many : (sessions : List KeptSession) (held : List (List Name)) → length (sessions_of sessions held) ≡ length sessions
as_many [] held = refl
as_many (k ∷ sessions) [] = ap suc (as_many sessions [])
as_many (k ∷ sessions) (names ∷ held) = ap suc (as_many sessions held)

pub as_many_held : (sessions : List KeptSession) (held : List (List Name)) → AllFit sessions held → length held ≡ length sessions
as_many_held [] [] fit = refl
as_many_held [] (names ∷ held) fit = absurd fit
as_many_held (k ∷ sessions) [] fit = absurd fit
as_many_held (k ∷ sessions) (names ∷ held) fit = ap suc (as_many_held sessions held fit.1)

-- what holds of the session at a place holds of the one that is kept there
pub at_kept : (sessions : List KeptSession) (held : List (List Name)) (n : ℕ) (x : KeptSession) (P : Session → Type 0) → AllFit sessions held → n < length (sessions_of sessions held) → x ≡ slice_index_or sessions n x
    → At n (sessions_of sessions held) P → P (session_of x (held_at n held))
at_kept sessions held n x P fit h is p = rw (kept_at sessions held n x fit h is) at p

pub at_made : (sessions : List KeptSession) (held : List (List Name)) (n : ℕ) (x : KeptSession) (P : Session → Type 0) → AllFit sessions held → n < length (sessions_of sessions held) → x ≡ slice_index_or sessions n x
    → P (session_of x (held_at n held)) → At n (sessions_of sessions held) P
at_made sessions held n x P fit h is p = rw (kept_at sessions held n x fit h is) p

-- a place of which something holds is one
pub at_within : (sessions : List Session) (n : ℕ) (P : Session → Type 0) → At n sessions P → n < length sessions
at_within [] n P p = absurd p
at_within (s ∷ sessions) zero P p = omega arith
at_within (s ∷ sessions) (suc n) P p = omega (arith, at_within sessions n P p)

pub within_kept : (sessions : List KeptSession) (held : List (List Name)) (n : ℕ) (P : Session → Type 0) → At n (sessions_of sessions held) P → n < length sessions
within_kept sessions held n P p = rw (as_many sessions held) at (at_within (sessions_of sessions held) n P p)

pub within_held : (sessions : List KeptSession) (held : List (List Name)) (n : ℕ) → AllFit sessions held → n < length (sessions_of sessions held) → n < length held
within_held sessions held n fit h = rw (as_many_held sessions held fit, ← as_many sessions held) h

-- fewer savepoints stand than can
pub save_room : (transaction : TransactionState) (names : List Name) → HasSaveRoom (standing_of transaction names) → HasFewSaves transaction
save_room transactions.Idle names few = tt
save_room transactions.Lost names few = tt
save_room (transactions.Running t) names few = omega (arith, few, length-map t.saves save_of)

-- a transaction that ends leaves none
pub idle_turns : (x y : KeptSession) (names : List Name) → y ≡ idled x → Turns x names ends_run y [] x.noted
idle_turns x y names q = rw q (record { session = refl; fits = refl; noted_is = refl })

pub no_names : (transaction : TransactionState) (names : List Name) → standing_of transaction names ≡ idle → HoldsFit transaction names → names ≡ []
no_names transactions.Idle names q fit = fit
no_names transactions.Lost names q fit = cc q
no_names (transactions.Running t) names q fit = cc q

pub held_by-kept : (transaction : TransactionState) (names : List Name) → HoldsFit transaction names → held_by (standing_of transaction names) ≡ names
held_by-kept transactions.Idle names fit = sym fit
held_by-kept transactions.Lost names fit = sym fit
held_by-kept (transactions.Running t) names fit = refl

pub kept_as : (x : KeptSession) (names : List Name) → HoldsFit x.transaction names → IsKeptAs x (session_of x names)
kept_as x names fit = let same = held_by-kept x.transaction names fit in record { is = rw same refl; fits = rw same fit }

pub held_made : (sessions : List KeptSession) (held : List (List Name)) (n : ℕ) → AllFit sessions held → n < length (sessions_of sessions held) → At n (sessions_of sessions held) (λ session. held_at n held ≡ held_by session.standing)
held_made [] [] n fit h = absurd (omega (arith, h))
held_made [] (names ∷ held) n fit h = absurd fit
held_made (k ∷ sessions) [] n fit h = absurd fit
held_made (k ∷ sessions) (names ∷ held) zero fit h = sym (held_by-kept k.transaction names fit.0)
held_made (k ∷ sessions) (names ∷ held) (suc n) fit h = held_made sessions held n fit.1 (omega (arith, h))

pub at_map : (n : ℕ) (sessions : List Session) (P Q : Session → Type 0) → At n sessions P → ((session : Session) → P session → Q session) → At n sessions Q
at_map n [] P Q p more = p
at_map zero (session ∷ sessions) P Q p more = more session p
at_map (suc n) (session ∷ sessions) P Q p more = at_map n sessions P Q p more

-- what holds of the names that are held holds of those of the session
pub at_held : (sessions : List KeptSession) (held : List (List Name)) (n : ℕ) (P : List Name → Type 0) → AllFit sessions held → n < length (sessions_of sessions held) → P (held_at n held)
    → At n (sessions_of sessions held) (λ session. P (held_by session.standing))
at_held sessions held n P fit h p = at_map n (sessions_of sessions held) (λ session. held_at n held ≡ held_by session.standing) (λ session. P (held_by session.standing)) (held_made sessions held n fit h) (λ session same. rw (← same) p)

-- ONE IS CHANGED

pub turned_sessions : (sessions : List KeptSession) (held : List (List Name)) (n : ℕ) (f : Session → Session) (x y : KeptSession) (after : List Name) → AllFit sessions held → n < length sessions
    → x ≡ slice_index_or sessions n x → session_of y after ≡ f (session_of x (held_at n held)) → sessions_of (slice_set sessions n y) (slice_set held n after) ≡ changed_at n f (sessions_of sessions held)
turned_sessions [] [] n f x y after fit h is q = absurd (omega (arith, h))
turned_sessions [] (names ∷ held) n f x y after fit h is q = absurd fit
turned_sessions (k ∷ sessions) [] n f x y after fit h is q = absurd fit
turned_sessions (k ∷ sessions) (names ∷ held) zero f x y after fit h is q = rw (q, is) refl
turned_sessions (k ∷ sessions) (names ∷ held) (suc n) f x y after fit h is q = ap (λ ss. session_of k names ∷ ss) (turned_sessions sessions held n f x y after fit.1 (omega (arith, h)) is q)

pub turned_fit : (sessions : List KeptSession) (held : List (List Name)) (n : ℕ) (y : KeptSession) (after : List Name) → AllFit sessions held → HoldsFit y.transaction after → AllFit (slice_set sessions n y) (slice_set held n after)
turned_fit [] [] n y after fit q = tt
turned_fit [] (names ∷ held) n y after fit q = absurd fit
turned_fit (k ∷ sessions) [] n y after fit q = absurd fit
turned_fit (k ∷ sessions) (names ∷ held) zero y after fit q = (q, fit.1)
turned_fit (k ∷ sessions) (names ∷ held) (suc n) y after fit q = (fit.0, turned_fit sessions held n y after fit.1 q)

pub noted_set : (sessions : List KeptSession) (n : ℕ) (y : KeptSession) → noted_of (slice_set sessions n y) ≡ slice_set (noted_of sessions) n y.noted
noted_set [] n y = refl
noted_set (k ∷ sessions) zero y = refl
noted_set (k ∷ sessions) (suc n) y = ap (λ ns. k.noted ∷ ns) (noted_set sessions n y)

noted_same : (sessions : List KeptSession) (n : ℕ) (x y : KeptSession) → x ≡ slice_index_or sessions n x → y.noted ≡ x.noted → noted_of (slice_set sessions n y) ≡ noted_of sessions
noted_same [] n x y is q = refl
noted_same (k ∷ sessions) zero x y is q = rw (q, is) refl
noted_same (k ∷ sessions) (suc n) x y is q = ap (λ ns. k.noted ∷ ns) (noted_same sessions n x y is q)

pub set_long : {X : Type 0} (xs : List X) (n : ℕ) (x : X) → length (slice_set xs n x) ≡ length xs
set_long [] n x = refl
set_long (y ∷ xs) zero x = refl
set_long (y ∷ xs) (suc n) x = ap suc (set_long xs n x)

-- the table where one session turned into another, and its names into others
pub record IsTurned (sessions : List KeptSession) (locks : LockState) (noted n : ℕ) (f : Session → Session) (new_sessions : List KeptSession) (new_locks : LockState) : Type 0 where
  pub table : IsTable new_sessions new_locks noted
  pub view : table_of new_sessions new_locks ≡ with_at n f (table_of sessions locks)

pub turned : (sessions : List KeptSession) (locks : LockState) (noted n : ℕ) (f : Session → Session) (x y : KeptSession) (after : List Name) → IsTable sessions locks noted → n < length (sessions_of sessions locks.held)
    → x ≡ slice_index_or sessions n x → Turns x (held_at n locks.held) f y after x.noted → IsTurned sessions locks noted n f (slice_set sessions n y) (holding n after locks)
turned sessions locks noted n f x y after table h is turns =
    let within : n < length sessions = rw (as_many sessions locks.held) at h in
    let same = noted_same sessions n x y is turns.noted_is in
    record {
      table = record { fit = turned_fit sessions locks.held n y after table.fit turns.fits; total = rw same table.total; room = table.room; few = rw (set_long sessions n y) table.few };
      view = rw (turned_sessions sessions locks.held n f x y after table.fit within is turns.session, same) refl;
    }

-- the same where its names stay
pub turned_alone : (sessions : List KeptSession) (locks : LockState) (noted n : ℕ) (f : Session → Session) (x y : KeptSession) → IsTable sessions locks noted → n < length (sessions_of sessions locks.held)
    → x ≡ slice_index_or sessions n x → Turns x (held_at n locks.held) f y (held_at n locks.held) x.noted → IsTurned sessions locks noted n f (slice_set sessions n y) locks
turned_alone sessions locks noted n f x y table h is turns =
    rw (ap (λ (held : List (List Name)). record locks { held = held }) (set_same locks.held n [])) at (turned sessions locks noted n f x y (held_at n locks.held) table h is turns)

-- LOCKS

pub lock_runs : (transaction : TransactionState) (names : List Name) (P : Run → Type 0) → IsRunning (standing_of transaction names) P → runs_now transaction ≡ true
lock_runs transactions.Idle names P p = absurd p
lock_runs transactions.Lost names P p = absurd p
lock_runs (transactions.Running t) names P p = refl

few_of : (transaction : TransactionState) (held names : List Name) (snapshot : ℕ) → IsRunning (standing_of transaction held) (CanHoldMore names snapshot) → length held + length (not_held held names) ≤ 64
few_of transactions.Idle held names snapshot p = absurd p
few_of transactions.Lost held names snapshot p = absurd p
few_of (transactions.Running t) held names snapshot p = p.few

pub lock_few : (sessions : List KeptSession) (held : List (List Name)) (n : ℕ) (names : List Name) (snapshot : ℕ) → AllFit sessions held → At n (sessions_of sessions held) (AsksLock names snapshot)
    → length (held_at n held) + length (not_held (held_at n held) names) ≤ 64
lock_few [] [] n names snapshot fit p = absurd p
lock_few [] (h ∷ held) n names snapshot fit p = absurd fit
lock_few (k ∷ sessions) [] n names snapshot fit p = absurd fit
lock_few (k ∷ sessions) (h ∷ held) zero names snapshot fit p = few_of k.transaction h names snapshot p.runs
lock_few (k ∷ sessions) (h ∷ held) (suc n) names snapshot fit p = lock_few sessions held n names snapshot fit.1 p

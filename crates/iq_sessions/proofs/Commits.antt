-- A session's commit in the table.
use Rattle.std.specs.Prelude.{◌≡◌, ◌≤◌, ◌<◌, refl, ℕ, zero, suc, ◌+◌, ◌-◌, List, [], ◌∷◌, ◌++◌, length, slice_set, slice_index_or}
use Rattle.std.proofs.Common.{arith, ap, sym, ◌∙◌}
use Rattle.iq_base.specs.Shorts.{Name}
use Rattle.iq_base.specs.Locks.{table_locks}
use Rattle.iq_locks.specs.Locked.{LockState, held_at, holding}
use Rattle.iq_replay.specs.State.{changed_at}
use Rattle.iq_replay.specs.Commits.{written_names}
use Rattle.iq_replay.specs.Changes.{work_in}
use Rattle.iq_sessions.specs.Changes.{ends_both}
use Rattle.iq_sessions.specs.declared.session.TransactionState.{TransactionState}
use Rattle.iq_sessions.specs.declared.session.TransactionState.TheVariants as transactions
use Rattle.iq_sessions.specs.Kept.{KeptSession, session_of, standing_of, sessions_of, created_of, HoldsFit, Turns}
use Rattle.iq_sessions.specs.Table.{IsTable, AllFit, total_of, noted_of, noted_at, table_of, noting}
use Rattle.iq_sessions.proofs.Turns.{as_many, turned_sessions, turned_fit, noted_set, set_long}

pub total_set : (xs : List ℕ) (n x y : ℕ) → n < length xs → x ≡ slice_index_or xs n 0 → total_of (slice_set xs n y) + x ≡ total_of xs + y
total_set [] n x y h is = absurd (omega (arith, h))
total_set (z ∷ xs) zero x y h is = omega (arith, is)
total_set (z ∷ xs) (suc n) x y h is = omega (arith, total_set xs n x y (omega (arith, h)) is)

pub noted_kept : (sessions : List KeptSession) (n : ℕ) (x : KeptSession) → n < length sessions → x ≡ slice_index_or sessions n x → x.noted ≡ noted_at n (noted_of sessions)
noted_kept [] n x h is = absurd (omega (arith, h))
noted_kept (k ∷ sessions) zero x h is = ap (λ (kept : KeptSession). kept.noted) is
noted_kept (k ∷ sessions) (suc n) x h is = noted_kept sessions n x (omega (arith, h)) is

pub noted_long : (sessions : List KeptSession) → length (noted_of sessions) ≡ length sessions
noted_long [] = refl
noted_long (k ∷ sessions) = ap suc (noted_long sessions)

pub written_kept : (transaction : TransactionState) (names : List Name) → HoldsFit transaction names → written_names (work_in (standing_of transaction names)) ≡ names ++ table_locks (created_of transaction)
written_kept transactions.Idle names fit = rw fit refl
written_kept transactions.Lost names fit = rw fit refl
written_kept (transactions.Running t) names fit = refl

fits_stay : (sessions : List KeptSession) (held : List (List Name)) (n k : ℕ) (x : KeptSession) → x ≡ slice_index_or sessions n x → AllFit sessions held → AllFit (slice_set sessions n (record x { noted = k })) held
fits_stay [] held n k x is fit = fit
fits_stay (z ∷ sessions) [] n k x is fit = absurd fit
fits_stay (z ∷ sessions) (names ∷ held) zero k x is fit = (rw is fit.0, fit.1)
fits_stay (z ∷ sessions) (names ∷ held) (suc n) k x is fit = (fit.0, fits_stay sessions held n k x is fit.1)

sessions_stay : (sessions : List KeptSession) (held : List (List Name)) (n k : ℕ) (x : KeptSession) → x ≡ slice_index_or sessions n x → sessions_of (slice_set sessions n (record x { noted = k })) held ≡ sessions_of sessions held
sessions_stay [] held n k x is = refl
sessions_stay (z ∷ sessions) [] zero k x is = rw is refl
sessions_stay (z ∷ sessions) (names ∷ held) zero k x is = rw is refl
sessions_stay (z ∷ sessions) [] (suc n) k x is = ap (λ ss. session_of z [] ∷ ss) (sessions_stay sessions [] n k x is)
sessions_stay (z ∷ sessions) (names ∷ held) (suc n) k x is = ap (λ ss. session_of z names ∷ ss) (sessions_stay sessions held n k x is)

pub same_at : {X : Type 0} (xs : List X) (n : ℕ) (x y : X) → n < length xs → x ≡ slice_index_or xs n x → y ≡ slice_index_or xs n y → x ≡ y
same_at [] n x y h p q = absurd (omega (arith, h))
same_at (z ∷ xs) zero x y h p q = p ∙ sym q
same_at (z ∷ xs) (suc n) x y h p q = same_at xs n x y (omega (arith, h)) p q

-- the table where a session has room for so many names, and others hold what they held
pub note_table : (sessions : List KeptSession) (locks now : LockState) (noted n k : ℕ) (x y : KeptSession) (total : ℕ) → IsTable sessions locks noted → n < length sessions → x ≡ slice_index_or sessions n x
    → y ≡ record x { noted = k } → now.held ≡ locks.held → total + x.noted ≡ noted + k → noted + k ≤ now.room → IsTable (slice_set sessions n y) now total
note_table sessions locks now noted n k x y total table h is y_is held total_is room =
    let within : n < length (noted_of sessions) = rw (noted_long sessions) h in
    let summed = total_set (noted_of sessions) n x.noted k within (noted_kept sessions n x h is) in
    rw y_is (record {
      fit = rw held (fits_stay sessions locks.held n k x is table.fit);
      total = rw (noted_set sessions n (record x { noted = k })) (omega (arith, summed, table.total, total_is));
      room = omega (arith, total_is, room);
      few = rw (set_long sessions n (record x { noted = k })) table.few;
    })

pub note_view : (sessions : List KeptSession) (locks now : LockState) (n k : ℕ) (x y : KeptSession) → x ≡ slice_index_or sessions n x → y ≡ record x { noted = k } → now.held ≡ locks.held → now.wrote ≡ locks.wrote
    → table_of (slice_set sessions n y) now ≡ noting n k (table_of sessions locks)
note_view sessions locks now n k x y is y_is held wrote = rw (y_is, held, wrote, sessions_stay sessions locks.held n k x is, noted_set sessions n (record x { noted = k })) refl

-- the table where a session's transaction ended with a commit that wrote so many names
pub record IsCommitted (sessions : List KeptSession) (locks : LockState) (noted n : ℕ) (y : KeptSession) (now : LockState) : Type 0 where
  pub table : IsTable (slice_set sessions n y) now noted
  pub sessions_are : sessions_of (slice_set sessions n y) now.held ≡ changed_at n ends_both (sessions_of sessions locks.held)
  pub noted_are : noted_of (slice_set sessions n y) ≡ slice_set (noted_of sessions) n 0

pub committed : (sessions : List KeptSession) (locks wrote : LockState) (noted n : ℕ) (x y : KeptSession) (count : ℕ) → IsTable sessions locks noted → n < length (sessions_of sessions locks.held) → x ≡ slice_index_or sessions n x
    → Turns (record x { noted = 0 }) (held_at n locks.held) ends_both y [] 0 → wrote.held ≡ locks.held → locks.room ≤ wrote.room + count → count ≤ x.noted
    → IsCommitted sessions locks (noted - x.noted) n y (holding n [] wrote)
committed sessions locks wrote noted n x y count table h is turns held room few =
    let within : n < length sessions = rw (as_many sessions locks.held) at h in
    let long : n < length (noted_of sessions) = rw (noted_long sessions) within in
    let summed = total_set (noted_of sessions) n x.noted 0 long (noted_kept sessions n x within is) in
    let noted_are : noted_of (slice_set sessions n y) ≡ slice_set (noted_of sessions) n 0 = noted_set sessions n y ∙ ap (slice_set (noted_of sessions) n) turns.noted_is in
    record {
      table = record {
        fit = rw held (turned_fit sessions locks.held n y [] table.fit turns.fits);
        total = rw noted_are (omega (arith, summed, table.total));
        room = omega (arith, table.room, room, few);
        few = rw (set_long sessions n y) table.few;
      };
      sessions_are = rw held (turned_sessions sessions locks.held n ends_both x y [] table.fit within is turns.session);
      noted_are = noted_are;
    }

total_within : (xs : List ℕ) (n : ℕ) → n < length xs → slice_index_or xs n 0 ≤ total_of xs
total_within [] n h = absurd (omega (arith, h))
total_within (x ∷ xs) zero h = omega arith
total_within (x ∷ xs) (suc n) h = omega (arith, total_within xs n (omega (arith, h)))

-- a session's room is part of all
pub noted_within : (sessions : List KeptSession) (locks : LockState) (noted n : ℕ) (x : KeptSession) → IsTable sessions locks noted → n < length sessions → x ≡ slice_index_or sessions n x → x.noted ≤ noted
noted_within sessions locks noted n x table h is = omega (arith, total_within (noted_of sessions) n (rw (noted_long sessions) h), noted_kept sessions n x h is, table.total)

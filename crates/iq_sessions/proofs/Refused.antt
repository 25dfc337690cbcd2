-- What refuses names: of the table of locks, and of the sessions.
use Rattle.std.specs.Prelude.{◌≡◌, refl, ℕ, ◌+◌, Bool, true, false, List, [], ◌∷◌, Option, Some, None, nat_lt, if◌then◌else◌}
use Rattle.iq_base.specs.Shorts.{Name}
use Rattle.iq_base.specs.declared.refusals.Refusal.{Refusal}
use Rattle.iq_base.specs.declared.refusals.Refusal.TheVariants as refusals
use Rattle.iq_statements.specs.Checks.{found_if, first_found}
use Rattle.iq_locks.specs.Locked.{Written, latest_of, first_of, lock_refusal, locked_by, has_name}
use Rattle.iq_locks.specs.Locked as locked
use Rattle.iq_replay.specs.Refusals.{locked_refusal, holder_from}
use Rattle.iq_sessions.specs.Kept.{KeptSession, sessions_of}
use Rattle.iq_sessions.specs.Table.{AllFit, later_refusal, names_refusal}
use Rattle.iq_sessions.proofs.Turns.{held_by-kept}

holder_same : (place : ℕ) (sessions : List KeptSession) (held : List (List Name)) (asks : ℕ) (name : Name) → AllFit sessions held → locked.holder_from place held asks name ≡ holder_from place (sessions_of sessions held) asks name
holder_same place [] [] asks name fit = refl
holder_same place [] (names ∷ held) asks name fit = absurd fit
holder_same place (k ∷ sessions) [] asks name fit = absurd fit
holder_same place (k ∷ sessions) (names ∷ held) asks name fit =
    rw (held_by-kept k.transaction names fit.0, holder_same (place + 1) sessions held asks name fit.1) refl

first_same : (f g : Name → Option Refusal) (names : List Name) → ((n : Name) → f n ≡ g n) → first_of f names ≡ first_found g names
first_same f g [] same = refl
first_same f g (n ∷ names) same = rw (same n, first_same f g names same) refl

by_mark : (b : Bool) (r : Refusal) → (if b then Some r else None) ≡ found_if b r
by_mark true r = refl
by_mark false r = refl

locked_same : (sessions : List KeptSession) (held : List (List Name)) (asks : ℕ) → AllFit sessions held → (name : Name) → locked.locked_refusal held asks name ≡ locked_refusal (sessions_of sessions held) asks name
locked_same sessions held asks fit name = rw (holder_same 0 sessions held asks name fit) at_holder
  where
    at_holder : locked_by name (holder_from 0 (sessions_of sessions held) asks name) ≡ locked_refusal (sessions_of sessions held) asks name
    at_holder = by_holder (holder_from 0 (sessions_of sessions held) asks name)
      where
        by_holder : (o : Option ℕ) → locked_by name o ≡ Rattle.iq_replay.specs.Refusals.locked_by name o
        by_holder None = refl
        by_holder (Some p) = refl

pub refusal_same : (sessions : List KeptSession) (held : List (List Name)) (wrote : List Written) (asks snapshot : ℕ) (names : List Name) → AllFit sessions held
    → lock_refusal held wrote asks snapshot names ≡ names_refusal (sessions_of sessions held) wrote asks snapshot names
refusal_same sessions held wrote asks snapshot names fit =
    rw (
      first_same (locked.locked_refusal held asks) (locked_refusal (sessions_of sessions held) asks) names (locked_same sessions held asks fit),
      first_same (locked.later_refusal wrote snapshot) (later_refusal wrote snapshot) names (λ n. by_mark (nat_lt snapshot (latest_of n wrote)) (refusals.Later n (latest_of n wrote))),
    ) refl

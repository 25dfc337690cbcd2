-- Names of savepoints, and the savepoints without tables that they stand for.
use Rattle.std.specs.Prelude.{◌≡◌, refl, ℕ, None, length, Bool, true, false, List, [], ◌∷◌, map, drop}
use Rattle.std.proofs.Math.Seq.{take-length}
use Rattle.std.proofs.Common.{arith}
use Rattle.iq_base.specs.Shorts.{Name}
use Rattle.iq_conditions.specs.Servers.{same_name}
use Rattle.iq_replay.specs.Changes.{saves_from}
use Rattle.iq_sessions.specs.declared.session.Transaction.{Transaction}
use Rattle.iq_sessions.specs.declared.session.TransactionState.TheVariants as transactions
use Rattle.iq_sessions.specs.Changes.{goes_back}
use Rattle.iq_sessions.specs.Kept.{KeptSession, save_of, ended, Turns}
use Rattle.iq_sessions.specs.Saves.{names_from}

pub saves_from_names : (name : Name) (names : List Name) → saves_from name (map save_of names) ≡ map save_of (names_from name names)
saves_from_names name [] = refl
saves_from_names name (n ∷ names) = at_same (same_name n name) refl (saves_from_names name names)
  where
    at_same : (b : Bool) → same_name n name ≡ b → saves_from name (map save_of names) ≡ map save_of (names_from name names) → saves_from name (map save_of (n ∷ names)) ≡ map save_of (names_from name (n ∷ names))
    at_same true q more = rw (q) refl
    at_same false q more = rw (q) more

pub drop_one-saves : (names : List Name) → drop 1 (map save_of names) ≡ map save_of (drop 1 names)
drop_one-saves [] = refl
drop_one-saves (n ∷ names) = refl

pub released_names : (name : Name) (names : List Name) → drop 1 (saves_from name (map save_of names)) ≡ map save_of (drop 1 (names_from name names))
released_names name names = rw (saves_from_names name names) (drop_one-saves (names_from name names))

-- back at a savepoint, a transaction that created nothing has as its line's work what it has now
pub back_turns : (old : KeptSession) (t : Transaction) (names : List Name) (name : Name) (held : ℕ) → old.transaction ≡ transactions.Running t → t.created ≡ None → length names ≡ held → (new : KeptSession)
    → new ≡ ended (record old { transaction = transactions.Running (record t { kept = held; saves = names_from name t.saves }) }) → Turns old names (goes_back name) new names old.noted
back_turns old t names name held is clear same new now =
    rw (now, ← same) (record { session = rw (is, clear, take-length names, saves_from_names name t.saves) refl; fits = omega arith; noted_is = refl })

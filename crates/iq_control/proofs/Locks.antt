-- The names that a line's transaction locks.
use Rattle.std.specs.Prelude.{◌≡◌, ◌≤◌, refl, ℕ, ◌+◌, Bool, true, false, List, [], ◌∷◌, Option, filter, length, unwrap_or}
use Rattle.std.proofs.Common.{ap, sym}
use Rattle.iq_base.specs.Shorts.{Name}
use Rattle.iq_base.specs.declared.refusals.Refusal.{Refusal}
use Rattle.iq_ast.specs.declared.statements.Statement.{Statement}
use Rattle.iq_replay.specs.State.{Session, Standing, idle, lost, running, Run, not_held}
use Rattle.iq_replay.specs.Nodes.{snapshot_of}
use Rattle.iq_replay.specs.Refusals.{wanted}
use Rattle.iq_replay.specs.Asked.{IsRunning, IsOpen, IsUnlocked}
use Rattle.iq_replay.specs.State.{Stage, fresh, begun, locked, done}
use Rattle.iq_sessions.specs.Table as table
use Rattle.iq_sessions.specs.Table.{names_refusal, wanted_of, wanted_refusal, TableState}
use Rattle.iq_control.specs.Asked.{AsksLock, HasHoldRoom}

filter_twice : (p : Name → Bool) (xs : List Name) → filter p (filter p xs) ≡ filter p xs
filter_twice p [] = refl
filter_twice p (x ∷ xs) = by_test (p x) refl (filter_twice p xs)
  where
    by_test : (b : Bool) → p x ≡ b → filter p (filter p xs) ≡ filter p xs → filter p (filter p (x ∷ xs)) ≡ filter p (x ∷ xs)
    by_test true q more = rw (q, q) (ap (λ (ys : List Name). x ∷ ys) more)
    by_test false q more = rw (q) more

not_held_twice : (held names : List Name) → not_held held (not_held held names) ≡ not_held held names
not_held_twice held names = filter_twice _ names

-- a running transaction, and what holds of it
pub record Runs (standing : Standing) (P : Run → Type 0) : Type 0 where
  pub run : Run
  pub is : standing ≡ running run
  pub holds : P run

pub runs_of : (standing : Standing) (P : Run → Type 0) → IsRunning standing P → Runs standing P
runs_of idle P p = absurd p
runs_of lost P p = absurd p
runs_of (running run) P p = record { run = run; is = refl; holds = p }

-- the names that a line wants aren't held
pub wanted_same : (names : List Name) (session : Session) (statement : Statement) → AsksLock names session statement → wanted_of names session ≡ names
wanted_same names session statement asks = at_run (runs_of session.standing _ asks.names_are)
  where
    at_run : Runs session.standing (λ run. names ≡ wanted statement run) → wanted_of names session ≡ names
    at_run here = rw (here.is, here.holds) (not_held_twice here.run.now.held _)

open_unlocked : (stage : Stage) → IsUnlocked stage → IsOpen stage
open_unlocked fresh h = tt
open_unlocked begun h = tt
open_unlocked locked h = absurd h
open_unlocked done h = absurd h

-- what the table of sessions asks
pub table_asks : (names : List Name) (snapshot : ℕ) (session : Session) (statement : Statement) → AsksLock names session statement → HasHoldRoom names session → snapshot ≡ unwrap_or (snapshot_of session.standing) 0
    → table.AsksLock names snapshot session
table_asks names snapshot session statement asks few snapshot_is = record { open_still = open_unlocked session.stage asks.stage; runs = at_run (runs_of session.standing _ asks.names_are) }
  where
    at_run : Runs session.standing (λ run. names ≡ wanted statement run) → IsRunning session.standing (table.CanHoldMore names snapshot)
    at_run here =
        let same = wanted_same names session statement asks in
        let few_here : length here.run.now.held + length (not_held here.run.now.held names) ≤ 64 = rw here.is at (rw (sym same) at few) in
        rw here.is (record { snapshot_is = sym (rw here.is at snapshot_is); few = few_here })

-- what refuses the names
pub refused_same : (names : List Name) (place snapshot : ℕ) (t : TableState) (session : Session) (statement : Statement) (found : Option Refusal) → AsksLock names session statement → snapshot ≡ unwrap_or (snapshot_of session.standing) 0
    → wanted_refusal names place snapshot t session ≡ found → IsRunning session.standing (λ run. names_refusal t.sessions t.wrote place run.snapshot names ≡ found)
refused_same names place snapshot t session statement found asks snapshot_is q = at_run (runs_of session.standing _ asks.names_are)
  where
    at_run : Runs session.standing (λ run. names ≡ wanted statement run) → IsRunning session.standing (λ run. names_refusal t.sessions t.wrote place run.snapshot names ≡ found)
    at_run here =
        let snapshot_here : snapshot ≡ here.run.snapshot = rw here.is at snapshot_is in
        rw here.is (rw (← snapshot_here) (rw (wanted_same names session statement asks) at q))

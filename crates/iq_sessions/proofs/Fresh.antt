-- The sessions before their first lines.
use Rattle.std.specs.Prelude.{◌≡◌, ◌<◌, ◌^◌, refl, ℕ, zero, suc, ◌+◌, List, [], ◌∷◌, length, replicate}
use Rattle.std.proofs.Common.{arith, ap}
use Rattle.iq_base.specs.declared.nodes.SessionSpec.{SessionSpec}
use Rattle.iq_model.specs.declared.scripts.Script.{Script}
use Rattle.iq_locks.specs.Locked.{LockState}
use Rattle.iq_replay.specs.Start.{sessions_from}
use Rattle.iq_sessions.specs.Kept.{KeptSession, sessions_of}
use Rattle.iq_sessions.specs.Table.{IsTable, AllFit, IsFresh, fresh_kepts, total_of, noted_of, table_of}

fresh_fit : (script : Script) (place : ℕ) (specs : List SessionSpec) → AllFit (fresh_kepts script place specs) (replicate (length specs) [])
fresh_fit script place [] = tt
fresh_fit script place (spec ∷ specs) = (refl, fresh_fit script (place + 1) specs)

fresh_sessions : (script : Script) (place : ℕ) (specs : List SessionSpec) → sessions_of (fresh_kepts script place specs) (replicate (length specs) []) ≡ sessions_from place script.lines specs
fresh_sessions script place [] = refl
fresh_sessions script place (spec ∷ specs) = rw (fresh_sessions script (place + 1) specs) refl

fresh_noted : (script : Script) (place : ℕ) (specs : List SessionSpec) → noted_of (fresh_kepts script place specs) ≡ replicate (length specs) 0
fresh_noted script place [] = refl
fresh_noted script place (spec ∷ specs) = rw (fresh_noted script (place + 1) specs) refl

no_total : (n : ℕ) → total_of (replicate n 0) ≡ 0
no_total zero = refl
no_total (suc n) = rw (no_total n) refl

fresh_long : (script : Script) (place : ℕ) (specs : List SessionSpec) → length (fresh_kepts script place specs) ≡ length specs
fresh_long script place [] = refl
fresh_long script place (spec ∷ specs) = ap suc (fresh_long script (place + 1) specs)

pub fresh_table : (script : Script) (locks : LockState) (sessions : List KeptSession) → sessions ≡ fresh_kepts script 0 script.sessions → locks.held ≡ replicate (length script.sessions) [] → length script.sessions < 2 ^ 32 → IsTable sessions locks 0
fresh_table script locks sessions is held few =
    rw is (record {
      fit = rw held (fresh_fit script 0 script.sessions);
      total = rw (fresh_noted script 0 script.sessions, no_total (length script.sessions)) refl;
      room = omega arith;
      few = rw (fresh_long script 0 script.sessions) few;
    })

pub fresh_view : (script : Script) (locks : LockState) (sessions : List KeptSession) → sessions ≡ fresh_kepts script 0 script.sessions → locks.held ≡ replicate (length script.sessions) [] → locks.wrote ≡ [] → IsFresh script (table_of sessions locks)
fresh_view script locks sessions is held wrote =
    rw is (record { sessions = rw held (fresh_sessions script 0 script.sessions); wrote = wrote; noted = fresh_noted script 0 script.sessions })

-- Sessions of the replayed state without tables and answers: what is left of them where no table is kept.
use Rattle.std.specs.Prelude.{ℕ, Bool, true, false, List, [], None, map, IsSomeAnd}
use Rattle.std.specs.List.{slice_get}
use Rattle.iq_replay.specs.State.{Work, Save, Run, Standing, idle, lost, running, Session}

abbrev pub bare_work : Work → Work
bare_work work = record work { seen = [] }

abbrev pub bare_save : Save → Save
bare_save save = record save { seen = [] }

abbrev pub bare_run : Run → Run
bare_run run = record run { start = bare_work run.start; now = bare_work run.now; saves = map bare_save run.saves }

abbrev pub bare_standing : Standing → Standing
bare_standing idle = idle
bare_standing lost = lost
bare_standing (running run) = running (bare_run run)

-- a session without the tables that its transaction and its savepoints see, and without what its lines were answered
abbrev pub bare_session : Session → Session
bare_session session = record session { standing = bare_standing session.standing; said = None; replies = [] }

-- the session at a place is there, and is such
abbrev pub At : ℕ → List Session → (Session → Type 0) → Type 0
At place sessions P = IsSomeAnd (slice_get sessions place) P

-- whether a transaction was lost
abbrev pub was_lost : Standing → Bool
was_lost idle = false
was_lost lost = true
was_lost (running run) = false

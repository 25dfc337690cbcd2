-- What the parts of a session mean.
use Rattle.std.specs.Prelude.{ℕ, Bool, true, false, List, [], Option, Some, None, if◌then◌else◌}
use Rattle.iq_base.specs.Shorts.{Name}
use Rattle.iq_model.specs.declared.scripts.Line.{Line}
use Rattle.iq_replay.specs.State.{Session, fresh, Standing, idle, lost, running, Run, has_name}

-- a session's standing: its transaction, or none, which was lost or not
abbrev pub standing_of : Bool → Option Run → Standing
standing_of is_lost None = if is_lost then lost else idle
standing_of is_lost (Some run) = running run

-- the transaction that runs
abbrev pub run_of : Standing → Option Run
run_of idle = None
run_of lost = None
run_of (running run) = Some run

-- whether the transaction was lost
abbrev pub was_lost : Standing → Bool
was_lost idle = false
was_lost lost = true
was_lost (running run) = false

-- a session before the first of its lines
abbrev pub fresh_session : ℕ → List Line → Session
fresh_session node left = record { node = node; standing = idle; stage = fresh; said = None; left = left; replies = [] }

-- a table's name, unless it is held
abbrev pub table_not_held : List Name → Option Name → Option Name
table_not_held held None = None
table_not_held held (Some name) = if has_name held name then None else Some name

-- The first refusal of a line, test by test.
use Rattle.std.specs.Prelude.{ℕ, Option, Some, None}
use Rattle.std.specs.List.{slice_get}
use Rattle.iq_base.specs.declared.refusals.Refusal.{Refusal}
use Rattle.iq_ast.specs.declared.statements.Statement.{Statement}
use Rattle.std.specs.Option.{option_or}
use Rattle.iq_statements.specs.Checks.{first_refusal, first_found}
use Rattle.iq_statements.specs.Statements.{statement_checks, room_checks}
use Rattle.iq_replay.specs.State.{State, Session, Run}
use Rattle.iq_replay.specs.Refusals.{lost_refusal, at_node, excluded_refusal, before_line, transaction_refusal, reader_refusal, locked_refusal, later_refusal, wanted}
use Rattle.iq_plain_sessions.specs.Plain.{run_of}

-- the first refusal behind the names and values of a statement: of a lock, of a later commit, of room
abbrev pub behind_refusal : State → ℕ → Statement → Run → Option Refusal
behind_refusal s place statement run =
    option_or (first_found (locked_refusal s.sessions place) (wanted statement run))
    (option_or (first_found (later_refusal s.wrote run.snapshot) (wanted statement run)) (first_refusal (room_checks statement run.start.seen)))

-- the first refusal that only a running transaction can meet, where nothing has halted
abbrev pub run_refusal : State → ℕ → Statement → Option Run → Option Refusal
run_refusal s place statement None = None
run_refusal s place statement (Some run) = option_or (first_refusal (statement_checks statement run.start.seen)) (behind_refusal s place statement run)

-- the first refusal of a session's statement, where nothing has halted
abbrev pub session_refusal : State → ℕ → Session → Statement → Option Refusal
session_refusal s place session statement =
    option_or (lost_refusal (slice_get s.nodes session.node) session.standing)
    (option_or (at_node excluded_refusal (slice_get s.nodes session.node))
    (option_or (transaction_refusal (before_line session.standing) statement)
    (option_or (reader_refusal (slice_get s.nodes session.node) statement) (run_refusal s place statement (run_of session.standing)))))

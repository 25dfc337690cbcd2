-- How many entries are still due of a script's lines, and what the control keeps to.
use Rattle.std.specs.Prelude.{◌≡◌, ◌≤◌, ◌<◌, ◌^◌, ℕ, ◌+◌, ◌*◌, List, [], ◌∷◌, length}
use Rattle.std.specs.List.{AllByRecursion}
use Rattle.iq_history.specs.State.{HistoryState}
use Rattle.iq_model.specs.declared.scripts.Line.{Line}
use Rattle.iq_replay.specs.State.{Session, Stage, fresh, begun, locked, done, Standing, idle, lost, running, Node}
use Rattle.iq_sessions.specs.Table.{TableState}

-- five entries a line, of which begun, lock and done take their part; and one that rolls a transaction back at the script's end
abbrev pub stage_due : Stage → ℕ
stage_due fresh = 5
stage_due begun = 3
stage_due locked = 2
stage_due done = 1

abbrev pub line_due : Stage → List Line → ℕ
line_due stage [] = 0
line_due stage (line ∷ lines) = 5 * length lines + stage_due stage

abbrev pub standing_due : Standing → ℕ
standing_due idle = 0
standing_due lost = 0
standing_due (running run) = 1

abbrev pub due : Session → ℕ
due session = line_due session.stage session.left + standing_due session.standing

abbrev pub all_due : List Session → ℕ
all_due [] = 0
all_due (session ∷ sessions) = due session + all_due sessions

-- There is room for all entries that are due, so that none takes memory; each commit ends a line, so that its number doesn't wrap; and
-- each session's node is one.
pub record IsControl (history : HistoryState) (latest : ℕ) (nodes : List Node) (table : TableState) : Type 0 where
  pub sessions : length history.sessions ≡ length table.sessions
  pub room : all_due table.sessions ≤ history.room
  pub number : latest + all_due table.sessions ≤ 2 ^ 40
  pub nodes_are : AllByRecursion (λ (session : Session). session.node < length nodes) table.sessions

-- The first refusal of tests that are put together.
use Rattle.std.specs.Prelude.{◌≡◌, refl, ℕ, List, [], ◌∷◌, ◌++◌, Option, Some, None}
use Rattle.std.specs.Option.{option_or}
use Rattle.iq_base.specs.declared.refusals.Refusal.{Refusal}
use Rattle.iq_ast.specs.declared.statements.Statement.{Statement}
use Rattle.iq_statements.specs.Checks.{Check, first_refusal}
use Rattle.iq_statements.specs.Statements.{statement_checks}
use Rattle.iq_replay.specs.State.{State, Session, Standing, idle, lost, running}
use Rattle.iq_replay.specs.Refusals.{run_checks, line_checks}
use Rattle.iq_plain_sessions.specs.Plain.{run_of}
use Rattle.iq_plain_runs.specs.Firsts.{run_refusal, session_refusal}

or_assoc : (a b c : Option Refusal) → option_or a (option_or b c) ≡ option_or (option_or a b) c
or_assoc None b c = refl
or_assoc (Some r) b c = refl

pub first_refusal_append : (xs ys : List Check) → first_refusal (xs ++ ys) ≡ option_or (first_refusal xs) (first_refusal ys)
first_refusal_append [] ys = refl
first_refusal_append (x ∷ xs) ys = rw (first_refusal_append xs ys) (or_assoc x.found (first_refusal xs) (first_refusal ys))

run_first : (s : State) (p : ℕ) (standing : Standing) (statement : Statement) → s.halted ≡ None → first_refusal (run_checks s p standing statement) ≡ run_refusal s p statement (run_of standing)
run_first s p idle statement none = refl
run_first s p lost statement none = refl
run_first s p (running run) statement none = rw (none) (first_refusal_append (statement_checks statement run.start.seen) _)

-- where nothing has halted, the first refusal of a line is that of these tests
pub line_first : (s : State) (p : ℕ) (session : Session) (statement : Statement) → s.halted ≡ None → session_refusal s p session statement ≡ first_refusal (line_checks s p session statement)
line_first s p session statement none = rw (run_first s p session.standing statement none) refl

use Rattle.iq_statements.specs.Named.{write_checks}
use Rattle.iq_statements.specs.Checks.{first_refusal}
use Rattle.iq_memory.proofs.Running.{on_ok, if_err, of_held, checked_cause}
use Rattle.std.proofs.Common.{◌≡◌, None}
use Rattle.iq_memory.proofs.tables.MemoryTables.check.Goals as goal

pub returns-clause-granted : goal.returns-clause-granted
returns-clause-granted c =
    on_ok c.check.result _ _ (of_held c.args.self.now c.as_slice.result.now (λ db. first_refusal (write_checks c.args.statement.now db) ≡ None) c.as_slice.ensures.value) c.check.ensures.granted

pub returns-clause-cause : goal.returns-clause-cause
returns-clause-cause c =
    if_err c.check.result _ _ (λ e h. checked_cause c.args.self.now c.as_slice.result.now (write_checks c.args.statement.now) e c.as_slice.ensures.value h) c.check.ensures.cause

use Rattle.std.proofs.Common.{◌≡◌, None}
use Rattle.iq_statements.specs.Named.{query_checks}
use Rattle.iq_statements.specs.Checks.{first_refusal}
use Rattle.iq_memory.proofs.Running.{of_held, held_on, query_cause}
use Rattle.iq_memory.proofs.tables.MemoryTables.select.Goals as goal

pub returns-in-Ok-clause-granted : goal.returns-in-Ok-clause-granted
returns-in-Ok-clause-granted c = of_held c.args.self.now c.as_slice.result.now (λ db. first_refusal (query_checks c.args.statement.now db) ≡ None) c.as_slice.ensures.value c.in-Ok.ensures.granted

pub returns-in-Ok-clause-unchanged : goal.returns-in-Ok-clause-unchanged
returns-in-Ok-clause-unchanged c = λ db h. held_on c.args.self.now.pages.tables.items c.select.new.source.tables.items c.args.self.now.parts.items db c.select.ensures.reads.kept.told h

pub returns-in-Err-clause-unchanged : goal.returns-in-Err-clause-unchanged
returns-in-Err-clause-unchanged c = λ db h. held_on c.args.self.now.pages.tables.items c.select.new.source.tables.items c.args.self.now.parts.items db c.select.ensures.reads.kept.told h

pub returns-in-Err-clause-placed : goal.returns-in-Err-clause-placed
returns-in-Err-clause-placed c = c.sure.ensures.placed c.in-Err.ensures.placed

pub returns-in-Err-clause-cause : goal.returns-in-Err-clause-cause
returns-in-Err-clause-cause c =
    query_cause c.args.self.now c.as_slice.result.now c.args.statement.now _ _ c.in-Err.cause c.sure.result c.as_slice.ensures.value (record { same = c.sure.ensures.same; fault = c.sure.ensures.fault; page = c.sure.ensures.page }) c.in-Err.ensures.cause

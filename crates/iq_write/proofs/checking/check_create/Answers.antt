use Rattle.std.proofs.Common.{sym, ◌∙◌}
use Rattle.iq_write.proofs.Tests.{create_exists, create_full, create_free}
use Rattle.iq_write.proofs.checking.check_create.Goals as goal

pub returns-in-Some-clause-cause : goal.returns-in-Some-clause-cause
returns-in-Some-clause-cause c = rw c.again.ensures (create_exists c.args.name.now c.args.tables.now c.in-Some.field-0 (sym c.place_of.ensures.place ∙ c.in-Some.is))

pub returns-in-None-clause-cause : goal.returns-in-None-clause-cause
returns-in-None-clause-cause c = create_full c.args.name.now c.args.tables.now (sym c.place_of.ensures.place ∙ c.in-None.is) c.if-tables-ge-MOST_TABLES.true

pub returns-in-None-2-clause-granted : goal.returns-in-None-2-clause-granted
returns-in-None-2-clause-granted c = create_free c.args.name.now c.args.tables.now (sym c.place_of.ensures.place ∙ c.in-None.is) c.if-tables-ge-MOST_TABLES.false

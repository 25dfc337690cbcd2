use Rattle.std.proofs.Common.{sym, ◌∙◌}
use Rattle.iq_write.proofs.Tests.{drop_missing, drop_known}
use Rattle.iq_write.proofs.checking.check_drop.Goals as goal

pub returns-in-Some-clause-granted : goal.returns-in-Some-clause-granted
returns-in-Some-clause-granted c = drop_known c.args.name.now c.args.tables.now c.in-Some.field-0 (sym c.place_of.ensures.place ∙ c.in-Some.is)

pub returns-in-None-clause-cause : goal.returns-in-None-clause-cause
returns-in-None-clause-cause c = rw c.again.ensures (drop_missing c.args.name.now c.args.tables.now (sym c.place_of.ensures.place ∙ c.in-None.is))

use Rattle.std.proofs.Common.{rules}
use Rattle.iq_plain_tables.proofs.effects.effect.Goals as goal

pub returns-in-CreateIndex : goal.returns-in-CreateIndex
returns-in-CreateIndex c = rw c.in-CreateIndex.is (search rules)

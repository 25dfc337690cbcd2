use Rattle.std.proofs.Common.{arith}
use Rattle.iq_table.proofs.KindLists.{kinds_are}
use Rattle.iq_table.proofs.table.have_kinds.Goals as goal

pub returns-clause-yes : goal.returns-clause-yes
returns-clause-yes c = λ same. kinds_are c.args.rows.now.kinds c.args.parts.now (omega (arith, c.width.ensures.kinds, c.if-width-parts.false)) (λ j h. c.loop-c.invariant j (omega (arith, c.loop-c-test.false, c.loop-c.auto.c-end)))

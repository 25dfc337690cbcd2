use Rattle.std.proofs.Common.{drop}
use Rattle.iq_catalog.proofs.FirstFault.{same_front-past}
use Rattle.iq_catalog.proofs.first_fault.same_front.Goals as goal

pub returns-then-again-k : goal.returns-then-again-k
returns-then-again-k c =
    same_front-past (drop c.loop-k.k c.args.bytes.now) c.args.again.now c.loop-k.k _ c.if-again-k.true c.loop-k.invariant

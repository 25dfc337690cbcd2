use Rattle.std.proofs.Common.{◌≡◌, ◌+◌, drop}
use Rattle.iq_catalog.specs.FirstFault.{same_front}
use Rattle.iq_catalog.proofs.first_fault.same_front.Given as goal

abbrev pub invariant-loop-k : goal.invariant-loop-k
invariant-loop-k l = l.k + same_front (drop l.k l.bytes) (drop l.k l.again) ≡ same_front l.bytes l.again

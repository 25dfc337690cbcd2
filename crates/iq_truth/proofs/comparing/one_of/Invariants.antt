use Rattle.std.proofs.Common.{◌≡◌, take}
use Rattle.iq_truth.specs.Comparisons.{one_of}
use Rattle.iq_truth.proofs.comparing.one_of.Given as goal

abbrev pub invariant-loop-other : goal.invariant-loop-other
invariant-loop-other l = l.truth ≡ one_of l.value (take l.other-index l.values)

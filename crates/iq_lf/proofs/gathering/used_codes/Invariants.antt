use Rattle.iq_lf.specs.Gathered.{AreUsedBelow}
use Rattle.iq_lf.proofs.gathering.used_codes.Given as goal

abbrev pub invariant-loop-i : goal.invariant-loop-i
invariant-loop-i l = AreUsedBelow l.i l.codes l.values l.used.items

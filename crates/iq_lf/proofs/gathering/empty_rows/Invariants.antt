use Rattle.iq_lf.proofs.GatherLaws.{AreEmptyBelow}
use Rattle.iq_lf.proofs.gathering.empty_rows.Given as goal

abbrev pub invariant-loop-c : goal.invariant-loop-c
invariant-loop-c l = AreEmptyBelow l.c l.used l.rows.items

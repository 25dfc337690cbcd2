use Rattle.iq_lf.proofs.GatherLaws.{RowsBelow}
use Rattle.iq_lf.proofs.gathering.gather.Given as goal

abbrev pub invariant-loop-i : goal.invariant-loop-i
invariant-loop-i l = RowsBelow l.i l.codes l.from l.values l.used.items l.rows.items

use Rattle.iq_fp.proofs.Repeats.{AreKeyed}
use Rattle.iq_lf.proofs.known.first_repeat.Given as goal

abbrev pub invariant-loop-i : goal.invariant-loop-i
invariant-loop-i l = AreKeyed l.cells.kind l.cells.values l.i l.keys.keys

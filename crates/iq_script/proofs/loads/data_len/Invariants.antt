use Rattle.iq_script.proofs.Loading.{IsPassed}
use Rattle.iq_script.proofs.loads.data_len.Given as goal

abbrev pub invariant-loop-i : goal.invariant-loop-i
invariant-loop-i l = IsPassed l.bytes l.rest l.i

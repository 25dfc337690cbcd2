use Rattle.std.proofs.Common.{length}
use Rattle.iq_script.proofs.Loop.{IsSoFar}
use Rattle.iq_script.proofs.scripts.read_lines.Given as goal

abbrev pub invariant-lines : goal.invariant-lines
invariant-lines l = IsSoFar l.bytes l.rest l.number l.data_lines l.reading

abbrev pub decreases-lines : goal.decreases-lines
decreases-lines l = length l.rest

use Rattle.std.proofs.Common.{◌≡◌, length}
use Rattle.iq_fp.specs.Scans.{MarksRows}
use Rattle.iq_fp.proofs.scanning.mark.Given as goal

abbrev pub invariant-loop-k : goal.invariant-loop-k
invariant-loop-k g l = record {
  long : length l.bits ≡ length l.fn.bits;
  rows : MarksRows g.row.W l.page l.k l.hits l.start l.fn.bits l.bits;
}

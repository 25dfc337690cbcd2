use Rattle.std.proofs.Common.{◌≡◌, ◌≤◌, length}
use Rattle.iq_planes.specs.Planes.{PutsRows}
use Rattle.iq_planes.proofs.one_page.put_rows.Given as goal

abbrev pub invariant-loop-row : goal.invariant-loop-row
invariant-loop-row l = record {
  order : l.from ≤ l.row;
  long : length l.bits ≡ length l.fn.bits;
  rows : PutsRows l.from l.row l.first l.more l.fn.bits l.bits;
}

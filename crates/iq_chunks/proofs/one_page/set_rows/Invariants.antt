use Rattle.std.proofs.Common.{◌≡◌, ◌≤◌, length}
use Rattle.iq_chunks.specs.Chunks.{SetsRows}
use Rattle.iq_chunks.proofs.one_page.set_rows.Given as goal

abbrev pub invariant-loop-row : goal.invariant-loop-row
invariant-loop-row l = record {
  order : l.from ≤ l.row;
  long : length l.bits ≡ length l.fn.bits;
  rows : SetsRows l.from l.row l.fn.bits l.bits;
}

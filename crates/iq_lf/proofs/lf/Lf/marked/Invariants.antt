use Rattle.std.proofs.Common.{◌≡◌, ◌+◌, ◌*◌, length}
use Rattle.iq_pages.specs.PageCalls.{view}
use Rattle.iq_pieces.specs.Counts.{pages_for, OnlyReads}
use Rattle.iq_lf.specs.Stands.{entries_in}
use Rattle.iq_lf.proofs.FindLaws.{AreMarkedTo}
use Rattle.iq_lf.proofs.lf.Lf.marked.Given as goal

abbrev pub invariant-loop-chunk : goal.invariant-loop-chunk
invariant-loop-chunk g l = record {
  long : length l.rows ≡ l.self.slots;
  rows : AreMarkedTo (l.chunk * 8064) l.self (g.S.PageSource.told l.fn.source) l.hits l.rows;
  reads : OnlyReads (pages_for 4 (entries_in l.self) + l.self.distinct * l.chunk) (view g.S.PageSource l.fn.source) (view g.S.PageSource l.source);
}

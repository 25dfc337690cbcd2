use Rattle.std.proofs.Common.{◌≡◌, length}
use Rattle.iq_pages.specs.PageCalls.{view}
use Rattle.iq_pieces.specs.Counts.{OnlyReads}
use Rattle.iq_lf.proofs.EntriesRead.{AreNeededBelow}
use Rattle.iq_lf.proofs.table.read_entries.Given as goal

abbrev pub invariant-loop-p : goal.invariant-loop-p
invariant-loop-p g l = record {
  long : length l.pages.items ≡ l.p;
  pages : AreNeededBelow l.p l.lf (g.S.PageSource.told l.fn.source) l.needed l.pages.items;
  reads : OnlyReads l.p (view g.S.PageSource l.fn.source) (view g.S.PageSource l.source);
}

use Rattle.std.proofs.Common.{◌≡◌, length}
use Rattle.iq_pages.specs.PageCalls.{view}
use Rattle.iq_pieces.specs.Counts.{OnlyReads}
use Rattle.iq_lf.proofs.FindLaws.{AreFoundBelow}
use Rattle.iq_lf.proofs.finding.chunk_page.Given as goal

abbrev pub invariant-loop-v : goal.invariant-loop-v
invariant-loop-v g l = record {
  one : length l.one ≡ 8064;
  long : length l.rows ≡ 8064;
  rows : AreFoundBelow l.v l.lf (g.S.PageSource.told l.fn.source) l.hits l.chunk l.rows;
  reads : OnlyReads l.v (view g.S.PageSource l.fn.source) (view g.S.PageSource l.source);
}

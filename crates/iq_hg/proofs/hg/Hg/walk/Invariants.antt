use Rattle.std.proofs.Common.{◌≡◌, length}
use Rattle.iq_pages.specs.PageCalls.{view}
use Rattle.iq_pieces.specs.Counts.{OnlyReads}
use Rattle.iq_hg.specs.Walks.{Reaches}
use Rattle.iq_hg.proofs.hg.Hg.walk.Given as goal

abbrev pub invariant-loop-k : goal.invariant-loop-k
invariant-loop-k g l = record {
  long : length l.bits ≡ l.self.slots;
  reached : Reaches l.self (g.S.PageSource.told l.fn.source) l.wanted l.k l.page l.bits;
  reads : OnlyReads l.k (view g.S.PageSource l.fn.source) (view g.S.PageSource l.source);
}

use Rattle.std.proofs.Common.{◌<◌, ◌≤◌, ◌-◌, true, false}
use Rattle.iq_pages.specs.PageCalls.{view}
use Rattle.iq_pages.specs.Pages.{KeepsObjects}
use Rattle.iq_hg.specs.Search.{BeginsUnder, HalvedBy}
use Rattle.iq_hg.proofs.hg.Hg.pages_under.Given as goal

abbrev pub invariant-halves : goal.invariant-halves
invariant-halves g l = record {
  order : l.from ≤ l.to;
  within : l.to ≤ g.S.PageSource.counts l.fn.source l.self.directory;
  halves : HalvedBy (g.S.PageSource.counts l.fn.source l.self.directory) (l.to - l.from) (view g.S.PageSource l.fn.source) (view g.S.PageSource l.source);
  kept : KeepsObjects (view g.S.PageSource l.fn.source) (view g.S.PageSource l.source);
  later : g.S.PageSource.faults l.fn.source ≤ g.S.PageSource.faults l.source;
  before : 0 < l.from → BeginsUnder l.self (g.S.PageSource.told l.fn.source) l.low (l.from - 1) true;
  after : l.to < g.S.PageSource.counts l.fn.source l.self.directory → BeginsUnder l.self (g.S.PageSource.told l.fn.source) l.low l.to false;
}

abbrev pub decreases-halves : goal.decreases-halves
decreases-halves g l = l.to - l.from

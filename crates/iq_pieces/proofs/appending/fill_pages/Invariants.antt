use Rattle.std.proofs.Common.{◌≡◌, ◌≤◌, ◌-◌, ◌*◌, ◌/◌, None, take}
use Rattle.iq_pages.specs.PageCalls.{view}
use Rattle.iq_pages.specs.Pages.{CountsMore}
use Rattle.iq_pieces.specs.Counts.{per_page, KeepsOthers}
use Rattle.iq_pieces.specs.Objects.{AppendsBehind}
use Rattle.iq_pieces.proofs.appending.fill_pages.Given as goal

abbrev pub invariant-loop-p : goal.invariant-loop-p
invariant-loop-p g l = record {
  held : AppendsBehind (g.P.Pieces.width l.items) l.start l.last (take (per_page (g.P.Pieces.width l.items) * l.p - l.start) (g.P.Pieces.pieces l.items)) (g.S.PageSource.told l.fn.sink l.object) (g.S.PageSource.told l.sink l.object);
  dark : g.S.PageSource.told l.sink l.object ≡ None → g.S.PageSource.told l.fn.sink l.object ≡ None;
  reached : l.p ≤ g.S.PageSource.counts l.sink l.object;
  others : KeepsOthers l.object (view g.S.PageSource l.fn.sink) (view g.S.PageSource l.sink);
  reads : g.S.PageSource.reads l.sink ≡ g.S.PageSource.reads l.fn.sink;
  written : CountsMore (l.p - l.start / l.per) (g.S.PageSource.writes l.fn.sink) (g.S.PageSource.writes l.sink);
  page : l.p ≡ l.start / l.per → l.page ≡ l.last;
  later : g.S.PageSource.faults l.fn.sink ≤ g.S.PageSource.faults l.sink;
}

use Rattle.std.proofs.Common.{◌≡◌, ◌≤◌, ◌-◌, ◌*◌, min, length, List, Bool, Some}
use Rattle.iq_pages.specs.PageCalls.{view}
use Rattle.iq_pages.specs.Pages.{Pages, CountsMore}
use Rattle.iq_pieces.specs.Counts.{CountsUpTo, KeepsOthers}
use Rattle.iq_chunks.specs.Chunks.{chunks_for}
use Rattle.iq_planes.specs.Planes.{HoldsPlanes}
use Rattle.iq_planes.specs.Growing.{GrownTo, Lengthens}
use Rattle.iq_planes.proofs.appending.append.Given as goal

abbrev pub invariant-loop-page : goal.invariant-loop-page
invariant-loop-page g l = record {
  grown : (planes : List (List Bool)) (first : Pages) → g.S.PageSource.told l.fn.sink l.object ≡ Some first → HoldsPlanes (Some first) (length l.more) l.len planes
      → GrownTo (length l.more) l.len l.n l.page planes l.more first (g.S.PageSource.told l.sink l.object);
  longer : Lengthens (g.S.PageSource.told l.fn.sink l.object) (g.S.PageSource.told l.sink l.object);
  reached : l.page ≤ g.S.PageSource.counts l.sink l.object;
  others : KeepsOthers l.object (view g.S.PageSource l.fn.sink) (view g.S.PageSource l.sink);
  reads : CountsUpTo (min (l.page - l.first) (length l.more * chunks_for l.len - l.first)) (g.S.PageSource.reads l.fn.sink) (g.S.PageSource.reads l.sink);
  written : CountsMore (l.page - l.first) (g.S.PageSource.writes l.fn.sink) (g.S.PageSource.writes l.sink);
  later : g.S.PageSource.faults l.fn.sink ≤ g.S.PageSource.faults l.sink;
}

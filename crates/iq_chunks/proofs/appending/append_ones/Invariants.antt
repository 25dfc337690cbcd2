use Rattle.std.proofs.Common.{◌≡◌, ◌≤◌, ◌-◌, ◌*◌, ◌/◌, min, None}
use Rattle.iq_pages.specs.PageCalls.{view}
use Rattle.iq_pages.specs.Pages.{CountsMore}
use Rattle.iq_pieces.specs.Counts.{CountsUpTo, KeepsOthers}
use Rattle.iq_chunks.specs.Chunks.{AppendsOnes}
use Rattle.iq_chunks.proofs.appending.append_ones.Given as goal

abbrev pub invariant-loop-chunk : goal.invariant-loop-chunk
invariant-loop-chunk g l = record {
  held : AppendsOnes l.len (min l.end (l.chunk * 8064) - l.len) (g.S.PageSource.told l.fn.sink l.object) (g.S.PageSource.told l.sink l.object);
  dark : g.S.PageSource.told l.sink l.object ≡ None → g.S.PageSource.told l.fn.sink l.object ≡ None;
  reached : l.chunk ≤ g.S.PageSource.counts l.sink l.object;
  others : KeepsOthers l.object (view g.S.PageSource l.fn.sink) (view g.S.PageSource l.sink);
  reads : CountsUpTo 1 (g.S.PageSource.reads l.fn.sink) (g.S.PageSource.reads l.sink);
  written : CountsMore (l.chunk - l.len / 8064) (g.S.PageSource.writes l.fn.sink) (g.S.PageSource.writes l.sink);
  later : g.S.PageSource.faults l.fn.sink ≤ g.S.PageSource.faults l.sink;
}

use Rattle.std.proofs.Common.{◌≡◌, ◌*◌, length}
use Rattle.iq_pages.specs.PageCalls.{view}
use Rattle.iq_pieces.specs.Counts.{OnlyReads}
use Rattle.iq_planes.proofs.PlaneReads.{AreLoaded}
use Rattle.iq_planes.proofs.reading.read_plane.Given as goal

abbrev pub invariant-loop-chunk : goal.invariant-loop-chunk
invariant-loop-chunk g l = record {
  long : length l.bits ≡ l.len;
  loaded : AreLoaded (g.S.PageSource.told l.fn.source l.object) l.k l.j (l.chunk * 8064) l.bits;
  reads : OnlyReads l.chunk (view g.S.PageSource l.fn.source) (view g.S.PageSource l.source);
}

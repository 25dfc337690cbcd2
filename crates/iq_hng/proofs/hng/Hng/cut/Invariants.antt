use Rattle.std.proofs.Common.{◌*◌}
use Rattle.iq_pages.specs.PageCalls.{view}
use Rattle.iq_pieces.specs.Counts.{OnlyReads}
use Rattle.iq_chunks.specs.Chunks.{chunks_for}
use Rattle.iq_hng.specs.Ranges.{AreCutLong, GoesUp}
use Rattle.iq_hng.proofs.hng.Hng.cut.Given as goal

abbrev pub invariant-loop-j : goal.invariant-loop-j
invariant-loop-j g l = record {
  long : AreCutLong l.self.slots l.cut;
  rows : GoesUp l.self (g.S.PageSource.told l.fn.source) l.begin l.end l.j l.initial.cut l.cut;
  reads : OnlyReads (l.j * chunks_for l.self.slots) (view g.S.PageSource l.fn.source) (view g.S.PageSource l.source);
}

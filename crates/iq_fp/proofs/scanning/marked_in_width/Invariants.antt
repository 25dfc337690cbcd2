use Rattle.std.proofs.Common.{◌≡◌, ◌*◌, length}
use Rattle.iq_pages.specs.PageCalls.{view}
use Rattle.iq_pieces.specs.Counts.{OnlyReads}
use Rattle.iq_fp.proofs.OnPages.{AreMarkedTo}
use Rattle.iq_fp.proofs.scanning.marked_in_width.Given as goal

abbrev pub invariant-loop-p : goal.invariant-loop-p
invariant-loop-p g l = record {
  long : length l.bits ≡ l.fp.slots;
  rows : AreMarkedTo l.fp (g.S.PageSource.told l.fn.source) l.hits (l.per * l.p) l.bits;
  reads : OnlyReads l.p (view g.S.PageSource l.fn.source) (view g.S.PageSource l.source);
}

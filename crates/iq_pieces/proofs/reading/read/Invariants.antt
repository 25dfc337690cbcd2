use Rattle.std.proofs.Common.{◌≡◌, ◌*◌, min, length}
use Rattle.iq_pages.specs.PageCalls.{view}
use Rattle.iq_pieces.specs.Counts.{OnlyReads}
use Rattle.iq_pieces.specs.Objects.{AreFirst}
use Rattle.iq_pieces.specs.Faults.{form_width}
use Rattle.iq_pieces.proofs.reading.read.Given as goal

abbrev pub invariant-loop-p : goal.invariant-loop-p
invariant-loop-p g l = record {
  form : g.T.Takes.form l.into ≡ g.T.Takes.form l.fn.into;
  long : length (g.T.Takes.taken l.into) ≡ min (l.per * l.p) l.count;
  first : AreFirst (g.S.PageSource.told l.fn.source l.object) (form_width (g.T.Takes.form l.fn.into)) (g.T.Takes.taken l.into);
  reads : OnlyReads l.p (view g.S.PageSource l.fn.source) (view g.S.PageSource l.source);
}

use Rattle.std.proofs.Common.{◌≡◌, ◌≤◌}
use Rattle.iq_pages.specs.PageCalls.{view}
use Rattle.iq_pieces.specs.Counts.{CountsUpTo, KeepsOthers}
use Rattle.iq_lf.proofs.TableLaws.{SavesTo}
use Rattle.iq_lf.proofs.table.Table.save.Given as goal

abbrev pub invariant-loop-p : goal.invariant-loop-p
invariant-loop-p g l = record {
  saves : SavesTo l.p l.self.pages.items l.self.changed.items (g.S.PageSource.told l.fn.sink l.object) (g.S.PageSource.told l.sink l.object);
  others : KeepsOthers l.object (view g.S.PageSource l.fn.sink) (view g.S.PageSource l.sink);
  reads : g.S.PageSource.reads l.sink ≡ g.S.PageSource.reads l.fn.sink;
  written : CountsUpTo l.p (g.S.PageSource.writes l.fn.sink) (g.S.PageSource.writes l.sink);
  later : g.S.PageSource.faults l.fn.sink ≤ g.S.PageSource.faults l.sink;
}

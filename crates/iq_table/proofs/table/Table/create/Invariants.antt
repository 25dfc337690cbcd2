use Rattle.std.proofs.Common.{◌≡◌, ◌≤◌}
use Rattle.iq_pages.specs.PageCalls.{view}
use Rattle.iq_pages.specs.Pages.{CountsMore}
use Rattle.iq_table.proofs.Making.{AreMade}
use Rattle.iq_table.proofs.table.Table.create.Given as goal

abbrev pub invariant-loop-object : goal.invariant-loop-object
invariant-loop-object g l = record {
  made : AreMade l.first l.object (view g.S.PageSource l.fn.sink) (view g.S.PageSource l.sink);
  reads : g.S.PageSource.reads l.sink ≡ g.S.PageSource.reads l.fn.sink;
  written : CountsMore 0 (g.S.PageSource.writes l.fn.sink) (g.S.PageSource.writes l.sink);
  later : g.S.PageSource.faults l.fn.sink ≤ g.S.PageSource.faults l.sink;
}

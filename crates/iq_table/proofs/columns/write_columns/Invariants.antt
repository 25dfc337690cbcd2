use Rattle.std.proofs.Common.{◌≡◌, ◌≤◌, ◌+◌, ◌++◌, length, take}
use Rattle.std.specs.Vec.Iter.{into_iter_items, into_iter_len}
use Rattle.iq_pages.specs.PageCalls.{view}
use Rattle.iq_pages.specs.Pages.{CountsMore}
use Rattle.iq_pieces.specs.Counts.{CountsUpTo}
use Rattle.iq_table.specs.Calls.{ColumnsStandForMore, KeepsButColumns, columns_written, columns_most}
use Rattle.iq_table.proofs.columns.write_columns.Given as goal

abbrev pub invariant-loop-plan : goal.invariant-loop-plan
invariant-loop-plan g l = record {
  count : l.c ≡ length l.yielded;
  shape : l.yielded ++ into_iter_items l.plan-iterator ≡ l.fn.planned.plans.items;
  left : into_iter_len l.plan-iterator ≡ length (into_iter_items l.plan-iterator);
  held : ColumnsStandForMore (length l.yielded) l.place l.slots (l.slots + length l.rows.rows) l.parts l.grown.items l.rows.rows (g.S.PageSource.told l.fn.sink) (g.S.PageSource.told l.sink);
  others : KeepsButColumns l.place (length l.yielded) (view g.S.PageSource l.fn.sink) (view g.S.PageSource l.sink);
  reads : g.S.PageSource.reads l.sink ≡ g.S.PageSource.reads l.fn.sink;
  most : CountsUpTo (columns_most l.slots (length l.rows.rows) (take (length l.yielded) l.parts)) (g.S.PageSource.writes l.fn.sink) (g.S.PageSource.writes l.sink);
  written : CountsMore (columns_written l.slots (l.slots + length l.rows.rows) (take (length l.yielded) l.parts) (take (length l.yielded) l.grown.items)) (g.S.PageSource.writes l.fn.sink) (g.S.PageSource.writes l.sink);
  later : g.S.PageSource.faults l.fn.sink ≤ g.S.PageSource.faults l.sink;
}

use Rattle.std.proofs.Common.{◌≡◌, ◌<◌, ℕ, length, take, slice_index}
use Rattle.iq_pages.specs.PageCalls.{view}
use Rattle.iq_pieces.specs.Counts.{OnlyReads}
use Rattle.iq_cells.specs.Tables.{column_at}
use Rattle.iq_table.specs.Calls.{pages_of_columns}
use Rattle.iq_table.proofs.Readings.{IsRead}
use Rattle.iq_table.proofs.table.Table.rows_of.Given as goal

abbrev pub invariant-loop-c : goal.invariant-loop-c
invariant-loop-c g l = record {
  long : length l.read.items ≡ l.c-index;
  each : (j : ℕ) → j < l.c-index → IsRead l.self (g.S.PageSource.told l.fn.source) l.rows (slice_index l.columns j) (column_at j l.read.items);
  reads : OnlyReads (pages_of_columns l.self (take l.c-index l.columns)) (view g.S.PageSource l.fn.source) (view g.S.PageSource l.source);
}

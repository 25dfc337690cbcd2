use Rattle.std.proofs.Common.{◌≡◌, ◌≤◌, ◌*◌, ℕ, List, length}
use Rattle.iq_pages.specs.PageCalls.{view}
use Rattle.iq_pages.specs.Pages.{Pages}
use Rattle.iq_pieces.specs.Counts.{KeepsOthers}
use Rattle.iq_lf.specs.Entries.{HoldsBitmaps}
use Rattle.iq_lf.specs.Stands.{due}
use Rattle.iq_lf.specs.Steps.{KeepsUnchanged}
use Rattle.iq_lf.proofs.RowLaws.{mixed}
use Rattle.iq_lf.proofs.merging.put_chunk.Given as goal

abbrev pub invariant-loop-v : goal.invariant-loop-v
invariant-loop-v g l = record {
  ok : (codes : List ℕ) → length codes ≡ l.from → HoldsBitmaps (g.S.PageSource.told l.fn.sink l.object) (33 * l.values) l.fn.table.pages.items (due codes) → HoldsBitmaps (g.S.PageSource.told l.sink l.object) (33 * l.values) l.table.pages.items (mixed l.v codes l.codes);
  long : length l.table.pages.items ≡ length l.fn.table.pages.items;
  changed : length l.table.changed.items ≡ length l.fn.table.changed.items;
  kept : (told : Pages) → KeepsUnchanged told l.fn.table.pages.items l.fn.table.changed.items → KeepsUnchanged told l.table.pages.items l.table.changed.items;
  others : KeepsOthers l.object (view g.S.PageSource l.fn.sink) (view g.S.PageSource l.sink);
  later : g.S.PageSource.faults l.fn.sink ≤ g.S.PageSource.faults l.sink;
}

use Rattle.std.proofs.Common.{◌≡◌, ◌≤◌, ◌*◌, ◌-◌, take, length}
use Rattle.iq_pages.specs.PageCalls.{view}
use Rattle.iq_pages.specs.Pages.{Pages}
use Rattle.iq_pieces.specs.Counts.{KeepsOthers}
use Rattle.iq_lf.specs.Steps.{AddsCodes, KeepsUnchanged}
use Rattle.iq_lf.proofs.merging.put_rows.Given as goal

abbrev pub invariant-rows : goal.invariant-rows
invariant-rows g l = record {
  within : l.done ≤ length l.codes;
  ok : AddsCodes (33 * l.values) l.slots (take l.done l.codes) (g.S.PageSource.told l.fn.sink l.object) (g.S.PageSource.told l.sink l.object) l.fn.table.pages.items l.table.pages.items;
  long : length l.table.pages.items ≡ length l.fn.table.pages.items;
  changed : length l.table.changed.items ≡ length l.fn.table.changed.items;
  kept : (told : Pages) → KeepsUnchanged told l.fn.table.pages.items l.fn.table.changed.items → KeepsUnchanged told l.table.pages.items l.table.changed.items;
  others : KeepsOthers l.object (view g.S.PageSource l.fn.sink) (view g.S.PageSource l.sink);
  later : g.S.PageSource.faults l.fn.sink ≤ g.S.PageSource.faults l.sink;
}

abbrev pub decreases-rows : goal.decreases-rows
decreases-rows g l = length l.codes - l.done

use Rattle.std.proofs.Common.{◌≡◌, ◌≤◌, length}
use Rattle.iq_pages.specs.Pages.{Pages}
use Rattle.iq_lf.specs.Steps.{ClearsEntries, KeepsUnchanged}
use Rattle.iq_lf.proofs.table.Table.clear.Given as goal

abbrev pub invariant-loop-k : goal.invariant-loop-k
invariant-loop-k l = record {
  order : l.from ≤ l.k;
  pages : ClearsEntries l.from l.k l.fn.self.pages.items l.self.pages.items;
  long : length l.self.changed.items ≡ length l.fn.self.changed.items;
  kept : (told : Pages) → KeepsUnchanged told l.fn.self.pages.items l.fn.self.changed.items → KeepsUnchanged told l.self.pages.items l.self.changed.items;
}

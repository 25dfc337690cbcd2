use Rattle.std.proofs.Common.{◌-◌, ◌≤◌, length}
use Rattle.iq_memory.proofs.table_pages.TablePages.new.Given as goal

abbrev pub decreases-places : goal.decreases-places
decreases-places l = 64 - length l.tables.items

-- there are no more than there may be
abbrev pub invariant-places : goal.invariant-places
invariant-places l = record {
  few : length l.tables.items ≤ 64;
}

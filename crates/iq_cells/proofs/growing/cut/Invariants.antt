use Rattle.std.proofs.Common.{◌≡◌, ◌<◌, ◌≤◌, ℕ, length}
use Rattle.iq_cells.specs.Packed.{first_values}
use Rattle.iq_cells.specs.Tables.{column_at}
use Rattle.iq_cells.proofs.growing.cut.Given as goal

abbrev pub invariant-loop-c : goal.invariant-loop-c
invariant-loop-c l = record {
  long : length l.columns.items ≡ length l.fn.columns.items;
  done : (k : ℕ) → k < l.c → column_at k l.columns.items ≡ first_values l.count (column_at k l.fn.columns.items);
  others : (k : ℕ) → l.c ≤ k → column_at k l.columns.items ≡ column_at k l.fn.columns.items;
}

use Rattle.std.proofs.Common.{◌≡◌, ◌++◌, map}
use Rattle.iq_fp.specs.Scans.{set_rows, value_on_page}
use Rattle.iq_fp.proofs.choosing.push_set.Given as goal

abbrev pub invariant-loop-k : goal.invariant-loop-k
invariant-loop-k g l = record {
  kind : l.cells.kind ≡ l.fn.cells.kind;
  values : l.cells.values ≡ l.fn.cells.values ++ map (value_on_page g.row.W l.page l.start l.known.values) (set_rows l.rows l.start l.k);
}

use Rattle.std.proofs.Common.{◌≡◌, take}
use Rattle.iq_fp.specs.Scans.{decoded}
use Rattle.iq_fp.proofs.expanding.expanded.Given as goal

abbrev pub invariant-loop-code : goal.invariant-loop-code
invariant-loop-code l = record {
  kind : l.cells.kind ≡ l.known.kind;
  values : l.cells.values ≡ decoded l.known.values (take l.code-index l.codes);
}

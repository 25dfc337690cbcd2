use Rattle.std.proofs.Common.{◌≡◌, ◌++◌}
use Rattle.iq_cells.specs.Codes.{codes_in}
use Rattle.iq_pieces.proofs.code_list.CodeListTakes.take.Given as goal

abbrev pub invariant-loop-i : goal.invariant-loop-i
invariant-loop-i g l = record {
  more : l.self.codes.items ≡ l.fn.self.codes.items ++ codes_in g.row.W l.page l.i;
  same : l.self.below ≡ l.fn.self.below;
}

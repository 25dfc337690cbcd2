use Rattle.std.proofs.Common.{◌≡◌, length, map}
use Rattle.iq_grammar.specs.Grammar as spec
use Rattle.iq_grammar.specs.Grammar.{the_line}
use Rattle.iq_grammar.proofs.reader.beginning.Given as goal

abbrev pub invariant-lines : goal.invariant-lines
invariant-lines l = spec.beginning l.kind (map the_line l.lines) ≡ spec.beginning l.fn.kind (map the_line l.fn.lines)

abbrev pub decreases-lines : goal.decreases-lines
decreases-lines l = length l.lines

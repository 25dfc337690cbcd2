use Rattle.std.proofs.Common.{◌≡◌, length}
use Rattle.iq_grammar.specs.Grammar as spec
use Rattle.iq_grammar.proofs.reader.can_end.Given as goal

abbrev pub invariant-symbols : goal.invariant-symbols
invariant-symbols l = spec.can_end l.symbols ≡ spec.can_end l.fn.symbols

abbrev pub decreases-symbols : goal.decreases-symbols
decreases-symbols l = length l.symbols

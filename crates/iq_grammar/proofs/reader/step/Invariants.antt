use Rattle.std.proofs.Common.{◌≡◌, length}
use Rattle.iq_grammar.specs.Grammar as spec
use Rattle.iq_grammar.proofs.reader.step.Given as goal

abbrev pub invariant-symbols : goal.invariant-symbols
invariant-symbols l = spec.after l.symbols l.kind ≡ spec.after l.fn.symbols l.fn.kind

abbrev pub decreases-symbols : goal.decreases-symbols
decreases-symbols l = length l.symbols

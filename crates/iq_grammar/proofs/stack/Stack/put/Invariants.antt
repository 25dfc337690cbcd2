use Rattle.std.proofs.Common.{◌≡◌, ◌++◌, map, reverse}
use Rattle.iq_grammar.proofs.stack.Stack.put.Given as goal

abbrev pub invariant-loop-symbol : goal.invariant-loop-symbol
invariant-loop-symbol l = reverse l.self-inside.symbols.items ≡ reverse (map (λ s. s.now) l.yielded) ++ l.fn.self

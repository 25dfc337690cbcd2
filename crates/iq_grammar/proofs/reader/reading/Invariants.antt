use Rattle.std.proofs.Common.{◌≡◌, ◌-◌, length}
use Rattle.iq_tokens.specs.Tokens.{tokens_of, tokens_from}
use Rattle.iq_grammar.specs.Draft.{empty}
use Rattle.iq_grammar.specs.Reading.{run, whole_of}
use Rattle.iq_grammar.proofs.reader.reading.Given as goal

abbrev pub invariant-tokens : goal.invariant-tokens
invariant-tokens l = run (length l.text) l.draft l.symbols (tokens_from l.text l.at) ≡ run (length l.text) empty (whole_of l.fn.whole) (tokens_of l.text)

abbrev pub decreases-tokens : goal.decreases-tokens
decreases-tokens l = length l.text - l.at

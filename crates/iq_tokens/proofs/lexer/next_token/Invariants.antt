use Rattle.std.proofs.Common.{◌≡◌, ◌-◌, ◌≤◌, length}
use Rattle.iq_tokens.specs.Tokens.{tokens_from}
use Rattle.iq_tokens.proofs.lexer.next_token.Given as goal

abbrev pub invariant-spaces : goal.invariant-spaces
invariant-spaces l = (tokens_from l.text l.at ≡ tokens_from l.text l.fn.from) × (l.fn.from ≤ l.at)

abbrev pub decreases-spaces : goal.decreases-spaces
decreases-spaces l = length l.text - l.at

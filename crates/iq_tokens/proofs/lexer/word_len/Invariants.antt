use Rattle.std.proofs.Common.{◌≡◌, ◌+◌, drop}
use Rattle.std.specs.List.{prefix_len}
use Rattle.iq_tokens.specs.Tokens.{is_word_byte}
use Rattle.iq_tokens.proofs.lexer.word_len.Given as goal

abbrev pub invariant-loop-at : goal.invariant-loop-at
invariant-loop-at l = l.at + prefix_len is_word_byte (drop l.at l.text) ≡ prefix_len is_word_byte l.text

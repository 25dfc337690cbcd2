-- Tokens that a text may have.
use Rattle.std.specs.Prelude.{List}
use Rattle.std.specs.List.{AllByRecursion}
use Rattle.iq_tokens.specs.declared.tokens.Lexeme.{Lexeme}
use Rattle.iq_tokens.specs.Tokens.{IsLexeme}

-- marks, names that are words, numbers of 64 bits, and values of at most 255 bytes of UTF-8
abbrev pub AreLexemes : List Lexeme → Type 0
AreLexemes tokens = AllByRecursion IsLexeme tokens

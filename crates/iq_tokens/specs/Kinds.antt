-- Kinds of tokens: what the grammar tells apart.
use Rattle.std.specs.Prelude.{Bool, true, false}
use denote.Enum.Bare.{sameb}
use Rattle.iq_tokens.specs.contracts.tokens.Mark.{the_type}
use Rattle.iq_tokens.specs.declared.tokens.Mark.{Mark}
use Rattle.iq_tokens.specs.declared.tokens.Kind.{Kind}
use Rattle.iq_tokens.specs.declared.tokens.Kind.TheVariants as kind
use Rattle.iq_tokens.specs.declared.tokens.Lexeme.{Lexeme}
use Rattle.iq_tokens.specs.declared.tokens.Lexeme.TheVariants as lexeme

-- whether two marks are one
unfoldable pub same_mark : Mark → Mark → Bool
same_mark = sameb the_type

-- whether two kinds are one
unfoldable pub same : Kind → Kind → Bool
same (kind.Mark a) (kind.Mark b) = same_mark a b
same (kind.Mark a) kind.Name = false
same (kind.Mark a) kind.Number = false
same (kind.Mark a) kind.Text = false
same kind.Name (kind.Mark b) = false
same kind.Name kind.Name = true
same kind.Name kind.Number = false
same kind.Name kind.Text = false
same kind.Number (kind.Mark b) = false
same kind.Number kind.Name = false
same kind.Number kind.Number = true
same kind.Number kind.Text = false
same kind.Text (kind.Mark b) = false
same kind.Text kind.Name = false
same kind.Text kind.Number = false
same kind.Text kind.Text = true

-- the kind of a token
abbrev pub kind_of : Lexeme → Kind
kind_of (lexeme.Mark m) = kind.Mark m
kind_of (lexeme.Name n) = kind.Name
kind_of (lexeme.Number n) = kind.Number
kind_of (lexeme.Text t) = kind.Text

-- How a text is cut into tokens: always the longest token that the rest of the text begins with.
use Rattle.std.specs.Prelude.{◌≡◌, ◌<◌, ◌≤◌, ℕ, zero, suc, ◌+◌, ◌-◌, ◌*◌, ◌^◌, Bool, true, false, ◌&&◌, ◌||◌, if◌then◌else◌, List, [], ◌∷◌, length, take, drop, map, fold, Option, Some, None, nat_eq, nat_lt, nat_le, slice_index, ℤ, pos, FitsSigned}
use Rattle.std.specs.Int.{w64}
use Rattle.std.proofs.Common.{neg_ℤ}
use Rattle.std.specs.List.{prefix_len}
use Rattle.std.specs.Char.{is_ascii_digit, is_ascii_alphanumeric, to_ascii_lowercase}
use Rattle.std.specs.Str.{IsUtf8, is_utf8}
use Rattle.std.specs.Cmp.Lexicographic.{pointwise}
use Rattle.iq_ast.specs.Words.{IsName}
use Rattle.iq_tokens.specs.declared.words.TheConstants.{WORDS}
use Rattle.iq_tokens.specs.declared.tokens.Mark.{Mark}
use Rattle.iq_tokens.specs.declared.tokens.Mark.TheVariants as mark
use Rattle.iq_tokens.specs.declared.tokens.Lexeme.{Lexeme}
use Rattle.iq_tokens.specs.declared.tokens.Lexeme.TheVariants as lexeme
use Rattle.iq_tokens.specs.declared.tokens.Token.{Token}
use Rattle.iq_tokens.specs.declared.lexer.Front.{Front}
use Rattle.iq_tokens.specs.declared.lexer.Cut.{Cut}
use Rattle.iq_tokens.specs.declared.quotes.Quoted.{Quoted}
use Rattle.iq_tokens.specs.Quotes.{quoted, kept}

-- space and tab
abbrev pub is_space : ℕ → Bool
is_space b = nat_eq b 32 || nat_eq b 9

-- a byte of a word: a letter, a digit or _
abbrev pub is_word_byte : ℕ → Bool
is_word_byte b = is_ascii_alphanumeric b || nat_eq b 95

-- the mark that a table has beside a word
abbrev pub lookup : List (List ℕ × Mark) → List ℕ → Option Mark
lookup [] word = None
lookup (k ∷ ks) word = if pointwise nat_eq k.0 word then Some k.1 else lookup ks word

-- the mark of a reserved word in lower case
unfoldable pub reserved : List ℕ → Option Mark
reserved word = lookup (map (λ k. (k.0.now, k.1)) WORDS) word

-- a token of so many bytes at the front of a text
abbrev pub front : Lexeme → ℕ → Front
front l n = record { lexeme = l; bytes = n }

-- bytes that begin no token, with all that stands behind them
abbrev pub bad : List ℕ → Front
bad text = front (lexeme.Mark mark.Bad) (length text)

-- ---- words

-- a word that is reserved, or a name
abbrev pub named : Option Mark → List ℕ → Lexeme
named (Some m) word = lexeme.Mark m
named None word = lexeme.Name word

-- a word in lower case; one of more than 30 bytes is no name
unfoldable pub word_at : List ℕ → Front
word_at text =
    let n = prefix_len is_word_byte text in
    let word = map to_ascii_lowercase (take n text) in
    if nat_lt 30 n then front (lexeme.Mark mark.Other) n else front (named (reserved word) word) n

-- ---- numbers

-- what digits say in base ten
abbrev pub decimal : List ℕ → ℕ
decimal = fold (λ (n d : ℕ). 10 * n + (d - 48)) 0

-- the number, if it has 64 bits with its sign
unfoldable pub signed : Bool → ℕ → Option ℤ
signed negative n =
    if negative
    then (if nat_le n (2 ^ 63) then Some (neg_ℤ (pos n)) else None)
    else (if nat_lt n (2 ^ 63) then Some (pos n) else None)

abbrev pub numbered : List ℕ → Option ℤ → ℕ → Front
numbered text None n = bad text
numbered text (Some v) n = front (lexeme.Number v) n

-- the number of a text, behind its sign of so many bytes: some digits, and no word follows them directly
unfoldable pub number_at : List ℕ → Bool → ℕ → List ℕ → Front
number_at text negative sign digits =
    let n = prefix_len is_ascii_digit digits in
    if nat_eq n 0 || is_word_byte (slice_index digits n) then bad text else numbered text (signed negative (decimal (take n digits))) (n + sign)

-- ---- texts in quotes

abbrev pub valued : List ℕ → Option Quoted → Front
valued text None = bad text
valued text (Some q) = front (lexeme.Text q.value) (1 + q.bytes)

-- the text in quotes that a text begins with, behind its first quote
unfoldable pub text_at : List ℕ → List ℕ → Front
text_at text rest = valued text (kept (quoted rest))

-- ---- symbols

-- a symbol of two bytes
unfoldable pub pair : ℕ → ℕ → Option Mark
pair a b =
    if nat_eq a 60 && nat_eq b 61 then Some mark.AtMost else
    (if nat_eq a 60 && nat_eq b 62 then Some mark.Differs else
    (if nat_eq a 33 && nat_eq b 61 then Some mark.Differs else
    (if nat_eq a 62 && nat_eq b 61 then Some mark.AtLeast else None)))

-- a symbol of one byte
unfoldable pub single : ℕ → Option Mark
single a =
    if nat_eq a 60 then Some mark.Less else
    (if nat_eq a 62 then Some mark.More else
    (if nat_eq a 61 then Some mark.Equal else
    (if nat_eq a 40 then Some mark.Open else
    (if nat_eq a 41 then Some mark.Close else
    (if nat_eq a 44 then Some mark.Comma else
    (if nat_eq a 42 then Some mark.Star else
    (if nat_eq a 46 then Some mark.Dot else
    (if nat_eq a 59 then Some mark.Semicolon else
    (if nat_eq a 58 then Some mark.Colon else None)))))))))

abbrev pub marked : List ℕ → Option Mark → Option Mark → Front
marked text (Some m) one = front (lexeme.Mark m) 2
marked text None (Some m) = front (lexeme.Mark m) 1
marked text None None = bad text

-- the symbol by the first byte of a text and the one behind it, or 0
unfoldable pub symbol_at : List ℕ → ℕ → ℕ → Front
symbol_at text a b = marked text (pair a b) (single a)

-- ---- the whole text

-- the token that a text begins with
unfoldable pub front_of : List ℕ → Front
front_of [] = bad []
front_of (b ∷ rest) =
    if is_ascii_digit b then number_at (b ∷ rest) false 0 (b ∷ rest)
    else (if is_word_byte b then word_at (b ∷ rest)
    else (if nat_eq b 45 then number_at (b ∷ rest) true 1 rest
    else (if nat_eq b 39 then text_at (b ∷ rest) rest else symbol_at (b ∷ rest) b (slice_index rest 0))))

abbrev pub token : ℕ → Lexeme → Token
token p l = record { place = p; lexeme = l }

-- The tokens of a text whose first byte has this place. The second number counts the bytes left of a token.
unfoldable pub cut : ℕ → ℕ → List ℕ → List Token
cut place left [] = []
cut place (suc left) (b ∷ rest) = cut (place + 1) left rest
cut place zero (b ∷ rest) =
    if is_space b then cut (place + 1) zero rest
    else token place (front_of (b ∷ rest)).lexeme ∷ cut (place + 1) ((front_of (b ∷ rest)).bytes - 1) rest

-- the tokens of a text
abbrev pub tokens_of : List ℕ → List Token
tokens_of text = cut 1 0 text

-- the tokens of a text without their places
abbrev pub lexemes : List Token → List Lexeme
lexemes = map (λ (t : Token). t.lexeme)

-- the tokens from a place of the text, counted from 0
abbrev pub tokens_from : List ℕ → ℕ → List Token
tokens_from text at = cut (at + 1) 0 (drop at text)

-- the next token and where it ends, or that there is none
abbrev pub Cuts : List ℕ → ℕ → Option Cut → Type 0
Cuts text at None = tokens_from text at ≡ []
Cuts text at (Some c) = (tokens_from text at ≡ c.token ∷ tokens_from text c.end) × (at < c.end) × (c.end ≤ length text)

-- a token that a text may have: names are words, values have at most 255 bytes of UTF-8
abbrev pub IsLexeme : Lexeme → Type 0
IsLexeme (lexeme.Mark m) = (m ≡ mark.Other → ⊥) × (m ≡ mark.Bad → ⊥)
IsLexeme (lexeme.Name n) = IsName n
IsLexeme (lexeme.Number v) = FitsSigned w64 v
IsLexeme (lexeme.Text t) = (length t ≤ 255) × IsUtf8 t

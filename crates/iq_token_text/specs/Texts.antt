-- How a list of tokens is printed.
use Rattle.std.specs.Prelude.{ℕ, Bool, ◌&&◌, ◌||◌, List, [], ◌∷◌, ◌++◌, Option, Some, None, codes, nat_eq, flat_map, if◌then◌else◌}
use Rattle.std.specs.List.{fold}
use Rattle.std.specs.Fmt.{signed_decimal}
use Rattle.iq_tokens.specs.declared.tokens.Mark.{Mark}
use Rattle.iq_tokens.specs.declared.tokens.Mark.TheVariants as mark
use Rattle.iq_tokens.specs.declared.tokens.Kind.{Kind}
use Rattle.iq_tokens.specs.declared.tokens.Kind.TheVariants as kind
use Rattle.iq_tokens.specs.declared.tokens.Lexeme.{Lexeme}
use Rattle.iq_tokens.specs.declared.tokens.Lexeme.TheVariants as lexeme
use Rattle.iq_tokens.specs.Kinds.{same, kind_of}

-- ---- one token

-- a reserved word in upper case, or a symbol; no text has the last two
unfoldable pub mark_text : Mark → List ℕ
mark_text mark.Alter = codes "ALTER"
mark_text mark.And = codes "AND"
mark_text mark.Apply = codes "APPLY"
mark_text mark.Asc = codes "ASC"
mark_text mark.Begin = codes "BEGIN"
mark_text mark.Between = codes "BETWEEN"
mark_text mark.Bigint = codes "BIGINT"
mark_text mark.By = codes "BY"
mark_text mark.Cmp = codes "CMP"
mark_text mark.Commit = codes "COMMIT"
mark_text mark.Coordinator = codes "COORDINATOR"
mark_text mark.Count = codes "COUNT"
mark_text mark.Create = codes "CREATE"
mark_text mark.Delete = codes "DELETE"
mark_text mark.Desc = codes "DESC"
mark_text mark.Drop = codes "DROP"
mark_text mark.Excluded = codes "EXCLUDED"
mark_text mark.Explain = codes "EXPLAIN"
mark_text mark.From = codes "FROM"
mark_text mark.Group = codes "GROUP"
mark_text mark.Hg = codes "HG"
mark_text mark.Hng = codes "HNG"
mark_text mark.In = codes "IN"
mark_text mark.Included = codes "INCLUDED"
mark_text mark.Index = codes "INDEX"
mark_text mark.Insert = codes "INSERT"
mark_text mark.Int = codes "INT"
mark_text mark.Into = codes "INTO"
mark_text mark.Is = codes "IS"
mark_text mark.Lf = codes "LF"
mark_text mark.Load = codes "LOAD"
mark_text mark.Lose = codes "LOSE"
mark_text mark.Max = codes "MAX"
mark_text mark.Min = codes "MIN"
mark_text mark.Multiplex = codes "MULTIPLEX"
mark_text mark.Node = codes "NODE"
mark_text mark.Not = codes "NOT"
mark_text mark.Null = codes "NULL"
mark_text mark.On = codes "ON"
mark_text mark.Or = codes "OR"
mark_text mark.Order = codes "ORDER"
mark_text mark.Reader = codes "READER"
mark_text mark.Release = codes "RELEASE"
mark_text mark.Report = codes "REPORT"
mark_text mark.Restart = codes "RESTART"
mark_text mark.Rollback = codes "ROLLBACK"
mark_text mark.Rows = codes "ROWS"
mark_text mark.Savepoint = codes "SAVEPOINT"
mark_text mark.Select = codes "SELECT"
mark_text mark.Server = codes "SERVER"
mark_text mark.Session = codes "SESSION"
mark_text mark.Set = codes "SET"
mark_text mark.Space = codes "SPACE"
mark_text mark.Status = codes "STATUS"
mark_text mark.Sum = codes "SUM"
mark_text mark.Sync = codes "SYNC"
mark_text mark.Table = codes "TABLE"
mark_text mark.Take = codes "TAKE"
mark_text mark.To = codes "TO"
mark_text mark.Transaction = codes "TRANSACTION"
mark_text mark.Update = codes "UPDATE"
mark_text mark.Values = codes "VALUES"
mark_text mark.Varchar = codes "VARCHAR"
mark_text mark.Versions = codes "VERSIONS"
mark_text mark.Where = codes "WHERE"
mark_text mark.Writer = codes "WRITER"
mark_text mark.Open = codes "("
mark_text mark.Close = codes ")"
mark_text mark.Comma = codes ","
mark_text mark.Star = codes "*"
mark_text mark.Dot = codes "."
mark_text mark.Semicolon = codes ";"
mark_text mark.Colon = codes ":"
mark_text mark.Equal = codes "="
mark_text mark.Differs = codes "<>"
mark_text mark.Less = codes "<"
mark_text mark.AtMost = codes "<="
mark_text mark.More = codes ">"
mark_text mark.AtLeast = codes ">="
mark_text mark.Other = []
mark_text mark.Bad = []

-- a byte of a text in quotes: a quote stands twice
abbrev pub quoted_byte : ℕ → List ℕ
quoted_byte byte = if nat_eq byte 39 then 39 ∷ 39 ∷ [] else byte ∷ []

-- a value between quotes
abbrev pub quoted_text : List ℕ → List ℕ
quoted_text value = 39 ∷ (flat_map quoted_byte value ++ 39 ∷ [])

-- a mark, a name as it is, a number in decimal digits with its sign, or a value in quotes
abbrev pub token_text : Lexeme → List ℕ
token_text (lexeme.Mark m) = mark_text m
token_text (lexeme.Name name) = name
token_text (lexeme.Number number) = signed_decimal number
token_text (lexeme.Text value) = quoted_text value

-- ---- between two tokens

abbrev pub is_mark : Mark → Kind → Bool
is_mark m k = same k (kind.Mark m)

-- no blank stands behind these
abbrev pub opens : Kind → Bool
opens k = is_mark mark.Open k || is_mark mark.Dot k

-- no blank stands before these
abbrev pub closes : Kind → Bool
closes k = is_mark mark.Close k || is_mark mark.Comma k || is_mark mark.Dot k

-- a bracket stands directly behind these
abbrev pub calls : Kind → Bool
calls k = is_mark mark.Varchar k || is_mark mark.Count k || is_mark mark.Sum k || is_mark mark.Min k || is_mark mark.Max k

-- whether the second of two tokens stands directly behind the first
unfoldable pub touches : Kind → Kind → Bool
touches one other = opens one || closes other || (calls one && is_mark mark.Open other)

-- one blank, or none where the tokens touch and before the first
abbrev pub gap : Option Kind → Kind → List ℕ
gap None other = []
gap (Some one) other = if touches one other then [] else 32 ∷ []

-- ---- all tokens

-- a text under way: its bytes, and the kind of its last token
pub record Printed : Type 0 where
  pub bytes : List ℕ
  pub last : Option Kind

abbrev pub nothing : Printed
nothing = record { bytes = []; last = None }

-- the text with a token more
unfoldable pub with_token : Printed → Lexeme → Printed
with_token text token = record { bytes = text.bytes ++ (gap text.last (kind_of token) ++ token_text token); last = Some (kind_of token) }

-- the text with these tokens more
abbrev pub with_tokens : Printed → List Lexeme → Printed
with_tokens text tokens = fold with_token text tokens

-- the text of these tokens
abbrev pub tokens_text : List Lexeme → List ℕ
tokens_text tokens = (with_tokens nothing tokens).bytes

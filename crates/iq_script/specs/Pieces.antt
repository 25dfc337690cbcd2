-- What one line says: a statement of a session that it names or of the first, or a directive; and where it says nothing.
use Rattle.std.specs.Prelude.{◌≡◌, ◌≤◌, ⊤, ℕ, ◌+◌, Bool, true, false, ◌&&◌, if◌then◌else◌, List, [], ◌∷◌, length, drop, Option, Some, None, nat_eq}
use Rattle.iq_tokens.specs.declared.tokens.Mark.TheVariants as mark
use Rattle.iq_tokens.specs.declared.tokens.Lexeme.{Lexeme}
use Rattle.iq_tokens.specs.declared.tokens.Lexeme.TheVariants as lexeme
use Rattle.iq_tokens.specs.declared.tokens.Token.{Token}
use Rattle.iq_tokens.specs.declared.tokens.Kind.TheVariants as kind
use Rattle.iq_tokens.specs.Kinds.{same, kind_of}
use Rattle.iq_tokens.specs.Tokens.{tokens_of}
use Rattle.iq_grammar.specs.Statements.{IsStatementOf, IsFaultOf}
use Rattle.iq_grammar.specs.Directives.{directs, IsDirectiveOf, IsDirectiveFault}
use Rattle.iq_script.specs.declared.pieces.Prefix.{Prefix}
use Rattle.iq_script.specs.declared.pieces.Front.{Front}
use Rattle.iq_script.specs.declared.pieces.Front.TheVariants as fronts
use Rattle.iq_script.specs.declared.pieces.Piece.{Piece}
use Rattle.iq_script.specs.declared.pieces.Piece.TheVariants.{Statement, Directive}

-- whether a token is a colon
abbrev pub is_colon : Lexeme → Bool
is_colon l = same (kind_of l) (kind.Mark mark.Colon)

-- a colon at this place behind a name: so many bytes stand before the statement
abbrev pub colon_at : List ℕ → ℕ → List Token → Option Prefix
colon_at name at [] = None
colon_at name at (t ∷ ts) = if nat_eq t.place at && is_colon t.lexeme then Some (record { name = name; bytes = at }) else None

-- the session that a first token at this place begins to name
abbrev pub named_by : ℕ → Lexeme → List Token → Option Prefix
named_by place (lexeme.Name n) ts = colon_at n (place + length n) ts
named_by place (lexeme.Mark m) ts = None
named_by place (lexeme.Number v) ts = None
named_by place (lexeme.Text t) ts = None

-- the session that a line names: its first token is a name, and : stands directly behind that
abbrev pub session_in : List Token → Option Prefix
session_in [] = None
session_in (t ∷ ts) = named_by t.place t.lexeme ts

-- whether the first token begins a declaration or a step
abbrev pub is_directed : List Token → Bool
is_directed [] = false
is_directed (t ∷ ts) = directs t.lexeme

abbrev pub front_by : Option Prefix → Bool → Front
front_by (Some prefix) directed = fronts.Session prefix
front_by None true = fronts.Directive
front_by None false = fronts.Statement

-- what a line is by its first tokens: a statement behind the name of its session, a directive, or a statement alone
abbrev pub front_of : List ℕ → Front
front_of text = front_by (session_in (tokens_of text)) (is_directed (tokens_of text))

-- the name of a session ends within so many bytes
abbrev pub IsWithin : Front → ℕ → Type 0
IsWithin (fronts.Session prefix) n = prefix.bytes ≤ n
IsWithin fronts.Directive n = ⊤
IsWithin fronts.Statement n = ⊤

-- what each such line says
abbrev pub Says : Front → List ℕ → Piece → Type 0
Says (fronts.Session prefix) text (Statement session s) = (session ≡ Some prefix.name) × IsStatementOf (drop prefix.bytes text) s
Says (fronts.Session prefix) text (Directive d) = ⊥
Says fronts.Directive text (Statement session s) = ⊥
Says fronts.Directive text (Directive d) = IsDirectiveOf text d
Says fronts.Statement text (Statement session s) = (session ≡ None) × IsStatementOf text s
Says fronts.Statement text (Directive d) = ⊥

-- the text of a line says this
abbrev pub IsPieceOf : List ℕ → Piece → Type 0
IsPieceOf text piece = Says (front_of text) text piece

-- the place of a fault behind so many bytes of the line
pub record IsFaultBehind (bytes : ℕ) (text : List ℕ) (place : ℕ) : Type 0 where
  pub within : ℕ
  pub fault : IsFaultOf (drop bytes text) within
  pub is : place ≡ bytes + within

-- where each such line is at fault, counted in the whole line from 1
abbrev pub Fails : Front → List ℕ → ℕ → Type 0
Fails (fronts.Session prefix) text place = IsFaultBehind prefix.bytes text place
Fails fronts.Directive text place = IsDirectiveFault text place
Fails fronts.Statement text place = IsFaultOf text place

-- the text of a line says nothing, and its fault is at this place
abbrev pub IsSyntaxOf : List ℕ → ℕ → Type 0
IsSyntaxOf text place = Fails (front_of text) text place

-- What a text of tokens spells, where it goes on, and where its fault is; and the same from left to right.
use Rattle.std.specs.Prelude.{◌≡◌, ℕ, ◌+◌, Bool, true, false, List, [], ◌∷◌, ◌++◌, map, Option, Some, None, Result, Ok, Err, ⊤}
use Rattle.iq_tokens.specs.declared.tokens.Lexeme.{Lexeme}
use Rattle.iq_tokens.specs.Kinds.{kind_of}
use Rattle.iq_tokens.specs.Tokens.{lexemes, IsLexeme}
use Rattle.iq_tokens.specs.declared.tokens.Token.{Token}
use Rattle.iq_grammar.specs.declared.grammar.Symbol.{Symbol}
use Rattle.iq_grammar.specs.declared.grammar.Symbol.TheVariants.{Go}
use Rattle.iq_grammar.specs.declared.grammar.Part.{Part}
use Rattle.iq_grammar.specs.declared.grammar.Part.TheVariants as part
use Rattle.iq_grammar.specs.declared.faults.ParseFault.{ParseFault}
use Rattle.iq_grammar.specs.declared.faults.ParseFault.TheVariants.{Syntax, NoMemory}
use Rattle.iq_grammar.specs.Grammar.{Line, Sign, Fits, after, can_end}
use Rattle.iq_grammar.specs.Draft.{◌>>=◌, empty, put}
use Rattle.iq_grammar.specs.declared.draft.Draft.{Draft}

-- what these tokens in their roles make of a draft, if none breaks a rule
abbrev pub built : Draft → List Sign → Option Draft
built d [] = Some d
built d (m ∷ ms) = put d m.role m.lexeme >>= λ (e : Draft). built e ms

abbrev pub text_of : List Sign → List Lexeme
text_of = map (λ (m : Sign). m.lexeme)

-- the tokens are of the form, obey the rules, and make e of d
pub record Spells (d : Draft) (ss : List Symbol) (ls : List Lexeme) (e : Draft) : Type 0 where
  pub signs : List Sign
  pub fits : Fits ss signs
  pub text : text_of signs ≡ ls
  pub makes : built d signs ≡ Some e

-- tokens that a text may have
abbrev pub AreReal : List Sign → Type 0
AreReal [] = ⊤
AreReal (m ∷ ms) = IsLexeme m.lexeme × AreReal ms

-- a text of the form begins with these tokens, and none of them breaks a rule
pub record GoesOn (d : Draft) (ss : List Symbol) (front : List Lexeme) : Type 0 where
  pub signs : List Sign
  pub more : List Sign
  pub made : Draft
  pub real : AreReal more
  pub fits : Fits ss (signs ++ more)
  pub text : text_of signs ≡ front
  pub makes : built d signs ≡ Some made

-- nothing of the form goes on behind the front with the next token, or else the front is no whole text
abbrev pub IsStuck : Draft → List Symbol → List Lexeme → List Token → Type 0
IsStuck d ss front [] = (e : Draft) → Spells d ss front e → ⊥
IsStuck d ss front (t ∷ ts) = GoesOn d ss (front ++ t.lexeme ∷ []) → ⊥

-- the place of the first of these tokens, or the one behind the text's end
abbrev pub place_of : ℕ → List Token → ℕ
place_of end [] = end + 1
place_of end (t ∷ ts) = t.place

-- the fault of a text of tokens and so many bytes: what stands before the place goes on, and with the next token it doesn't
pub record IsFault (end : ℕ) (d : Draft) (ss : List Symbol) (ts : List Token) (place : ℕ) : Type 0 where
  pub front : List Token
  pub rest : List Token
  pub whole : ts ≡ front ++ rest
  pub is : place ≡ place_of end rest
  pub goes : GoesOn d ss (lexemes front)
  pub stuck : IsStuck d ss (lexemes front) rest

-- ---- from left to right

pub record State : Type 0 where
  pub draft : Draft
  pub symbols : List Symbol

abbrev pub state : Draft → List Symbol → State
state d ss = record { draft = d; symbols = ss }

-- the state behind a token
unfoldable pub next : Draft → List Symbol → Lexeme → Option State
next d ss l = after ss (kind_of l) >>= λ (to : Line). put d to.role l >>= λ (e : Draft). Some (state e to.rest)

abbrev pub ended : Bool → ℕ → Draft → Result Draft ℕ
ended true end d = Ok d
ended false end d = Err (end + 1)

abbrev pub going : Option State → (State → Result Draft ℕ) → ℕ → Result Draft ℕ
going None f place = Err place
going (Some s) f place = f s

-- the draft that the tokens make, or the place of the fault
unfoldable pub run : ℕ → Draft → List Symbol → List Token → Result Draft ℕ
run end d ss [] = ended (can_end ss) end d
run end d ss (t ∷ ts) = going (next d ss t.lexeme) (λ (s : State). run end s.draft s.symbols ts) t.place

-- what a function returned is what reading gives, unless memory is wanting
abbrev pub Gives : Result Draft ParseFault → Result Draft ℕ → Type 0
Gives (Ok d) read = read ≡ Ok d
Gives (Err (Syntax place)) read = read ≡ Err place
Gives (Err NoMemory) read = ⊤

-- a whole text of a part
abbrev pub whole_of : Part → List Symbol
whole_of p = Go p ∷ Go part.End ∷ []

-- a whole statement
abbrev pub statement : List Symbol
statement = whole_of part.Statement

-- a whole directive
abbrev pub directive : List Symbol
directive = whole_of part.Directive

-- the tokens spell the draft of a statement
abbrev pub IsSpelled : List Lexeme → Draft → Type 0
IsSpelled ls d = Spells empty statement ls d

-- the place of the tokens' fault, in a text of so many bytes
abbrev pub IsFaultAt : ℕ → List Token → ℕ → Type 0
IsFaultAt end ts place = IsFault end empty statement ts place

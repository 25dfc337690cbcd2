-- Words, values and lists of a text.
use Rattle.std.specs.Prelude.{◌≡◌, Bool, true, false, ℕ, List, [], ◌∷◌, ◌++◌, ⊤}
use Rattle.iq_base.specs.declared.values.Value.{Value}
use Rattle.iq_base.specs.declared.values.Value.TheVariants as value
use Rattle.iq_tokens.specs.declared.tokens.Mark.{Mark}
use Rattle.iq_tokens.specs.declared.tokens.Mark.TheVariants.{Null, Not, Comma}
use Rattle.iq_tokens.specs.declared.tokens.Lexeme.{Lexeme}
use Rattle.iq_tokens.specs.declared.tokens.Lexeme.TheVariants as lexeme

-- a reserved word or a symbol
abbrev pub word : Mark → Lexeme
word m = lexeme.Mark m

abbrev pub name : List ℕ → Lexeme
name n = lexeme.Name n

-- literal = number | text | NULL
abbrev pub literal : Value → Lexeme
literal value.Null = word Null
literal (value.Int n) = lexeme.Number n
literal (value.Text t) = lexeme.Text t

abbrev pub IsLiteral : Value → List Lexeme → Type 0
IsLiteral v ls = ls ≡ literal v ∷ []

abbrev pub IsName : List ℕ → List Lexeme → Type 0
IsName n ls = ls ≡ name n ∷ []

-- [ NOT ]
abbrev pub maybe_not : Bool → List Lexeme
maybe_not true = word Not ∷ []
maybe_not false = []

-- { , x }, with any mark for the comma
abbrev pub AreMore : {A : Type 0} → Mark → (A → List Lexeme → Type 0) → List A → List Lexeme → Type 0
AreMore m P [] ls = ls ≡ []
AreMore m P (x ∷ xs) ls = (a : List Lexeme) × (b : List Lexeme) × P x a × AreMore m P xs b × (ls ≡ word m ∷ (a ++ b))

-- x { , x }
abbrev pub AreJoined : {A : Type 0} → Mark → (A → List Lexeme → Type 0) → List A → List Lexeme → Type 0
AreJoined m P [] ls = ⊥
AreJoined m P (x ∷ xs) ls = (a : List Lexeme) × (b : List Lexeme) × P x a × AreMore m P xs b × (ls ≡ a ++ b)

abbrev pub AreListed : {A : Type 0} → (A → List Lexeme → Type 0) → List A → List Lexeme → Type 0
AreListed P xs ls = AreJoined Comma P xs ls

-- each obeys a rule on it and those before it
abbrev pub Obey : {A : Type 0} → (List A → A → Type 0) → List A → List A → Type 0
Obey Q before [] = ⊤
Obey Q before (x ∷ xs) = Q before x × Obey Q (before ++ x ∷ []) xs

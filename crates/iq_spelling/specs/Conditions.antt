-- Conditions: cond = conj { OR conj }, conj = neg { AND neg }, neg = NOT neg | ( cond ) | test.
use Rattle.std.specs.Prelude.{◌≡◌, ℕ, zero, suc, List, [], ◌∷◌, ◌++◌, ◌⊎◌}
use Rattle.iq_ast.specs.declared.conditions.Op.{Op}
use Rattle.iq_ast.specs.declared.conditions.Op.TheVariants as op
use Rattle.iq_ast.specs.declared.conditions.Test.{Test}
use Rattle.iq_ast.specs.declared.conditions.Test.TheVariants as test
use Rattle.iq_ast.specs.declared.conditions.Cond.{Cond}
use Rattle.iq_ast.specs.declared.conditions.Cond.TheVariants as cond
use Rattle.iq_tokens.specs.declared.tokens.Mark.{Mark}
use Rattle.iq_tokens.specs.declared.tokens.Mark.TheVariants.{And, Or, Not, Null, Open, Close, Between, In, Is, Equal, Differs, Less, AtMost, More, AtLeast}
use Rattle.iq_tokens.specs.declared.tokens.Lexeme.{Lexeme}
use Rattle.iq_grammar.specs.Draft.{and_of, or_of}
use Rattle.iq_spelling.specs.Lists.{word, name, literal, IsLiteral, maybe_not, AreJoined, AreListed}

abbrev pub op_mark : Op → Mark
op_mark op.Eq = Equal
op_mark op.Ne = Differs
op_mark op.Lt = Less
op_mark op.Le = AtMost
op_mark op.Gt = More
op_mark op.Ge = AtLeast

-- a test of one row
abbrev pub IsTest : Test → List Lexeme → Type 0
IsTest (test.Compare c o v) ls = ls ≡ name c ∷ word (op_mark o) ∷ literal v ∷ []
IsTest (test.Columns l o r) ls = ls ≡ name l ∷ word (op_mark o) ∷ name r ∷ []
IsTest (test.Between c negated low high) ls = ls ≡ name c ∷ (maybe_not negated ++ word Between ∷ literal low ∷ word And ∷ literal high ∷ [])
IsTest (test.OneOf c negated values) ls =
    (vs : List Lexeme) × AreListed IsLiteral values vs × (ls ≡ name c ∷ (maybe_not negated ++ word In ∷ word Open ∷ (vs ++ word Close ∷ [])))
IsTest (test.Null c negated) ls = ls ≡ name c ∷ word Is ∷ (maybe_not negated ++ word Null ∷ [])

-- conj = neg { AND neg }, of one as it is
abbrev pub IsConjunction : (Cond → List Lexeme → Type 0) → Cond → List Lexeme → Type 0
IsConjunction P c ls = (cs : List Cond) × AreJoined And P cs ls × (c ≡ and_of cs)

-- cond = conj { OR conj }, of one as it is
abbrev pub IsDisjunction : (Cond → List Lexeme → Type 0) → Cond → List Lexeme → Type 0
IsDisjunction P c ls = (cs : List Cond) × AreJoined Or (IsConjunction P) cs ls × (c ≡ or_of cs)

-- a test
abbrev pub IsTested : Cond → List Lexeme → Type 0
IsTested c ls = (t : Test) × IsTest t ls × (c ≡ cond.Test t)

-- NOT neg
abbrev pub IsNegated : (Cond → List Lexeme → Type 0) → Cond → List Lexeme → Type 0
IsNegated P c ls = (d : Cond) × (rest : List Lexeme) × P d rest × (c ≡ cond.Not d) × (ls ≡ word Not ∷ rest)

-- ( cond )
abbrev pub IsBracketed : (Cond → List Lexeme → Type 0) → Cond → List Lexeme → Type 0
IsBracketed P c ls = (inner : List Lexeme) × P c inner × (ls ≡ word Open ∷ (inner ++ word Close ∷ []))

-- a condition under an operator, in which brackets and NOT nest so deep at most
abbrev pub IsNegation : ℕ → Cond → List Lexeme → Type 0
IsNegation zero c ls = IsTested c ls
IsNegation (suc n) c ls = IsNegated (IsNegation n) c ls ⊎ (IsBracketed (IsDisjunction (IsNegation n)) c ls ⊎ IsTested c ls)

-- a condition
abbrev pub IsCondition : Cond → List Lexeme → Type 0
IsCondition = IsDisjunction (IsNegation 64)

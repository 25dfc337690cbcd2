-- The tokens that a condition is printed as: brackets stand only where a part binds more loosely than its place allows.
use Rattle.std.specs.Prelude.{◌<◌, ◌≤◌, ◌+◌, ℕ, max, List, [], ◌∷◌, ◌++◌, length, nat_lt, if◌then◌else◌, ⊤}
use Rattle.std.specs.List.{join_by}
use Rattle.iq_base.specs.declared.values.Value.{Value}
use Rattle.iq_ast.specs.declared.conditions.Test.{Test}
use Rattle.iq_ast.specs.declared.conditions.Test.TheVariants as test
use Rattle.iq_ast.specs.declared.conditions.Cond.{Cond, Row_of-Cond, end_of-Cond, more_of-Cond}
use Rattle.iq_ast.specs.declared.conditions.Cond as conds
use Rattle.iq_tokens.specs.declared.tokens.Mark.{Mark}
use Rattle.iq_tokens.specs.declared.tokens.Mark.TheVariants.{And, Or, Not, Null, Open, Close, Comma, Between, In, Is}
use Rattle.iq_tokens.specs.declared.tokens.Lexeme.{Lexeme}
use Rattle.iq_spelling.specs.Lists.{word, name, literal, maybe_not}
use Rattle.iq_spelling.specs.Conditions.{op_mark}

-- x { , x }
abbrev pub listed : {A : Type 0} → (A → List Lexeme) → List A → List Lexeme
listed words xs = join_by words (word Comma ∷ []) xs

abbrev pub value_words : Value → List Lexeme
value_words v = literal v ∷ []

abbrev pub test_words : Test → List Lexeme
test_words (test.Compare c o v) = name c ∷ word (op_mark o) ∷ literal v ∷ []
test_words (test.Columns l o r) = name l ∷ word (op_mark o) ∷ name r ∷ []
test_words (test.Between c negated low high) = name c ∷ (maybe_not negated ++ word Between ∷ literal low ∷ word And ∷ literal high ∷ [])
test_words (test.OneOf c negated values) = name c ∷ (maybe_not negated ++ word In ∷ word Open ∷ (listed value_words values ++ word Close ∷ []))
test_words (test.Null c negated) = name c ∷ word Is ∷ (maybe_not negated ++ word Null ∷ [])

-- A condition without brackets round it: its tokens, how loosely it binds (a test and NOT 0, AND 1, OR 2), and how deep brackets and
-- NOT nest in it.
pub record Spelled : Type 0 where
  pub words : List Lexeme
  pub loose : ℕ
  pub deep : ℕ

-- where nothing that binds more loosely may stand without brackets
abbrev pub words_in : ℕ → Spelled → List Lexeme
words_in most s = if nat_lt most s.loose then word Open ∷ (s.words ++ word Close ∷ []) else s.words

abbrev pub deep_in : ℕ → Spelled → ℕ
deep_in most s = if nat_lt most s.loose then s.deep + 1 else s.deep

-- members with a mark between each two
abbrev pub joined : Mark → ℕ → List Spelled → List Lexeme
joined m most ss = join_by (words_in most) (word m ∷ []) ss

abbrev pub deepest : ℕ → List Spelled → ℕ
deepest most [] = 0
deepest most (s ∷ ss) = max (deep_in most s) (deepest most ss)

abbrev pub test_spelled : Test → Spelled
test_spelled t = record { words = test_words t; loose = 0; deep = 0 }

-- NOT has one condition in it
abbrev pub not_spelled : List Spelled → Spelled
not_spelled ss = record { words = word Not ∷ joined And 0 ss; loose = 0; deep = deepest 0 ss + 1 }

abbrev pub and_spelled : List Spelled → Spelled
and_spelled ss = record { words = joined And 0 ss; loose = 1; deep = deepest 0 ss }

abbrev pub or_spelled : List Spelled → Spelled
or_spelled ss = record { words = joined Or 1 ss; loose = 2; deep = deepest 1 ss }

-- a condition, and a row of conditions in text order
abbrev mutual
  pub spelled : Cond → Spelled
  spelled (conds.Test t) = test_spelled t
  spelled (conds.Not' shape inner) = not_spelled (all_spelled inner)
  spelled (conds.And' shape members) = and_spelled (all_spelled members)
  spelled (conds.Or' shape members) = or_spelled (all_spelled members)

  pub all_spelled : {m : _} → Row_of-Cond m → List Spelled
  all_spelled end_of-Cond = []
  all_spelled (more_of-Cond cond rest) = spelled cond ∷ all_spelled rest

-- the tokens of a condition
abbrev pub cond_words : Cond → List Lexeme
cond_words cond = (spelled cond).words

-- ---- conditions that the grammar has

-- IN has one value at least
abbrev pub HasValues : Test → Type 0
HasValues (test.Compare c o v) = ⊤
HasValues (test.Columns l o r) = ⊤
HasValues (test.Between c negated low high) = ⊤
HasValues (test.OneOf c negated values) = 0 < length values
HasValues (test.Null c negated) = ⊤

-- AND and OR have two members at least, throughout
abbrev mutual
  pub HasMembers : Cond → Type 0
  HasMembers (conds.Test t) = HasValues t
  HasMembers (conds.Not' shape inner) = HaveMembers inner
  HasMembers (conds.And' shape members) = (1 < length (all_spelled members)) × HaveMembers members
  HasMembers (conds.Or' shape members) = (1 < length (all_spelled members)) × HaveMembers members

  pub HaveMembers : {m : _} → Row_of-Cond m → Type 0
  HaveMembers end_of-Cond = ⊤
  HaveMembers (more_of-Cond cond rest) = HasMembers cond × HaveMembers rest

-- a condition in whose text brackets and NOT nest 64 deep at most
pub record IsSpellableCond (cond : Cond) : Type 0 where
  pub members : HasMembers cond
  pub shallow : (spelled cond).deep ≤ 64

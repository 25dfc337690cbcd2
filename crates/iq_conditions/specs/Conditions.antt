-- The truth of a condition on a row, and the tests and names that stand in it.
use Rattle.std.specs.Prelude.{List, [], ◌∷◌, ◌++◌, flat_map}
use Rattle.iq_base.specs.Shorts.{Name}
use Rattle.iq_base.specs.declared.values.Value.{Value}
use Rattle.iq_ast.specs.declared.conditions.Test.{Test}
use Rattle.iq_ast.specs.declared.conditions.Test.TheVariants as tests
use Rattle.iq_ast.specs.declared.conditions.Cond.{Cond, Row_of-Cond, end_of-Cond, more_of-Cond}
use Rattle.iq_ast.specs.declared.conditions.Cond as conds
use Rattle.iq_truth.specs.declared.truth.Truth.{Truth}
use Rattle.iq_truth.specs.declared.truth.Truth.TheVariants.{False, True}
use Rattle.iq_truth.specs.Truths.{truth_not, truth_and, truth_or}
use Rattle.iq_truth.specs.Tests.{test_truth}

-- CONDITIONS LEVEL BY LEVEL

-- what a level of a condition gives, once the conditions in it have given theirs; NOT has one condition in it
pub record Levels (A : Type 0) : Type 0 where
  pub test : Test → A
  pub not_of : List A → A
  pub all_of : List A → A
  pub any_of : List A → A

-- what a condition gives, and what a row of conditions gives, in text order
abbrev mutual
  pub cond_fold : {A : Type 0} → Levels A → Cond → A
  cond_fold levels (conds.Test test) = levels.test test
  cond_fold levels (conds.Not' shape members) = levels.not_of (row_fold levels members)
  cond_fold levels (conds.And' shape members) = levels.all_of (row_fold levels members)
  cond_fold levels (conds.Or' shape members) = levels.any_of (row_fold levels members)

  pub row_fold : {A : Type 0} → Levels A → {m : _} → Row_of-Cond m → List A
  row_fold levels end_of-Cond = []
  row_fold levels (more_of-Cond cond rest) = cond_fold levels cond ∷ row_fold levels rest

-- TRUTH

-- AND of several, and OR of several
abbrev pub all_truths : List Truth → Truth
all_truths [] = True
all_truths (t ∷ ts) = truth_and t (all_truths ts)

abbrev pub any_truth : List Truth → Truth
any_truth [] = False
any_truth (t ∷ ts) = truth_or t (any_truth ts)

-- NOT of the one condition in it
abbrev pub no_truth : List Truth → Truth
no_truth truths = truth_not (all_truths truths)

abbrev pub truth_levels : (Name → Value) → Levels Truth
truth_levels at = record { test = test_truth at; not_of = no_truth; all_of = all_truths; any_of = any_truth }

-- the truth of a condition, where a name has its value
abbrev pub cond_truth : (Name → Value) → Cond → Truth
cond_truth at = cond_fold (truth_levels at)

-- TESTS AND NAMES, in text order

abbrev pub one_test : Test → List Test
one_test test = test ∷ []

abbrev pub joined : List (List Test) → List Test
joined [] = []
joined (tests ∷ more) = tests ++ joined more

abbrev pub test_levels : Levels (List Test)
test_levels = record { test = one_test; not_of = joined; all_of = joined; any_of = joined }

-- the tests of a condition
abbrev pub tests_of : Cond → List Test
tests_of = cond_fold test_levels

-- the columns that a test names
abbrev pub test_names : Test → List Name
test_names (tests.Compare column op value) = column ∷ []
test_names (tests.Columns left op right) = left ∷ right ∷ []
test_names (tests.Between column negated low high) = column ∷ []
test_names (tests.OneOf column negated values) = column ∷ []
test_names (tests.Null column negated) = column ∷ []

-- the columns that a condition names
abbrev pub cond_names : Cond → List Name
cond_names cond = flat_map test_names (tests_of cond)

-- NOT carried to the tests, and the tests as they are planned.
use Rattle.std.specs.Prelude.{Bool, true, false, not, ◌||◌, List, [], ◌∷◌, ◌++◌, filter, if◌then◌else◌}
use Rattle.std.specs.List.{list_all}
use Rattle.iq_base.specs.Shorts.{Name}
use Rattle.iq_base.specs.declared.values.Value.{Value}
use Rattle.iq_ast.specs.declared.conditions.Op.{Op}
use Rattle.iq_ast.specs.declared.conditions.Op.TheVariants as ops
use Rattle.iq_ast.specs.declared.conditions.Test.{Test}
use Rattle.iq_ast.specs.declared.conditions.Test.TheVariants as tests
use Rattle.iq_ast.specs.declared.conditions.Cond.{Cond}
use Rattle.iq_truth.specs.Comparisons.{is_null}
use Rattle.iq_truth.specs.Tests.{negated}
use Rattle.iq_conditions.specs.Conditions.{Levels, cond_fold}

-- a test, or the one that says NOT of it
abbrev pub test_under : Bool → Test → Test
test_under true test = negated test
test_under false test = test

-- the tests of a level, under an even or an odd number of NOTs
abbrev pub carry_test : Test → Bool → List Test
carry_test test under = test_under under test ∷ []

abbrev pub carry_all : List (Bool → List Test) → Bool → List Test
carry_all [] under = []
carry_all (carry ∷ carries) under = carry under ++ carry_all carries under

abbrev pub carry_not : List (Bool → List Test) → Bool → List Test
carry_not carries under = carry_all carries (not under)

abbrev pub carry_levels : Levels (Bool → List Test)
carry_levels = record { test = carry_test; not_of = carry_not; all_of = carry_all; any_of = carry_all }

-- the tests of a condition in text order, with the NOTs above each carried into it
abbrev pub carried_tests : Cond → List Test
carried_tests cond = cond_fold carry_levels cond false

-- the two comparisons that BETWEEN or NOT BETWEEN stands for
abbrev pub as_comparisons : Name → Bool → Value → Value → List Test
as_comparisons column under low high =
    test_under under (tests.Compare column ops.Ge low) ∷ test_under under (tests.Compare column ops.Le high) ∷ []

-- a list of values without its NULLs; a list of NULLs alone as it is
abbrev pub without_nulls : List Value → List Value
without_nulls values = if list_all is_null values then values else filter (λ (value : Value). not (is_null value)) values

-- a test as it is planned: a BETWEEN with a NULL end as its two comparisons, an IN without its NULLs
abbrev pub planned_tests : Test → List Test
planned_tests (tests.Compare column op value) = tests.Compare column op value ∷ []
planned_tests (tests.Columns left op right) = tests.Columns left op right ∷ []
planned_tests (tests.Between column under low high) =
    if is_null low || is_null high then as_comparisons column under low high else tests.Between column under low high ∷ []
planned_tests (tests.OneOf column true values) = tests.OneOf column true values ∷ []
planned_tests (tests.OneOf column false values) = tests.OneOf column false (without_nulls values) ∷ []
planned_tests (tests.Null column under) = tests.Null column under ∷ []

-- What a test says of a row, given the value of each column.
use Rattle.std.specs.Prelude.{ℕ, Bool, true, false, not, List}
use Rattle.iq_base.specs.declared.values.Value.{Value}
use Rattle.iq_ast.specs.declared.conditions.Op.{Op}
use Rattle.iq_ast.specs.declared.conditions.Op.TheVariants.{Eq, Ne, Lt, Le, Gt, Ge}
use Rattle.iq_ast.specs.declared.conditions.Test.{Test}
use Rattle.iq_ast.specs.declared.conditions.Test.TheVariants.{Compare, Columns, Between, OneOf, Null}
use Rattle.iq_truth.specs.declared.truth.Truth.{Truth}
use Rattle.iq_truth.specs.Truths.{truth_of, truth_not}
use Rattle.iq_truth.specs.Comparisons.{comparison, between, one_of, is_null}

-- a truth, or its negation where NOT stands in the test
abbrev pub negated_where : Bool → Truth → Truth
negated_where true truth = truth_not truth
negated_where false truth = truth

-- what a test says where the columns have these values, by their names
abbrev pub test_truth : (List ℕ → Value) → Test → Truth
test_truth of (Compare column op value) = comparison op (of column) value
test_truth of (Columns left op right) = comparison op (of left) (of right)
test_truth of (Between column negated low high) = negated_where negated (between (of column) low high)
test_truth of (OneOf column negated values) = negated_where negated (one_of (of column) values)
test_truth of (Null column negated) = negated_where negated (truth_of (is_null (of column)))

-- what a test of one column says of a value of it
abbrev pub truth_on : Value → Test → Truth
truth_on v test = test_truth (λ (name : List ℕ). v) test

-- the operator that holds where the other doesn't
abbrev pub negated_op : Op → Op
negated_op Eq = Ne
negated_op Ne = Eq
negated_op Lt = Ge
negated_op Le = Gt
negated_op Gt = Le
negated_op Ge = Lt

-- the test with NOT carried into it
abbrev pub negated : Test → Test
negated (Compare column op value) = Compare column (negated_op op) value
negated (Columns left op right) = Columns left (negated_op op) right
negated (Between column n low high) = Between column (not n) low high
negated (OneOf column n values) = OneOf column (not n) values
negated (Null column n) = Null column (not n)

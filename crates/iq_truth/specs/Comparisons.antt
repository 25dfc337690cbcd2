-- What a comparison of values says.
use Rattle.std.specs.Prelude.{Bool, true, false, ◌||◌, if◌then◌else◌, List}
use Rattle.std.specs.List.{fold}
use Rattle.std.specs.declared.cmp.Ordering.{Ordering}
use Rattle.std.specs.declared.cmp.Ordering.TheVariants.{Less, Equal, Greater}
use Rattle.iq_base.specs.declared.values.Value.{Value}
use Rattle.iq_base.specs.declared.values.Value.TheVariants.{Null, Int, Text}
use Rattle.iq_ast.specs.declared.conditions.Op.{Op}
use Rattle.iq_ast.specs.declared.conditions.Op.TheVariants.{Eq, Ne, Lt, Le, Gt, Ge}
use Rattle.iq_cells.specs.Orders.{value_order}
use Rattle.iq_truth.specs.declared.truth.Truth.{Truth}
use Rattle.iq_truth.specs.declared.truth.Truth.TheVariants.{False, Unknown}
use Rattle.iq_truth.specs.Truths.{truth_of, truth_and, truth_or}

-- whether an operator holds of two values that stand to each other in this order
abbrev pub compared : Op → Ordering → Bool
compared Eq Less = false
compared Eq Equal = true
compared Eq Greater = false
compared Ne Less = true
compared Ne Equal = false
compared Ne Greater = true
compared Lt Less = true
compared Lt Equal = false
compared Lt Greater = false
compared Le Less = true
compared Le Equal = true
compared Le Greater = false
compared Gt Less = false
compared Gt Equal = false
compared Gt Greater = true
compared Ge Less = false
compared Ge Equal = true
compared Ge Greater = true

-- whether a value is NULL
abbrev pub is_null : Value → Bool
is_null Null = true
is_null (Int z) = false
is_null (Text t) = false

-- a comparison is unknown where one of the values is NULL, and else true or false by their order
abbrev pub comparison : Op → Value → Value → Truth
comparison op a b = if is_null a || is_null b then Unknown else truth_of (compared op (value_order a b))

-- BETWEEN: at least the one, and at most the other
abbrev pub between : Value → Value → Value → Truth
between v low high = truth_and (comparison Ge v low) (comparison Le v high)

-- IN: equal to the first, or to the second, and so on; false where there are none
abbrev pub one_of : Value → List Value → Truth
one_of v values = fold (λ (truth : Truth) (w : Value). truth_or truth (comparison Eq v w)) False values

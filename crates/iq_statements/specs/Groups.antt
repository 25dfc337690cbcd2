-- Groups of rows and what is counted, summed and compared in them.
use Rattle.std.specs.Prelude.{ℤ, ◌+ℤ◌, not, List, [], ◌∷◌, Option, Some, None, filter, fold, map, if◌then◌else◌}
use Rattle.std.specs.Ordering.{is_eq, is_lt, is_gt}
use Rattle.std.specs.Cmp.Lexicographic.{slice_cmp}
use Rattle.iq_base.specs.Shorts.{Name}
use Rattle.iq_base.specs.declared.values.Value.{Value}
use Rattle.iq_base.specs.declared.values.Value.TheVariants as values
use Rattle.iq_base.specs.declared.schemas.Column.{Column}
use Rattle.iq_cells.specs.Orders.{value_order}
use Rattle.iq_truth.specs.Comparisons.{is_null}
use Rattle.iq_statements.specs.Rows.{value_named, each_once}

-- GROUPS

-- the values by which a row is grouped
abbrev pub key_of : List Column → List Name → List Value → List Value
key_of columns group row = map (value_named columns row) group

-- the keys of some rows in order, first column first, each once
abbrev pub keys_of : List Column → List Name → List (List Value) → List (List Value)
keys_of columns group rows = each_once (slice_cmp value_order) (map (key_of columns group) rows)

-- the rows of a key, in the order that they have
abbrev pub rows_of_key : List Column → List Name → List (List Value) → List Value → List (List Value)
rows_of_key columns group rows key = filter (λ (row : List Value). is_eq (slice_cmp value_order (key_of columns group row) key)) rows

-- the groups of some rows, in the order of their keys; without GROUP BY all rows are one group
abbrev pub groups_by : List Column → List Name → List (List Value) → List (List (List Value))
groups_by columns [] rows = rows ∷ []
groups_by columns (name ∷ names) rows = map (rows_of_key columns (name ∷ names) rows) (keys_of columns (name ∷ names) rows)

-- VALUES OF A GROUP

abbrev pub without_null : List Value → List Value
without_null values = filter (λ (value : Value). not (is_null value)) values

-- a sum of whole numbers, none of no number
abbrev pub add_value : Option ℤ → Value → Option ℤ
add_value sum values.Null = sum
add_value None (values.Int number) = Some number
add_value (Some sum) (values.Int number) = Some (sum +ℤ number)
add_value sum (values.Text text) = sum

abbrev pub sum_of : List Value → Option ℤ
sum_of values = fold add_value None values

-- the least of some values by an order, and the greatest; NULL of none
abbrev pub lesser : Value → Value → Value
lesser least value = if is_lt (value_order value least) then value else least

abbrev pub greater : Value → Value → Value
greater greatest value = if is_gt (value_order value greatest) then value else greatest

abbrev pub least_of : List Value → Value
least_of [] = values.Null
least_of (value ∷ more) = fold lesser value more

abbrev pub greatest_of : List Value → Value
greatest_of [] = values.Null
greatest_of (value ∷ more) = fold greater value more

-- the distinct values of a column but NULL
abbrev pub distinct_values : List Value → List Value
distinct_values values = each_once value_order (without_null values)

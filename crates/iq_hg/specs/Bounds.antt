-- Ranges of values, and what is wanted of a column in order.
use Rattle.std.specs.Prelude.{ℕ, Bool, true, false, not, ◌&&◌, ◌||◌, if◌then◌else◌, List}
use Rattle.std.specs.List.{sum_by}
use Rattle.iq_hg_leaves.specs.declared.entries.Entry.{Entry}
use Rattle.iq_hg_leaves.specs.Entries.{entries_from}
use Rattle.std.specs.Ordering.{is_lt, is_gt}
use Rattle.iq_base.specs.declared.values.Value.{Value}
use Rattle.iq_ast.specs.declared.conditions.Bound.{Bound}
use Rattle.iq_ast.specs.declared.conditions.Bound.TheVariants.{Free, Incl, Excl}
use Rattle.iq_ast.specs.declared.conditions.Test.{Test}
use Rattle.iq_cells.specs.Orders.{value_order}
use Rattle.iq_truth.specs.declared.truth.Side.{Side}
use Rattle.iq_truth.specs.Sides.{is_on}
use Rattle.iq_truth.specs.Comparisons.{is_null}
use Rattle.iq_truth.specs.Tests.{truth_on}
use Rattle.iq_hg.specs.declared.wanted.Wanted.{Wanted}
use Rattle.iq_hg.specs.declared.wanted.Wanted.TheVariants as wants

-- whether a value isn't below a range
abbrev pub meets_low : Bound → Value → Bool
meets_low Free v = true
meets_low (Incl w) v = not (is_lt (value_order v w))
meets_low (Excl w) v = is_gt (value_order v w)

-- whether a value isn't above a range
abbrev pub meets_high : Bound → Value → Bool
meets_high Free v = true
meets_high (Incl w) v = not (is_gt (value_order v w))
meets_high (Excl w) v = is_lt (value_order v w)

-- whether a value stands before that of a lower bound
abbrev pub is_under : Bound → Value → Bool
is_under Free v = false
is_under (Incl w) v = is_lt (value_order v w)
is_under (Excl w) v = is_lt (value_order v w)

-- the values of a range; NULL is in none
abbrev pub is_between : Bound → Bound → Value → Bool
is_between low high v = not (is_null v) && (meets_low low v && meets_high high v)

-- whether a value is on a side of a test; NULL is on none
abbrev pub is_on_side : Side → Test → Value → Bool
is_on_side side test v = not (is_null v) && is_on side (truth_on v test)

-- how many of some values are not under the first bound and not above the second; where both are one value, how many equal it
abbrev pub range_count : Bound → Bound → List Value → ℕ
range_count low high values = sum_by (λ (e : Entry). if is_under low e.value || not (meets_high high e.value) then 0 else 1) (entries_from 0 values)

-- whether a value that isn't NULL is wanted
abbrev pub is_wanted : Wanted → Value → Bool
is_wanted (wants.Between low high) v = meets_low low.now v && meets_high high.now v
is_wanted (wants.OnSide test side) v = is_on side (truth_on v test.now)

-- whether a value stands behind all that is wanted
abbrev pub is_past : Wanted → Value → Bool
is_past (wants.Between low high) v = not (meets_high high.now v)
is_past (wants.OnSide test side) v = false

-- whether a value stands before all that is wanted
abbrev pub is_before : Wanted → Value → Bool
is_before (wants.Between low high) v = is_under low.now v
is_before (wants.OnSide test side) v = false

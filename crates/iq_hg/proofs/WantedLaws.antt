-- What is wanted of values in order.
use Rattle.std.proofs.Common.{◌≡◌, Bool, true, false, not, ◌&&◌, sym, ap, ◌∙◌, refl, subst}
use mathlib.Core.Bool.{true≢false}
use Rattle.std.specs.Ordering.{is_lt, is_gt, ordering_reverse, ordering_then, nat_cmp}
use Rattle.std.specs.declared.cmp.Ordering.{Ordering}
use Rattle.std.specs.declared.cmp.Ordering.TheVariants.{Less, Equal, Greater}
use Rattle.std.specs.Cmp.{IsTotalOrder}
use Rattle.std.proofs.lemmas.Cmp.{upto}
use Rattle.iq_base.specs.declared.values.Value.{Value}
use Rattle.iq_base.specs.declared.values.Value.TheVariants.{Null, Int, Text}
use Rattle.iq_base.specs.contracts.values.ValueOrd.TheImpl as value_ord
use Rattle.iq_base.specs.contracts.values.ValueOrd.TheImpl.Laws as value_laws
use Rattle.iq_ast.specs.declared.conditions.Bound.{Bound}
use Rattle.iq_ast.specs.declared.conditions.Bound.TheVariants.{Free, Incl, Excl}
use Rattle.iq_cells.specs.Orders.{value_order}
use Rattle.iq_hg_leaves.specs.declared.entries.Entry.{Entry}
use Rattle.iq_hg_leaves.specs.Order.{entry_cmp, IsUpTo}
use Rattle.iq_hg.specs.declared.wanted.Wanted.{Wanted}
use Rattle.iq_hg.specs.declared.wanted.Wanted.TheVariants as wants
use Rattle.iq_hg.specs.Bounds.{meets_low, meets_high, is_under, is_wanted, is_past, is_before}

derived : (v w : Value) → (value_ord.ghosts).cmp v w ≡ value_order v w
derived Null Null = refl
derived Null (Int z) = refl
derived Null (Text t) = refl
derived (Int y) Null = refl
derived (Int y) (Int z) = refl
derived (Int y) (Text t) = refl
derived (Text t) Null = refl
derived (Text t) (Int z) = refl
derived (Text t) (Text u) = refl

pub value_total : IsTotalOrder value_order
value_total = subst IsTotalOrder (λ i v w. derived v w i) value_laws.total-law

-- a value doesn't stand behind another
abbrev pub Upto : Value → Value → Type 0
Upto v w = is_gt (value_order v w) ≡ false

first_not_gt : (a b : Ordering) → is_gt (ordering_then a b) ≡ false → is_gt a ≡ false
first_not_gt Less b e = refl
first_not_gt Equal b e = refl
first_not_gt Greater b e = e

pub values_upto : (e f : Entry) → IsUpTo e f → Upto e.value f.value
unfolding entry_cmp
values_upto e f u = first_not_gt (value_order e.value f.value) (nat_cmp e.row f.row) u

turn_lt : (r : Ordering) → is_lt r ≡ false → is_gt (ordering_reverse r) ≡ false
turn_lt Less e = absurd (true≢false e)
turn_lt Equal e = refl
turn_lt Greater e = refl

turn_gt : (r : Ordering) → is_gt r ≡ false → is_lt (ordering_reverse r) ≡ false
turn_gt Less e = refl
turn_gt Equal e = refl
turn_gt Greater e = absurd (true≢false e)

from_lt : (v w : Value) → is_lt (value_order v w) ≡ false → Upto w v
from_lt v w e = ap is_gt (value_total.antisymm w v) ∙ turn_lt (value_order v w) e

to_lt : (v w : Value) → Upto w v → is_lt (value_order v w) ≡ false
to_lt v w e = ap is_lt (value_total.antisymm v w) ∙ turn_gt (value_order w v) e

is_not : (b : Bool) → not b ≡ true → b ≡ false
is_not true e = sym e
is_not false e = refl

not_is : (b : Bool) → not b ≡ false → b ≡ true
not_is true e = refl
not_is false e = sym e

by_bool : (b : Bool) → (b ≡ true → ⊥) → b ≡ false
by_bool true f = absurd (f refl)
by_bool false f = refl

by_true : (b : Bool) → (b ≡ false → ⊥) → b ≡ true
by_true true f = refl
by_true false f = absurd (f refl)

-- what is above a range, all behind it is
high_on : (high : Bound) (v u : Value) → Upto v u → meets_high high v ≡ false → meets_high high u ≡ false
high_on Free v u up e = e
high_on (Incl w) v u up e = by_bool (not (is_gt (value_order u w))) (λ t. true≢false (sym (not_is (is_gt (value_order v w)) e) ∙ upto value_total v u w up (is_not (is_gt (value_order u w)) t)))
high_on (Excl w) v u up e = to_lt u w (upto value_total w v u (from_lt v w e) up)

-- what isn't under a bound, all behind it isn't
low_on : (low : Bound) (v u : Value) → Upto v u → is_under low v ≡ false → is_under low u ≡ false
low_on Free v u up e = refl
low_on (Incl w) v u up e = to_lt u w (upto value_total w v u (from_lt v w e) up)
low_on (Excl w) v u up e = to_lt u w (upto value_total w v u (from_lt v w e) up)

pub under_back : (low : Bound) (v u : Value) → Upto v u → is_under low u ≡ true → is_under low v ≡ true
under_back low v u up e = by_true (is_under low v) (λ n. true≢false (sym e ∙ low_on low v u up n))

pub under_on : (low : Bound) (v u : Value) → Upto v u → is_under low v ≡ false → is_under low u ≡ false
under_on low v u up e = low_on low v u up e

pub past_on : (wanted : Wanted) (v u : Value) → Upto v u → is_past wanted v ≡ true → is_past wanted u ≡ true
past_on (wants.Between low high) v u up e = ap not (high_on high.now v u up (is_not (meets_high high.now v) e))
past_on (wants.OnSide test side) v u up e = absurd (true≢false (sym e))

lt_not_gt : (r : Ordering) → is_lt r ≡ true → is_gt r ≡ false
lt_not_gt Less e = refl
lt_not_gt Equal e = absurd (true≢false (sym e))
lt_not_gt Greater e = absurd (true≢false (sym e))

under_misses : (low : Bound) (v : Value) → is_under low v ≡ true → meets_low low v ≡ false
under_misses Free v e = absurd (true≢false (sym e))
under_misses (Incl w) v e = ap not e
under_misses (Excl w) v e = lt_not_gt (value_order v w) e

both_false : (a b : Bool) → b ≡ false → (a && b) ≡ false
both_false true b e = e
both_false false b e = refl

pub before_unwanted : (wanted : Wanted) (v : Value) → is_before wanted v ≡ true → is_wanted wanted v ≡ false
before_unwanted (wants.Between low high) v e = ap (λ b. b && meets_high high.now v) (under_misses low.now v e)
before_unwanted (wants.OnSide test side) v e = absurd (true≢false (sym e))

pub past_unwanted : (wanted : Wanted) (v : Value) → is_past wanted v ≡ true → is_wanted wanted v ≡ false
past_unwanted (wants.Between low high) v e = both_false (meets_low low.now v) (meets_high high.now v) (is_not (meets_high high.now v) e)
past_unwanted (wants.OnSide test side) v e = absurd (true≢false (sym e))

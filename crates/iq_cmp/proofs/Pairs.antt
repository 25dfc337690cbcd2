-- Laws of rows on the sides of comparisons.
use Rattle.std.proofs.Common.{arith, ◌≡◌, ◌<◌, ℕ, zero, suc, ◌+◌, ◌||◌, not, Bool, true, false, cond, List, [], ◌∷◌, ◌++◌, length, get_or, set, refl, ap, ap₂, sym, ◌∙◌, inl, inr}
use Rattle.std.proofs.lemmas.Bool.{cases_lt}
use Rattle.std.proofs.lemmas.Simd.{length-zip2, get_or-zip2}
use Rattle.std.proofs.lemmas.List.{ext_get_or, get_or-set_same, get_or-set_other}
use Rattle.std.specs.declared.cmp.Ordering.{Ordering}
use Rattle.std.specs.declared.cmp.Ordering.TheVariants.{Less, Equal, Greater}
use Rattle.iq_base.specs.declared.values.Value.{Value}
use Rattle.iq_base.specs.declared.values.Value.TheVariants as values
use Rattle.iq_ast.specs.declared.conditions.Op.{Op}
use Rattle.iq_ast.specs.declared.conditions.Op.TheVariants.{Eq, Ne, Lt, Le, Gt, Ge}
use Rattle.iq_cells.specs.Orders.{value_order}
use Rattle.iq_cells.specs.Packed.{value_at}
use Rattle.iq_bitmap.specs.Bits.{either}
use Rattle.iq_truth.specs.declared.truth.Side.TheVariants as sides
use Rattle.iq_truth.specs.declared.truth.Truth.TheVariants.{Unknown}
use Rattle.iq_truth.specs.Sides.{is_on}
use Rattle.iq_truth.specs.Truths.{truth_of}
use Rattle.iq_truth.specs.Comparisons.{compared, is_null}
use Rattle.iq_truth.specs.Tests.{negated_op}
use Rattle.iq_planes.specs.Planes.{plane_at, ArePlanes, grown}
use Rattle.iq_cmp.specs.Relations.{is_pair, pairs_on, planes_of}

-- ONE ROW

-- an operator that holds where one of two others does
abbrev pub IsEither : Op → Op → Op → Type 0
IsEither op a b = (order : Ordering) → compared op order ≡ (compared a order || compared b order)

pub less_or_equal : IsEither Le Lt Eq
less_or_equal Less = refl
less_or_equal Equal = refl
less_or_equal Greater = refl

pub less_or_greater : IsEither Ne Lt Gt
less_or_greater Less = refl
less_or_greater Equal = refl
less_or_greater Greater = refl

pub equal_or_greater : IsEither Ge Eq Gt
equal_or_greater Less = refl
equal_or_greater Equal = refl
equal_or_greater Greater = refl

on_true : (b : Bool) → is_on sides.True (truth_of b) ≡ b
on_true true = refl
on_true false = refl

on_false : (b : Bool) → is_on sides.False (truth_of b) ≡ not b
on_false true = refl
on_false false = refl

pair_either : (op a b : Op) → IsEither op a b → (v w : Value) → is_pair sides.True op v w ≡ (is_pair sides.True a v w || is_pair sides.True b v w)
pair_either op a b e v w = at (is_null v || is_null w)
  where
    holds : Op → Bool
    holds o = compared o (value_order v w)

    at : (null : Bool) → is_on sides.True (cond null Unknown (truth_of (holds op)))
        ≡ (is_on sides.True (cond null Unknown (truth_of (holds a))) || is_on sides.True (cond null Unknown (truth_of (holds b))))
    at true = refl
    at false = on_true (holds op) ∙ e (value_order v w) ∙ sym (ap₂ (λ (x y : Bool). x || y) (on_true (holds a)) (on_true (holds b)))

not_compared : (op : Op) (order : Ordering) → compared (negated_op op) order ≡ not (compared op order)
not_compared Eq Less = refl
not_compared Eq Equal = refl
not_compared Eq Greater = refl
not_compared Ne Less = refl
not_compared Ne Equal = refl
not_compared Ne Greater = refl
not_compared Lt Less = refl
not_compared Lt Equal = refl
not_compared Lt Greater = refl
not_compared Le Less = refl
not_compared Le Equal = refl
not_compared Le Greater = refl
not_compared Gt Less = refl
not_compared Gt Equal = refl
not_compared Gt Greater = refl
not_compared Ge Less = refl
not_compared Ge Equal = refl
not_compared Ge Greater = refl

pair_false : (op : Op) (v w : Value) → is_pair sides.False op v w ≡ is_pair sides.True (negated_op op) v w
pair_false op v w = at (is_null v || is_null w)
  where
    at : (null : Bool) → is_on sides.False (cond null Unknown (truth_of (compared op (value_order v w))))
        ≡ is_on sides.True (cond null Unknown (truth_of (compared (negated_op op) (value_order v w))))
    at true = refl
    at false = on_false (compared op (value_order v w)) ∙ sym (on_true (compared (negated_op op) (value_order v w)) ∙ not_compared op (value_order v w))

-- ALL ROWS

-- the rows in one of two planes
pub pairs_either : (op a b : Op) → IsEither op a b → (vs ws : List Value) → either (pairs_on sides.True a vs ws) (pairs_on sides.True b vs ws) ≡ pairs_on sides.True op vs ws
pairs_either op a b e [] ws = refl
pairs_either op a b e (v ∷ vs) [] = refl
pairs_either op a b e (v ∷ vs) (w ∷ ws) =
    ap₂ (λ (x : Bool) (xs : List Bool). x ∷ xs) (sym (pair_either op a b e v w)) (pairs_either op a b e vs ws)

-- the false side is the true side of the negated operator
pub pairs_false : (op : Op) (vs ws : List Value) → pairs_on sides.True (negated_op op) vs ws ≡ pairs_on sides.False op vs ws
pairs_false op [] ws = refl
pairs_false op (v ∷ vs) [] = refl
pairs_false op (v ∷ vs) (w ∷ ws) = ap₂ (λ (x : Bool) (xs : List Bool). x ∷ xs) (sym (pair_false op v w)) (pairs_false op vs ws)

-- rows behind rows
pairs_append : (op : Op) (vs ws more others : List Value) → length vs ≡ length ws
    → pairs_on sides.True op vs ws ++ pairs_on sides.True op more others ≡ pairs_on sides.True op (vs ++ more) (ws ++ others)
pairs_append op [] [] more others e = refl
pairs_append op [] (w ∷ ws) more others e = cc
pairs_append op (v ∷ vs) [] more others e = cc
pairs_append op (v ∷ vs) (w ∷ ws) more others e = ap (λ (xs : List Bool). is_pair sides.True op v w ∷ xs) (pairs_append op vs ws more others (omega (arith, e)))

pub planes_append : (vs ws more others : List Value) → length vs ≡ length ws → grown (planes_of vs ws) (planes_of more others) ≡ planes_of (vs ++ more) (ws ++ others)
planes_append vs ws more others e =
    ap₂ (λ (xs : List Bool) (xss : List (List Bool)). xs ∷ xss) (pairs_append Lt vs ws more others e)
    (ap₂ (λ (xs : List Bool) (xss : List (List Bool)). xs ∷ xss) (pairs_append Eq vs ws more others e)
    (ap (λ (xs : List Bool). xs ∷ []) (pairs_append Gt vs ws more others e)))

length-pairs : (op : Op) (vs ws : List Value) → length vs ≡ length ws → length (pairs_on sides.True op vs ws) ≡ length vs
length-pairs op vs ws e = length-zip2 (is_pair sides.True op) vs ws e

pub are_planes : (vs ws : List Value) → length vs ≡ length ws → ArePlanes 3 (length vs) (planes_of vs ws)
are_planes vs ws e = record {
  count = refl;
  long = λ j less. at j less;
}
  where
    at : (j : ℕ) → j < 3 → length (plane_at j (planes_of vs ws)) ≡ length vs
    at zero less = length-pairs Lt vs ws e
    at (suc zero) less = length-pairs Eq vs ws e
    at (suc (suc zero)) less = length-pairs Gt vs ws e
    at (suc (suc (suc j))) less = absurd (omega (arith, less))

-- ROWS ONE AFTER THE OTHER

-- one row more
pub bits_next : (f : ℕ → Bool) (bits : List Bool) (row : ℕ) (bit : Bool) → bit ≡ f row → row < length bits
    → ((i : ℕ) → i < row → get_or bits i false ≡ f i) → (i : ℕ) → i < row + 1 → get_or (set bits row bit) i false ≡ f i
bits_next f bits row bit is there before i less = elim (cases_lt i row) [
  | inl earlier ↦ get_or-set_other bits row i bit false (λ e. absurd (omega arith)) ∙ before i earlier
  | inr on ↦ (let same : i ≡ row = omega arith in rw same (get_or-set_same bits row bit false there ∙ is))
]

-- all rows
pub pairs_are : (op : Op) (vs ws : List Value) (bits : List Bool) → length bits ≡ length vs → length vs ≡ length ws
    → ((i : ℕ) → i < length vs → get_or bits i false ≡ is_pair sides.True op (value_at i vs) (value_at i ws)) → bits ≡ pairs_on sides.True op vs ws
pairs_are op vs ws bits long e each =
    ext_get_or false bits (pairs_on sides.True op vs ws) (long ∙ sym (length-pairs op vs ws e))
    (λ i less. let within : i < length vs = omega (arith, long, less) in
    each i within ∙ sym (get_or-zip2 (is_pair sides.True op) vs ws i values.Null values.Null false within (omega (arith, within, e))))

-- A range of one value.
use Rattle.std.proofs.Common.{◌≡◌, Bool, not, ◌&&◌, List, [], ◌∷◌, Option, ℕ, map, ap₂, ◌∙◌, refl}
use Rattle.std.specs.Ordering.{is_lt, is_gt}
use Rattle.std.specs.declared.cmp.Ordering.{Ordering}
use Rattle.std.specs.declared.cmp.Ordering.TheVariants.{Less, Equal, Greater}
use Rattle.iq_base.specs.declared.values.Value.{Value}
use Rattle.iq_base.specs.declared.values.Value.TheVariants.{Null, Int, Text}
use Rattle.iq_ast.specs.declared.conditions.Bound.TheVariants.{Incl}
use Rattle.iq_ast.specs.declared.conditions.Op.TheVariants.{Eq}
use Rattle.iq_pages.specs.Pages.{Pages}
use Rattle.iq_cells.specs.Orders.{value_order}
use Rattle.iq_truth.specs.declared.truth.Side.TheVariants as sides
use Rattle.iq_truth.specs.Truths.{truth_of}
use Rattle.iq_truth.specs.Sides.{is_on}
use Rattle.iq_truth.specs.Comparisons.{compared, comparison}
use Rattle.iq_hg.specs.declared.hg.Hg.{Hg}
use Rattle.iq_hg.specs.Bounds.{is_between}
use Rattle.iq_hg.specs.Stands.{GivesRows}

by_order : (o : Ordering) → (not (is_lt o) && not (is_gt o)) ≡ is_on sides.True (truth_of (compared Eq o))
by_order Less = refl
by_order Equal = refl
by_order Greater = refl

-- the values between one and itself are those that equal it
pub equal_is : (w v : Value) → is_between (Incl w) (Incl w) v ≡ is_on sides.True (comparison Eq v w)
equal_is Null Null = refl
equal_is (Int z) Null = refl
equal_is (Text t) Null = refl
equal_is Null (Int y) = refl
equal_is (Int z) (Int y) = by_order (value_order (Int y) (Int z))
equal_is (Text t) (Int y) = refl
equal_is Null (Text s) = refl
equal_is (Int z) (Text s) = refl
equal_is (Text t) (Text s) = by_order (value_order (Text s) (Text t))

same_map : (f g : Value → Bool) → ((v : Value) → f v ≡ g v) → (vs : List Value) → map f vs ≡ map g vs
same_map f g same [] = refl
same_map f g same (v ∷ vs) = ap₂ (λ (b : Bool) (bs : List Bool). b ∷ bs) (same v) (same_map f g same vs)

pub equal_rows : (hg : Hg) (told : ℕ → Option Pages) (a b w : Value) (bits : List Bool) → a ≡ w → b ≡ w → GivesRows hg told (is_between (Incl a) (Incl b)) bits → GivesRows hg told (λ v. is_on sides.True (comparison Eq v w)) bits
equal_rows hg told a b w bits p q gives = λ values st.
    gives values st ∙ same_map (is_between (Incl a) (Incl b)) (λ v. is_on sides.True (comparison Eq v w)) (λ v. ap₂ (λ (x y : Value). is_between (Incl x) (Incl y) v) p q ∙ equal_is w v) values

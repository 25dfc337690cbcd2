use Rattle.std.specs.Prelude.{◌≡◌, ℕ, zero, suc, ◌+◌, ◌-◌, ◌<◌, ◌≤◌, false, length, nat_eq}
use Rattle.std.specs.List.{All, AllByRecursion, IsDistinct, range_with_len}
use Rattle.std.proofs.Common.{arith, refl, sym, subst}
use Rattle.std.proofs.lemmas.Bool.{ne_eqb, leb-true}
use Rattle.std.proofs.lemmas.List.FromFn.{length-range_with_len, get_or-range_with_len}
use Rattle.iq_objects_tests.proofs.objects.are_spare.Goals as goal

apart_from : (x a n : ℕ) → x < a → AllByRecursion (λ y. nat_eq x y ≡ false) (range_with_len a n)
apart_from x a zero less = tt
apart_from x a (suc n) less = (ne_eqb x a (omega (arith, less)), apart_from x (a + 1) n (omega (arith, less)))

range_distinct : (a n : ℕ) → IsDistinct nat_eq (range_with_len a n)
unfolding IsDistinct
range_distinct a zero = tt
range_distinct a (suc n) = (apart_from a (a + 1) n (omega arith), range_distinct (a + 1) n)

range_above : (a end : ℕ) → 4 ≤ a → All (λ b. 4 ≤ b) (range_with_len a (end - a))
range_above a end above k d within =
    let inside : k < end - a = omega (arith, within, length-range_with_len a (end - a)) in
    let at = get_or-range_with_len a (end - a) k d inside in
    subst (λ (b : ℕ). 4 ≤ b) (sym at) (omega (arith, above))

range_below : (count a end : ℕ) → end ≤ count → All (λ b. b < count) (range_with_len a (end - a))
range_below count a end below k d within =
    let inside : k < end - a = omega (arith, within, length-range_with_len a (end - a)) in
    let at = get_or-range_with_len a (end - a) k d inside in
    subst (λ (b : ℕ). b < count) (sym at) (omega (arith, inside, below))

pub returns-then-space-ge4 : goal.returns-then-space-ge4
returns-then-space-ge4 g c = λ told counts. record {
  distinct = range_distinct _ _;
  above = range_above _ _ (omega arith);
  below = λ all is. range_below (length all) _ _ (omega (arith, leb-true, counts all is));
}

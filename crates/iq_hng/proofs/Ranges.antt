-- Laws of rows that are cut at the edges of a range, bit by bit from the lowest on.
use Rattle.std.proofs.Common.{arith, ◌≡◌, ◌<◌, ℕ, suc, ◌+◌, ◌*◌, ◌/◌, ◌%◌, ◌^◌, ◌&&◌, ◌||◌, not, ℤ, Bool, true, false, cond, nat_eq, List, [], ◌∷◌, length, map, Option, Some, None, refl, ap, ap₂, sym, ◌∙◌}
use Rattle.std.specs.List.{All}
use Rattle.std.proofs.Math.Arith.{mod-mul}
use Rattle.std.proofs.Math.Nat.{pow-suc}
use Rattle.std.proofs.lemmas.Nat.{pow_pos}
use Rattle.std.proofs.lemmas.List.{length-map}
use Rattle.std.proofs.lemmas.Simd.{zip2_of_maps, splat_is_map}
use Rattle.std.proofs.lemmas.Grind.{common_steps}
use Rattle.std.specs.declared.cmp.Ordering.{Ordering}
use Rattle.std.specs.declared.cmp.Ordering.TheVariants.{Less, Equal, Greater}
use Rattle.std.specs.Ordering.{int_cmp}
use Rattle.iq_base.specs.declared.values.Value.{Value}
use Rattle.iq_base.specs.declared.values.Value.TheVariants.{Null, Int, Text}
use Rattle.iq_ast.specs.declared.conditions.Op.TheVariants.{Eq, Lt, Gt, Ge, Le}
use Rattle.iq_truth.specs.declared.truth.Side.TheVariants as sides
use Rattle.iq_truth.specs.Sides.{is_on}
use Rattle.iq_truth.specs.Truths.{truth_of, truth_and}
use Rattle.iq_truth.specs.Comparisons.{compared}
use Rattle.iq_bitmap.specs.Bits.{both, either, difference}
use Rattle.iq_hng.specs.Keys.{IsSlice, key_of, bit_of, key_bit, slice_bit}
use Rattle.iq_hng.specs.Slices.{holds_of, plane_of, AreCompared}
use Rattle.iq_hng.specs.Ranges.{is_between, past, is_past, past_first, AreRanged, ToBit}
use Rattle.iq_hng.specs.declared.edges.Edge.{Edge}
use Rattle.iq_hng.specs.declared.ranging.Cut.{Cut}
use Rattle.iq_hng.specs.declared.ranging.Ranged.{Ranged}
use Rattle.iq_hng.proofs.Rows.{map_alike, length-both, length-either}

-- ONE BIT MORE

bit_on : (n : ℕ) → nat_eq (n % 2) 1 ≡ true → n % 2 ≡ 1
bit_on n h = grind (arith, common_steps)

bit_off : (n : ℕ) → nat_eq (n % 2) 1 ≡ false → n % 2 ≡ 0
bit_off n h = grind (arith, common_steps)

-- two numbers of a highest digit and the rest, by that digit
past_digits : (also : Bool) (x y a b p : ℕ) (on set : Bool) → a < p → b < p → nat_eq (x % 2) 1 ≡ on → nat_eq (y % 2) 1 ≡ set
    → past also (y % 2 * p + b) (x % 2 * p + a) ≡ cond set (past also b a && on) (past also b a || on)
past_digits true x y a b p true true l m e f = rw (bit_on x e, bit_on y f) (grind (arith, common_steps))
past_digits true x y a b p true false l m e f = rw (bit_on x e, bit_off y f) (grind (arith, common_steps))
past_digits true x y a b p false true l m e f = rw (bit_off x e, bit_on y f) (grind (arith, common_steps))
past_digits true x y a b p false false l m e f = rw (bit_off x e, bit_off y f) (grind (arith, common_steps))
past_digits false x y a b p true true l m e f = rw (bit_on x e, bit_on y f) (grind (arith, common_steps))
past_digits false x y a b p true false l m e f = rw (bit_on x e, bit_off y f) (grind (arith, common_steps))
past_digits false x y a b p false true l m e f = rw (bit_off x e, bit_on y f) (grind (arith, common_steps))
past_digits false x y a b p false false l m e f = rw (bit_off x e, bit_off y f) (grind (arith, common_steps))

digits : (n j : ℕ) → n % 2 ^ (j + 1) ≡ n / 2 ^ j % 2 * 2 ^ j + n % 2 ^ j
digits n j =
    let power : 2 ^ (j + 1) ≡ 2 * 2 ^ j = ap (λ (k : ℕ). 2 ^ k) up ∙ pow-suc 2 j ∙ swap (2 ^ j) in
    ap (λ (k : ℕ). n % k) power ∙ mod-mul n (omega arith) (pow_pos j)
  where
    up : j + 1 ≡ suc j
    up = omega arith

    swap : (k : ℕ) → k * 2 ≡ 2 * k
    swap k = omega arith

low_digits : (n j : ℕ) → n % 2 ^ j < 2 ^ j
low_digits n j = let some = pow_pos j in omega (arith, some)

past_bit : (also : Bool) (t j : ℕ) (key : Option ℕ)
    → is_past also t (j + 1) key ≡ cond (bit_of j t) (is_past also t j key && key_bit j key) (is_past also t j key || key_bit j key)
past_bit also t j None = none (bit_of j t)
  where
    none : (b : Bool) → false ≡ cond b false false
    none true = refl
    none false = refl
past_bit also t j (Some n) = ap₂ (past also) (digits t j) (digits n j)
    ∙ past_digits also (n / 2 ^ j) (t / 2 ^ j) (n % 2 ^ j) (t % 2 ^ j) (2 ^ j) (bit_of j n) (bit_of j t) (low_digits n j) (low_digits t j) refl refl

-- two tests that agree
map_same : (f g : Value → Bool) → ((v : Value) → f v ≡ g v) → (vs : List Value) → map f vs ≡ map g vs
map_same f g e [] = refl
map_same f g e (v ∷ vs) = ap₂ (λ (x : Bool) (xs : List Bool). x ∷ xs) (e v) (map_same f g e vs)

chosen : (b : Bool) (f g : Value → Bool) (vs : List Value) → cond b (map f vs) (map g vs) ≡ map (λ v. cond b (f v) (g v)) vs
chosen true f g vs = refl
chosen false f g vs = refl

-- rows past an edge, and the plane of the next bit
pub past_next : (also : Bool) (bits t j : ℕ) (vs : List Value) (plane old new : List Bool) → plane ≡ plane_of bits vs (j + 1)
    → old ≡ map (λ v. is_past also t j (key_of bits v)) vs → new ≡ cond (bit_of j t) (both old plane) (either old plane)
    → new ≡ map (λ v. is_past also t (j + 1) (key_of bits v)) vs
past_next also bits t j vs plane old new is before step = step
    ∙ ap₂ (cond (bit_of j t)) (zip2_of_maps (λ (x y : Bool). x && y) reached set vs before planes) (zip2_of_maps (λ (x y : Bool). x || y) reached set vs before planes)
    ∙ chosen (bit_of j t) _ _ vs ∙ map_same _ _ (λ v. sym (past_bit also t j (key_of bits v))) vs
  where
    reached : Value → Bool
    reached v = is_past also t j (key_of bits v)

    set : Value → Bool
    set v = key_bit j (key_of bits v)

    planes : plane ≡ map set vs
    planes = let e : j + 1 ≡ suc j = omega arith in is ∙ ap (λ (k : ℕ). map (slice_bit bits k) vs) e

-- NO BIT

pub past_none : (also : Bool) (bits t : ℕ) (vs : List Value) (some rows : List Bool) → some ≡ plane_of bits vs 0 → All (IsSlice bits) vs
    → rows ≡ past_first also some → rows ≡ map (λ v. is_past also t 0 (key_of bits v)) vs
past_none true bits t vs some rows is all e = e ∙ is ∙ map_alike (IsSlice bits) (slice_bit bits 0) (λ v. is_past true t 0 (key_of bits v)) at vs all
  where
    at : (v : Value) → IsSlice bits v → slice_bit bits 0 v ≡ is_past true t 0 (key_of bits v)
    at Null s = refl
    at (Text x) s = elim s [ ]
    at (Int z) p = grind (arith, common_steps)
past_none false bits t vs some rows is all e = e ∙ splat_is_map vs (length some) false (sym (ap length is ∙ length-map vs _))
    ∙ map_alike (IsSlice bits) (λ v. false) (λ v. is_past false t 0 (key_of bits v)) at vs all
  where
    at : (v : Value) → IsSlice bits v → false ≡ is_past false t 0 (key_of bits v)
    at Null s = refl
    at (Text x) s = elim s [ ]
    at (Int z) p = grind (arith, common_steps)

-- A RANGE

-- below it is what has a number and isn't past its begin
not_begun : (bits : ℕ) (low : ℤ) (v : Value) → IsSlice bits v → (slice_bit bits 0 v && not (holds_of Ge low v)) ≡ holds_of Lt low v
not_begun bits low Null s = refl
not_begun bits low (Text t) s = elim s [ ]
not_begun bits low (Int z) s = at (int_cmp z low)
  where
    at : (o : Ordering) → not (is_on sides.True (truth_of (compared Ge o))) ≡ is_on sides.True (truth_of (compared Lt o))
    at Less = refl
    at Equal = refl
    at Greater = refl

-- within it is what is past its begin and not past its end
not_ended : (bits : ℕ) (low high : ℤ) (v : Value) → IsSlice bits v → (holds_of Ge low v && not (holds_of Gt high v)) ≡ is_between low high v
not_ended bits low high Null s = refl
not_ended bits low high (Text t) s = elim s [ ]
not_ended bits low high (Int z) s = at (int_cmp z low) (int_cmp z high)
  where
    at : (o p : Ordering) → (is_on sides.True (truth_of (compared Ge o)) && not (is_on sides.True (truth_of (compared Gt p)))) ≡ is_on sides.True (truth_and (truth_of (compared Ge o)) (truth_of (compared Le p)))
    at Less Less = refl
    at Less Equal = refl
    at Less Greater = refl
    at Equal Less = refl
    at Equal Equal = refl
    at Equal Greater = refl
    at Greater Less = refl
    at Greater Equal = refl
    at Greater Greater = refl

pub ranged_by : (bits : ℕ) (low high : ℤ) (vs : List Value) (some begin end : List Bool) (ranged : Ranged) → All (IsSlice bits) vs → some ≡ plane_of bits vs 0
    → begin ≡ map (holds_of Ge low) vs → end ≡ map (holds_of Gt high) vs
    → ranged.below ≡ difference some begin → ranged.within ≡ difference begin end → ranged.above ≡ end → AreRanged vs low high ranged
ranged_by bits low high vs some begin end ranged all is b e below within above = record {
  below = below ∙ zip2_of_maps (λ (x y : Bool). x && not y) (slice_bit bits 0) (holds_of Ge low) vs is b ∙ map_alike (IsSlice bits) _ (holds_of Lt low) (not_begun bits low) vs all;
  within = within ∙ zip2_of_maps (λ (x y : Bool). x && not y) (holds_of Ge low) (holds_of Gt high) vs b e ∙ map_alike (IsSlice bits) _ (is_between low high) (not_ended bits low high) vs all;
  above = above ∙ e;
}

-- ONE NUMBER

one_between : (n : ℤ) (v : Value) → is_between n n v ≡ holds_of Eq n v
one_between n Null = refl
one_between n (Text t) = refl
one_between n (Int z) = at (int_cmp z n)
  where
    at : (o : Ordering) → is_on sides.True (truth_and (truth_of (compared Ge o)) (truth_of (compared Le o))) ≡ is_on sides.True (truth_of (compared Eq o))
    at Less = refl
    at Equal = refl
    at Greater = refl

-- the range from a number up to it tells how all stand to it
pub compared_by : (n : ℤ) (vs : List Value) (ranged : Ranged) → AreRanged vs n n ranged → AreCompared vs n record { less = ranged.below; equal = ranged.within; greater = ranged.above }
compared_by n vs ranged h = record { less = h.below; equal = h.within ∙ map_same (is_between n n) (holds_of Eq n) (one_between n) vs; greater = h.above }

-- WHERE BITS TELL NOTHING

pub ended : (bits : ℕ) (begin end : Edge) (vs : List Value) (cut : Cut) → All (IsSlice bits) vs
    → ((v : Value) → IsSlice bits v → is_past begin.also begin.key 0 (key_of bits v) ≡ is_past begin.also begin.key bits (key_of bits v))
    → ((v : Value) → IsSlice bits v → is_past end.also end.key 0 (key_of bits v) ≡ is_past end.also end.key bits (key_of bits v))
    → ToBit bits begin end 0 vs cut → ToBit bits begin end bits vs cut
ended bits begin end vs cut all b e from = record {
  begin_rows = from.begin_rows ∙ map_alike (IsSlice bits) _ (λ v. is_past begin.also begin.key bits (key_of bits v)) b vs all;
  end_rows = from.end_rows ∙ map_alike (IsSlice bits) _ (λ v. is_past end.also end.key bits (key_of bits v)) e vs all;
}

-- LENGTHS

pub length_narrowed : (on : Bool) (rows plane : List Bool) → length rows ≡ length plane → length (cond on (both rows plane) (either rows plane)) ≡ length rows
length_narrowed true rows plane e = length-both rows plane e
length_narrowed false rows plane e = length-either rows plane e

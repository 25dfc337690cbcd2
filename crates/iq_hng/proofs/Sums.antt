-- A sum of numbers is made of the counts of rows in each plane.
use Rattle.std.proofs.Common.{arith, rules, to_z, of_z, ◌≡◌, ◌<◌, ◌≤◌, ℕ, suc, ◌+◌, ◌*◌, ◌/◌, ◌%◌, ◌^◌, ◌&&◌, cond, pos, ℤ, Bool, true, false, nat_eq, List, [], ◌∷◌, Option, Some, None, refl, ap, sym, ◌∙◌}
use Rattle.std.specs.Prelude.{◌+ℤ◌, ◌-ℤ◌}
use Rattle.std.specs.Int.{w128}
use Rattle.std.specs.List.{All, count_by}
use Rattle.iq_bitmap.specs.Bits.{both}
use Rattle.std.proofs.Math.Arith.{mod-mul}
use Rattle.std.proofs.Math.Nat.{mod-eq_of_lt, pow-suc, pow-le-pow_right, mul-le-mul_right}
use Rattle.std.proofs.lemmas.Nat.{pow_pos}
use Rattle.std.proofs.lemmas.List.Sums.{sum_by-cons}
use Rattle.std.proofs.lemmas.List.Elements.{All-head, All-tail}
use Rattle.std.proofs.lemmas.Grind.{common_steps}
use Rattle.std.proofs.lemmas.Int.{ints}
use Rattle.iq_base.specs.declared.values.Value.{Value}
use Rattle.iq_base.specs.declared.values.Value.TheVariants.{Null, Int, Text}
use Rattle.iq_hng.specs.Keys.{half, lifted, IsSlice, key_of, key_bit, bit_of, slice_bit}
use Rattle.iq_hng.specs.Slices.{plane_of}
use Rattle.iq_hng.specs.Sums.{number_of, sum_on, count_on, low_key, low_sum}
use Rattle.iq_hng.proofs.Orders.{lifted_short}

-- NO BIT

pub no_low : (bits : ℕ) (bs : List Bool) (vs : List Value) → low_sum bits 0 bs vs ≡ 0
no_low bits [] vs = refl
no_low bits (b ∷ bs) [] = refl
no_low bits (true ∷ bs) (v ∷ vs) = let rest = no_low bits bs vs in omega (arith, rest, none (key_of bits v))
  where
    none : (key : Option ℕ) → low_key 0 key ≡ 0
    none None = refl
    none (Some n) = omega arith
no_low bits (false ∷ bs) (v ∷ vs) = no_low bits bs vs

-- ONE BIT MORE

-- one row counts where its bit is set
abbrev as_count : Bool → ℕ
as_count true = 1
as_count false = 0

low_bit : (n c : ℕ) → nat_eq (n % 2) 1 ≡ true → n % 2 * c ≡ 1 * c
low_bit n c h = ap (λ (k : ℕ). k * c) (grind (arith, common_steps))

no_bit : (n c : ℕ) → nat_eq (n % 2) 1 ≡ false → n % 2 * c ≡ 0 * c
no_bit n c h = ap (λ (k : ℕ). k * c) (grind (arith, common_steps))

times_bit : (n c : ℕ) (b : Bool) → nat_eq (n % 2) 1 ≡ b → n % 2 * c ≡ as_count b * c
times_bit n c true h = low_bit n c h
times_bit n c false h = no_bit n c h

key_more : (j : ℕ) (key : Option ℕ) → low_key (j + 1) key ≡ low_key j key + as_count (key_bit j key) * 2 ^ j
key_more j None = omega arith
key_more j (Some n) =
    let power : 2 ^ (j + 1) ≡ 2 * 2 ^ j = ap (λ (k : ℕ). 2 ^ k) up ∙ pow-suc 2 j ∙ swap (2 ^ j) in
    let digits : n % (2 * 2 ^ j) ≡ n / 2 ^ j % 2 * 2 ^ j + n % 2 ^ j = mod-mul n (omega arith) (pow_pos j) in
    let bit = times_bit (n / 2 ^ j) (2 ^ j) (bit_of j n) refl in
    ap (λ (k : ℕ). n % k) power ∙ digits ∙ omega (arith, bit)
  where
    up : j + 1 ≡ suc j
    up = omega arith

    swap : (k : ℕ) → k * 2 ≡ 2 * k
    swap k = omega arith

-- a row that is set counts where its bit is, and another never
one_more : (set : Bool) (high low highs lows count counts power : ℕ) → counts ≡ cond (set && true) 1 0 + count → high ≡ low + as_count set * power → highs ≡ lows + count * power → high + highs ≡ low + lows + counts * power
one_more true high low highs lows count counts power are one rest = rw are (omega (arith, one, rest))
one_more false high low highs lows count counts power are one rest = rw are (omega (arith, one, rest))

none_more : (set : Bool) (highs lows count counts power : ℕ) → counts ≡ cond (set && false) 1 0 + count → highs ≡ lows + count * power → highs ≡ lows + counts * power
none_more true highs lows count counts power are rest = rw are (omega (arith, rest))
none_more false highs lows count counts power are rest = rw are (omega (arith, rest))

-- the first row and those behind it
counted : (on : Bool) (bits : List Bool) → count_by (λ (on : Bool). on) (on ∷ bits) ≡ cond on 1 0 + count_by (λ (on : Bool). on) bits
counted on bits = sum_by-cons (λ (on : Bool). cond on 1 0) on bits

-- the sum with one bit more of each key
pub low_more : (bits j : ℕ) (bs : List Bool) (vs : List Value) → low_sum bits (j + 1) bs vs ≡ low_sum bits j bs vs + count_on bits (suc j) bs vs * 2 ^ j
low_more bits j [] [] = omega arith
low_more bits j [] (v ∷ vs) = omega arith
low_more bits j (b ∷ bs) [] = omega arith
low_more bits j (true ∷ bs) (v ∷ vs) =
    one_more (key_bit j (key_of bits v)) (low_key (j + 1) (key_of bits v)) (low_key j (key_of bits v)) (low_sum bits (j + 1) bs vs) (low_sum bits j bs vs) (count_on bits (suc j) bs vs) (count_on bits (suc j) (true ∷ bs) (v ∷ vs)) (2 ^ j)
    (counted (key_bit j (key_of bits v) && true) (both (plane_of bits vs (suc j)) bs)) (key_more j (key_of bits v)) (low_more bits j bs vs)
low_more bits j (false ∷ bs) (v ∷ vs) =
    none_more (key_bit j (key_of bits v)) (low_sum bits (j + 1) bs vs) (low_sum bits j bs vs) (count_on bits (suc j) bs vs) (count_on bits (suc j) (false ∷ bs) (v ∷ vs)) (2 ^ j)
    (counted (key_bit j (key_of bits v) && false) (both (plane_of bits vs (suc j)) bs)) (low_more bits j bs vs)

-- ALL BITS

nothing : (h : ℕ) → pos 0 ≡ pos 0 +ℤ pos (0 * h)
nothing h = omega (arith, ints)

-- a row before others
abbrev sum_with : Bool → Value → ℤ → ℤ
sum_with true v rest = number_of v +ℤ rest
sum_with false v rest = rest

abbrev low_with : ℕ → Bool → Value → ℕ → ℕ
low_with bits true v rest = low_key bits (key_of bits v) + rest
low_with bits false v rest = rest

row_more : (bits : ℕ) (b : Bool) (v : Value) (lows : ℕ) (sum : ℤ) (count : ℕ) → 1 ≤ bits → IsSlice bits v → pos lows ≡ sum +ℤ pos (count * half bits) → pos (low_with bits b v lows) ≡ sum_with b v sum +ℤ pos ((cond (slice_bit bits 0 v && b) 1 0 + count) * half bits)
row_more bits true Null lows sum count some s rest = omega (arith, ints, rest)
row_more bits true (Int z) lows sum count some s rest =
    let short : lifted bits z % 2 ^ bits ≡ lifted bits z = mod-eq_of_lt (lifted_short bits z some s) in
    omega (arith, ints, rest, short, s.low, s.high)
row_more bits true (Text t) lows sum count some s rest = elim s [ ]
row_more bits false Null lows sum count some s rest = omega (arith, ints, rest)
row_more bits false (Int z) lows sum count some s rest = omega (arith, ints, rest)
row_more bits false (Text t) lows sum count some s rest = elim s [ ]

-- the sum of all bits is that of the numbers, each moved up by half
pub all_low : (bits : ℕ) (bs : List Bool) (vs : List Value) → 1 ≤ bits → All (IsSlice bits) vs
    → pos (low_sum bits bits bs vs) ≡ sum_on bs vs +ℤ pos (count_on bits 0 bs vs * half bits)
all_low bits [] [] some all = nothing (half bits)
all_low bits [] (v ∷ vs) some all = nothing (half bits)
all_low bits (b ∷ bs) [] some all = nothing (half bits)
all_low bits (true ∷ bs) (v ∷ vs) some all =
    row_more bits true v (low_sum bits bits bs vs) (sum_on bs vs) (count_on bits 0 bs vs) some (All-head (IsSlice bits) v vs all) (all_low bits bs vs some (All-tail (IsSlice bits) v vs all))
    ∙ ap (λ (n : ℕ). sum_with true v (sum_on bs vs) +ℤ pos (n * half bits)) (sym (counted (slice_bit bits 0 v && true) (both (plane_of bits vs 0) bs)))
all_low bits (false ∷ bs) (v ∷ vs) some all =
    row_more bits false v (low_sum bits bits bs vs) (sum_on bs vs) (count_on bits 0 bs vs) some (All-head (IsSlice bits) v vs all) (all_low bits bs vs some (All-tail (IsSlice bits) v vs all))
    ∙ ap (λ (n : ℕ). sum_with false v (sum_on bs vs) +ℤ pos (n * half bits)) (sym (counted (slice_bit bits 0 v && false) (both (plane_of bits vs 0) bs)))

-- ROOM

power_most : (k : ℕ) → k ≤ 64 → 2 ^ k ≤ 18446744073709551616
power_most k h = pow-le-pow_right (omega arith) h

pub times_short : (n k : ℕ) → n ≤ 4294967295 → n * 2 ^ k ≤ 4294967295 * 2 ^ k
times_short n k h = mul-le-mul_right (2 ^ k) h

pub times_most : (n k : ℕ) → n ≤ 4294967295 → k ≤ 64 → n * 2 ^ k < 79228162514264337593543950336
times_most n k few h = omega (arith, times_short n k few, power_most k h)

-- sums below 2^32 of a power, with one bit more
pub still_short : (sum more k : ℕ) → sum < 4294967296 * 2 ^ k → more ≤ 4294967295 * 2 ^ k → sum + more < 4294967296 * 2 ^ (k + 1)
still_short sum more k a b =
    let power : 2 ^ (k + 1) ≡ 2 ^ k * 2 = ap (λ (j : ℕ). 2 ^ j) (up k) ∙ pow-suc 2 k in
    omega (arith, power, a, b)
  where
    up : (k : ℕ) → k + 1 ≡ suc k
    up k = omega arith

pub whole_short : (sum k : ℕ) → sum < 4294967296 * 2 ^ k → k ≤ 64 → sum < 79228162514264337593543950336
whole_short sum k a h = omega (arith, a, power_most k h)

-- THE DIFFERENCE

pub difference_of : (lifted up count low : ℕ) (sum : ℤ) → lifted < 79228162514264337593543950336 → up < 79228162514264337593543950336 → lifted ≡ low → up ≡ count → pos low ≡ sum +ℤ pos count
    → to_z w128 (of_z w128 (to_z w128 lifted -ℤ to_z w128 up)) ≡ sum
difference_of lifted up count low sum a b is ups are = search rules

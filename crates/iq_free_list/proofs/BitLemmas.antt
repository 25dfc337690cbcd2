-- The numbers of the set bits, as bits change.
use Rattle.std.specs.Prelude.{◌≡◌, ℕ, zero, suc, ◌+◌, ◌-◌, ◌<◌, ◌≤◌, ◌^◌, min, Bool, true, false, List, [], ◌∷◌, length, slice_set, replicate, All, nat_eq}
use Rattle.std.specs.List.{AllByRecursion, IsDistinct}
use Rattle.std.proofs.Common.{refl, sym, ap, subst, ◌∙◌, inl, inr, arith, length-set, get_or-set_same, get_or-set_other}
use Rattle.std.proofs.lemmas.List.{set-get_or, length-replicate}
use Rattle.std.proofs.lemmas.List.Elements.{All-nil, All-cons}
use Rattle.std.proofs.lemmas.Bool.{lt-ltb, le-ltb, eq-eqb, ne_eqb, cases_lt, cases_order}
use Rattle.iq_free_list.specs.FreeList.{free_of, put, bit_of, IsHinted, IsAscending}
use Rattle.iq_bitmap.specs.Bits.{IsNextSet, HasNoneFrom, rows_from}

put_below : (b x : ℕ) (xs : List ℕ) → b < x → put b (x ∷ xs) ≡ b ∷ x ∷ xs
put_below b x xs under = rw (lt-ltb b x under) refl

put_same : (b x : ℕ) (xs : List ℕ) → b ≡ x → put b (x ∷ xs) ≡ x ∷ xs
put_same b x xs same =
    let no_less : x ≤ b = omega (arith, same) in
    rw (le-ltb b x no_less, eq-eqb b x same) refl

put_above : (b x : ℕ) (xs : List ℕ) → x < b → put b (x ∷ xs) ≡ x ∷ put b xs
put_above b x xs over =
    let no_less : x ≤ b = omega (arith, over) in
    rw (le-ltb b x no_less, ne_eqb b x (λ same. omega (arith, over, same))) refl

-- where no bit is set there is no number
pub rows_from_none : (s : ℕ) (bits : List Bool) → ((i : ℕ) → bit_of bits i ≡ false) → rows_from s bits ≡ []
rows_from_none s [] none = refl
rows_from_none s (true ∷ bits) none = let head : true ≡ false = none 0 in cc
rows_from_none s (false ∷ bits) none = rows_from_none (s + 1) bits (λ i. none (suc i))

-- the first set bit is the first number
rows_from_first : (s : ℕ) (bits : List Bool) (i : ℕ) → bit_of bits i ≡ true → ((k : ℕ) → k < i → bit_of bits k ≡ false)
    → rows_from s bits ≡ (s + i) ∷ rows_from s (slice_set bits i false)
rows_from_first s [] i set below = cc
rows_from_first s (true ∷ bits) zero set below = ap (λ (n : ℕ). n ∷ rows_from (s + 1) bits) (omega arith)
rows_from_first s (false ∷ bits) zero set below = cc
rows_from_first s (true ∷ bits) (suc i) set below = let head : true ≡ false = below 0 (omega arith) in cc
rows_from_first s (false ∷ bits) (suc i) set below =
    rows_from_first (s + 1) bits i set (λ k under. below (suc k) (omega (arith, under)))
    ∙ ap (λ (n : ℕ). n ∷ rows_from (s + 1) (slice_set bits i false)) (omega arith)

pub rows_from_take : (bits : List Bool) (i : ℕ) → bit_of bits i ≡ true → ((k : ℕ) → k < i → bit_of bits k ≡ false)
    → rows_from 0 bits ≡ i ∷ rows_from 0 (slice_set bits i false)
rows_from_take bits i set below = rows_from_first 0 bits i set below ∙ ap (λ (n : ℕ). n ∷ rows_from 0 (slice_set bits i false)) (omega arith)

-- a number below all is put first
put_first : (block s : ℕ) (bits : List Bool) → block < s → put block (rows_from s bits) ≡ block ∷ rows_from s bits
put_first block s [] under = refl
put_first block s (true ∷ bits) under = put_below block s (rows_from (s + 1) bits) under
put_first block s (false ∷ bits) under = put_first block (s + 1) bits (omega (arith, under))

-- a bit that is set is a number put in
rows_from_give : (s : ℕ) (bits : List Bool) (i : ℕ) → i < length bits → rows_from s (slice_set bits i true) ≡ put (s + i) (rows_from s bits)
rows_from_give s [] i within = absurd (omega (arith, within))
rows_from_give s (true ∷ bits) zero within = sym (put_same (s + 0) s (rows_from (s + 1) bits) (omega arith))
rows_from_give s (false ∷ bits) zero within =
    let first : put (s + 0) (rows_from (s + 1) bits) ≡ (s + 0) ∷ rows_from (s + 1) bits = put_first (s + 0) (s + 1) bits (omega arith) in
    let start : s ≡ s + 0 = omega arith in
    ap (λ (n : ℕ). n ∷ rows_from (s + 1) bits) start ∙ sym first
rows_from_give s (true ∷ bits) (suc i) within =
    let there : (s + 1) + i ≡ s + suc i = omega arith in
    ap (λ (xs : List ℕ). s ∷ xs) (rows_from_give (s + 1) bits i (omega (arith, within)) ∙ ap (λ (n : ℕ). put n (rows_from (s + 1) bits)) there)
    ∙ sym (put_above (s + suc i) s (rows_from (s + 1) bits) (omega arith))
rows_from_give s (false ∷ bits) (suc i) within =
    let there : (s + 1) + i ≡ s + suc i = omega arith in
    rows_from_give (s + 1) bits i (omega (arith, within)) ∙ ap (λ (n : ℕ). put n (rows_from (s + 1) bits)) there

pub rows_from_put : (bits : List Bool) (i : ℕ) → i < length bits → rows_from 0 (slice_set bits i true) ≡ put i (rows_from 0 bits)
rows_from_put bits i within =
    let there : 0 + i ≡ i = omega arith in
    rows_from_give 0 bits i within ∙ ap (λ (n : ℕ). put n (rows_from 0 bits)) there

-- a number that is in the list stays there
pub rows_from_again : (bits : List Bool) (i : ℕ) → i < length bits → bit_of bits i ≡ true → rows_from 0 bits ≡ put i (rows_from 0 bits)
rows_from_again bits i within set =
    ap (rows_from 0) (sym (set-get_or bits i false) ∙ ap (slice_set bits i) set) ∙ rows_from_put bits i within

-- a bit that wasn't set is one more
length_give : (s : ℕ) (bits : List Bool) (i : ℕ) → i < length bits → bit_of bits i ≡ false
    → length (rows_from s (slice_set bits i true)) ≡ length (rows_from s bits) + 1
length_give s [] i within clear = absurd (omega (arith, within))
length_give s (true ∷ bits) zero within clear = cc
length_give s (false ∷ bits) zero within clear = omega arith
length_give s (true ∷ bits) (suc i) within clear = omega (arith, length_give (s + 1) bits i (omega (arith, within)) clear)
length_give s (false ∷ bits) (suc i) within clear = length_give (s + 1) bits i (omega (arith, within)) clear

-- there are no more numbers than bits
pub length-rows_from : (s : ℕ) (bits : List Bool) → length (rows_from s bits) ≤ length bits
length-rows_from s [] = omega arith
length-rows_from s (true ∷ bits) = omega (arith, length-rows_from (s + 1) bits)
length-rows_from s (false ∷ bits) = omega (arith, length-rows_from (s + 1) bits)

-- below the first set bit from the hint on no bit is set
before_first : (bits : List Bool) (hint count i : ℕ) → IsHinted bits hint count → IsNextSet bits hint i
    → (k : ℕ) → k < i → bit_of bits k ≡ false
before_first bits hint count i hinted first k under =
    elim (cases_lt k hint) [ inl early ↦ hinted.below k early | inr late ↦ first.before k late under ]

-- where no bit is set from the hint on, no block is free
pub take_none : (bits : List Bool) (hint count : ℕ) → IsHinted bits hint count → HasNoneFrom bits hint → rows_from 0 bits ≡ []
take_none bits hint count hinted none =
    rows_from_none 0 bits (λ i. elim (cases_lt i hint) [ inl early ↦ hinted.below i early | inr late ↦ none i late ])

-- what is taken is the least, and the others stay
pub take_first : (bits : List Bool) (hint count i : ℕ) → IsHinted bits hint count → IsNextSet bits hint i
    → rows_from 0 bits ≡ i ∷ rows_from 0 (slice_set bits i false)
take_first bits hint count i hinted first = rows_from_take bits i first.on (before_first bits hint count i hinted first)

-- after a take the hint stands behind what was taken
pub take_hinted : (bits : List Bool) (hint count i : ℕ) → IsHinted bits hint count → IsNextSet bits hint i
    → IsHinted (slice_set bits i false) (i + 1) (count - 1)
take_hinted bits hint count i hinted first = record {
  below = λ k under. elim (cases_order k i) [
    | inl here ↦ rw here (get_or-set_same bits i false false first.within)
    | inr apart ↦ (
        let other : k ≡ i → ⊥ = λ same. omega (arith, apart, same) in
        let under_i : k < i = omega (arith, under, apart) in
        get_or-set_other bits i k false false other ∙ before_first bits hint count i hinted first k under_i)
  ];
  counted = omega (arith, hinted.counted, ap length (take_first bits hint count i hinted first));
  few = omega (arith, hinted.few, length-set bits i false);
}

-- after a give the hint stands no higher than what was given
pub give_hinted : (bits : List Bool) (hint count i : ℕ) → IsHinted bits hint count → i < length bits → bit_of bits i ≡ false
    → IsHinted (slice_set bits i true) (min hint i) (count + 1)
give_hinted bits hint count i hinted within clear = record {
  below = λ k under.
      let early : k < hint = omega (arith, under) in
      let other : k ≡ i → ⊥ = λ same. omega (arith, under, same) in
      get_or-set_other bits i k true false other ∙ hinted.below k early;
  counted = omega (arith, hinted.counted, length_give 0 bits i within clear);
  few = omega (arith, hinted.few, length-set bits i true);
}

-- so many fit
pub give_fits : (bits : List Bool) (hint count i : ℕ) → IsHinted bits hint count → i < length bits → bit_of bits i ≡ false → count + 1 < 2 ^ 32
give_fits bits hint count i hinted within clear =
    omega (arith, hinted.counted, hinted.few, length_give 0 bits i within clear, length-rows_from 0 (slice_set bits i true), length-set bits i true)

-- all numbers are past those before the first bit
above_rows_from : (n s : ℕ) (bits : List Bool) → n < s → All (λ b. n < b) (rows_from s bits)
above_rows_from n s [] under = All-nil (λ b. n < b)
above_rows_from n s (true ∷ bits) under =
    All-cons (λ b. n < b) s (rows_from (s + 1) bits) under (above_rows_from n (s + 1) bits (omega (arith, under)))
above_rows_from n s (false ∷ bits) under = above_rows_from n (s + 1) bits (omega (arith, under))

-- the numbers are in ascending order
pub ascending_rows_from : (s : ℕ) (bits : List Bool) → IsAscending (rows_from s bits)
ascending_rows_from s [] = tt
ascending_rows_from s (true ∷ bits) = (above_rows_from s (s + 1) bits (omega arith), ascending_rows_from (s + 1) bits)
ascending_rows_from s (false ∷ bits) = ascending_rows_from (s + 1) bits

-- each number is that of a bit
within_rows_from : (s n : ℕ) (bits : List Bool) → s + length bits ≤ n → All (λ b. b < n) (rows_from s bits)
within_rows_from s n [] fits = All-nil (λ b. b < n)
within_rows_from s n (true ∷ bits) fits =
    All-cons (λ b. b < n) s (rows_from (s + 1) bits) (omega (arith, fits)) (within_rows_from (s + 1) n bits (omega (arith, fits)))
within_rows_from s n (false ∷ bits) fits = within_rows_from (s + 1) n bits (omega (arith, fits))

pub rows_from_within : (bits : List Bool) → All (λ b. b < length bits) (rows_from 0 bits)
rows_from_within bits = within_rows_from 0 (length bits) bits (omega arith)

-- the first of an ascending list is less than the others
pub first_ascending : (block : ℕ) (blocks rest : List ℕ) → IsAscending blocks → blocks ≡ block ∷ rest → All (λ b. block < b) rest
first_ascending block blocks rest ascending first = (subst IsAscending first ascending).0

-- what is left after a take is past what was taken
pub take_past : (bits : List Bool) (hint count i : ℕ) → IsHinted bits hint count → IsNextSet bits hint i
    → All (λ b. i < b) (rows_from 0 (slice_set bits i false))
take_past bits hint count i hinted first =
    first_ascending i (rows_from 0 bits) (rows_from 0 (slice_set bits i false)) (ascending_rows_from 0 bits)
    (take_first bits hint count i hinted first)

-- of bits that are all clear none is a number
pub rows_from_clear : (s n : ℕ) → rows_from s (replicate n false) ≡ []
rows_from_clear s zero = refl
rows_from_clear s (suc n) = rows_from_clear (s + 1) n

pub clear_hinted : (n : ℕ) → n < 2 ^ 32 → IsHinted (replicate n false) 0 0
clear_hinted n fits = record {
  below = λ i under. absurd (omega (arith, under));
  counted = sym (ap length (rows_from_clear 0 n));
  few = omega (arith, fits, length-replicate n false);
}

pub free_of_clear : (n : ℕ) (bits : List Bool) → bits ≡ replicate n false → free_of bits ≡ record { count = n; blocks = [] }
free_of_clear n bits clear =
    let counted : length bits ≡ n = ap length clear ∙ length-replicate n false in
    let none : rows_from 0 bits ≡ [] = ap (rows_from 0) clear ∙ rows_from_clear 0 n in
    rw (counted, none) refl

-- numbers that ascend stand once each
apart_above : (x : ℕ) (ys : List ℕ) → All (λ b. x < b) ys → AllByRecursion (λ y. nat_eq x y ≡ false) ys
apart_above x [] above = tt
apart_above x (y ∷ ys) above =
    let under : x < y = above 0 0 (omega arith) in
    (ne_eqb x y (λ same. omega (arith, under, same)), apart_above x ys (λ k d within. above (suc k) d (omega (arith, within))))

pub distinct_ascending : (xs : List ℕ) → IsAscending xs → IsDistinct nat_eq xs
unfolding IsDistinct
distinct_ascending [] ascending = tt
distinct_ascending (x ∷ xs) ascending = (apart_above x xs ascending.0, distinct_ascending xs ascending.1)

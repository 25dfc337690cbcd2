-- The count of the set bits of a list of words is the count over its bits.
use Rattle.std.proofs.Common.{ℕ, zero, suc, ◌+◌, ◌*◌, ◌/◌, ◌%◌, ◌^◌, ◌-◌, ◌<◌, ◌≤◌, ◌≡◌, ◌==◌, Bool, false, cond, List, [], ◌∷◌, length, get_or, map, count_by, sum_by, count_ones, refl, sym, ap, ap₂, ◌∙◌, inl, inr, ◌⊎◌, arith, add-zero, zero-add, add_assoc}
use Rattle.std.proofs.lemmas.Bool.{cases_lt}
use Rattle.std.proofs.lemmas.List.{get_or_past}
use Rattle.std.proofs.lemmas.List.FromFn.{length-map-range_with_len, get_or-map-range_with_len}
use Rattle.std.proofs.lemmas.List.Sums.{sum_by-cons}
use Rattle.std.proofs.lemmas.Nat.Bits.{bit_at-lt, bit_at_above, same_from_bits}
use Rattle.std.proofs.lemmas.Simd.{bit_mask_l, ones-mask_l}
use Rattle.std.specs.Int.{bit_at}
use Rattle.std.specs.List.{range_with_len}
use Rattle.std.specs.Simd.Lanes.{mask_l}
use Rattle.iq_bitmap.specs.Bits.{bit_of, bits_of}
use Rattle.iq_bitmap.specs.Words.{IsTight}

-- how many of the n numbers from a on pass f
passing : (ℕ → Bool) → ℕ → ℕ → ℕ
passing f a zero = 0
passing f a (suc n) = cond (f a) 1 0 + passing f (a + 1) n

count_of_map : (f : ℕ → Bool) (a n : ℕ) → count_by (λ (on : Bool). on) (map f (range_with_len a n)) ≡ passing f a n
unfolding passing
count_of_map f a zero = refl
count_of_map f a (suc n) = sum_by-cons (λ (on : Bool). cond on 1 0) (f a) (map f (range_with_len (a + 1) n)) ∙ ap (λ (k : ℕ). cond (f a) 1 0 + k) (count_of_map f (a + 1) n)

count_of_range : (f : ℕ → Bool) (a n : ℕ) → count_by f (range_with_len a n) ≡ passing f a n
unfolding passing
count_of_range f a zero = refl
count_of_range f a (suc n) = sum_by-cons (λ (i : ℕ). cond (f i) 1 0) a (range_with_len (a + 1) n) ∙ ap (λ (k : ℕ). cond (f a) 1 0 + k) (count_of_range f (a + 1) n)

-- two tests that agree, the second at places that are `by` further
passing_same : (f g : ℕ → Bool) (a b n : ℕ) → ((i : ℕ) → i < n → f (a + i) ≡ g (b + i)) → passing f a n ≡ passing g b n
unfolding passing
passing_same f g a b zero same = refl
passing_same f g a b (suc n) same =
    ap₂ (λ (x : Bool) (k : ℕ). cond x 1 0 + k) (ap f (sym (add-zero a)) ∙ same 0 (omega arith) ∙ ap g (add-zero b))
    (passing_same f g (a + 1) (b + 1) n (λ i h. let p : (a + 1) + i ≡ a + (i + 1) = omega arith in let q : (b + 1) + i ≡ b + (i + 1) = omega arith in ap f p ∙ same (i + 1) (omega arith) ∙ ap g (sym q)))

passing-add : (f : ℕ → Bool) (a m n : ℕ) → passing f a (m + n) ≡ passing f a m + passing f (a + m) n
unfolding passing
passing-add f a zero n = ap (passing f a) (zero-add n) ∙ sym (zero-add (passing f (a + 0) n) ∙ ap (λ (b : ℕ). passing f b n) (add-zero a))
passing-add f a (suc m) n =
    let here : ℕ = cond (f a) 1 0 in
    let more : suc m + n ≡ suc (m + n) = omega arith in
    let on : (a + 1) + m ≡ a + suc m = omega arith in
    ap (passing f a) more ∙ ap (λ (k : ℕ). here + k) (passing-add f (a + 1) m n)
    ∙ sym (add_assoc here (passing f (a + 1) m) (passing f ((a + 1) + m) n)) ∙ ap (λ (b : ℕ). here + passing f (a + 1) m + passing f b n) on

passing_none : (f : ℕ → Bool) (a n : ℕ) → ((i : ℕ) → a ≤ i → f i ≡ false) → passing f a n ≡ 0
unfolding passing
passing_none f a zero none = refl
passing_none f a (suc n) none = ap₂ (λ (x : Bool) (k : ℕ). cond x 1 0 + k) (none a (omega arith)) (passing_none f (a + 1) n (λ i h. none i (omega arith)))

zero_or_one : (x : ℕ) → x < 2 → (x ≡ 0) ⊎ (x ≡ 1)
zero_or_one x h = grind arith

-- the set bits of one number of k bits
bit_back : (x : ℕ) → x < 2 → x ≡ cond (x == 1) 1 0
bit_back x h = elim (zero_or_one x h) [
  | inl e ↦ e ∙ sym (ap (λ (y : ℕ). cond (y == 1) 1 0) e)
  | inr e ↦ e ∙ sym (ap (λ (y : ℕ). cond (y == 1) 1 0) e)
]

word_is_mask : (k w : ℕ) → w < 2 ^ k → w ≡ mask_l (map (λ j. bit_at w j == 1) (range_with_len 0 k))
word_is_mask k w h =
    let bits = map (λ (j : ℕ). bit_at w j == 1) (range_with_len 0 k) in
    same_from_bits w (mask_l bits) (λ i. elim (cases_lt i k) [
      | inl in_word ↦ bit_back (bit_at w i) (bit_at-lt w i)
          ∙ ap (λ (b : Bool). cond b 1 0) (sym (get_or-map-range_with_len (λ (j : ℕ). bit_at w j == 1) 0 k i i false in_word (omega arith)))
          ∙ sym (bit_mask_l bits i)
      | inr past ↦ bit_at_above w k i h past
          ∙ ap (λ (b : Bool). cond b 1 0) (sym (get_or_past bits i false (omega (arith, length-map-range_with_len (λ (j : ℕ). bit_at w j == 1) 0 k))))
          ∙ sym (bit_mask_l bits i)
    ])

word_ones : (k w : ℕ) → w < 2 ^ k → count_ones w ≡ passing (λ j. bit_at w j == 1) 0 k
word_ones k w h = ap count_ones (word_is_mask k w h) ∙ ones-mask_l (λ j. bit_at w j == 1) (range_with_len 0 k) ∙ count_of_range (λ j. bit_at w j == 1) 0 k

passing_nothing : (f : ℕ → Bool) (a : ℕ) → passing f a 0 ≡ 0
unfolding passing
passing_nothing f a = refl

-- all bits of the words
ones_of_words : (xs : List ℕ) → ((k : ℕ) → get_or xs k 0 < 2 ^ 64) → sum_by count_ones xs ≡ passing (bit_of 64 xs) 0 (length xs * 64)
ones_of_words [] fit = sym (passing_nothing (bit_of 64 []) 0)
ones_of_words (x ∷ xs) fit =
    let all = bit_of 64 (x ∷ xs) in
    let first = passing_same (λ (j : ℕ). bit_at x j == 1) all 0 0 64 (λ i h.
    let here : (0 + i) / 64 ≡ 0 = omega arith in
    let at : (0 + i) % 64 ≡ 0 + i = omega arith in
    ap₂ (λ (w j : ℕ). bit_at w j == 1) (sym (ap (λ (k : ℕ). get_or (x ∷ xs) k 0) here)) (sym at)) in
    let others = passing_same (bit_of 64 xs) all 0 64 (length xs * 64) (λ i h.
    let here : (64 + i) / 64 ≡ suc ((0 + i) / 64) = omega arith in
    let at : (64 + i) % 64 ≡ (0 + i) % 64 = omega arith in
    ap₂ (λ (w j : ℕ). bit_at w j == 1) (sym (ap (λ (k : ℕ). get_or (x ∷ xs) k 0) here)) (sym at)) in
    let total : 64 + length xs * 64 ≡ suc (length xs) * 64 = omega arith in
    sum_by-cons count_ones x xs
    ∙ ap₂ (λ (p q : ℕ). p + q) (word_ones 64 x (fit 0) ∙ first) (ones_of_words xs (λ k. fit (suc k)) ∙ others)
    ∙ sym (passing-add all 0 64 (length xs * 64)) ∙ ap (passing all 0) total

pub ones_of_bits : (xs : List ℕ) (n : ℕ) → ((k : ℕ) → get_or xs k 0 < 2 ^ 64) → IsTight xs n → sum_by count_ones xs ≡ count_by (λ (on : Bool). on) (bits_of 64 xs n)
unfolding bits_of
ones_of_bits xs n fit t =
    let past = length xs * 64 - n in
    let total : n + past ≡ length xs * 64 = omega (arith, t.enough) in
    ones_of_words xs fit ∙ ap (passing (bit_of 64 xs) 0) (sym total) ∙ passing-add (bit_of 64 xs) 0 n past
    ∙ ap (λ (k : ℕ). passing (bit_of 64 xs) 0 n + k) (passing_none (bit_of 64 xs) (0 + n) past (λ i h. t.spare i (omega arith)))
    ∙ add-zero (passing (bit_of 64 xs) 0 n) ∙ sym (count_of_map (bit_of 64 xs) 0 n)

-- A sum over a list that is kept lane by lane.
use Rattle.std.proofs.Common.{ℕ, suc, ◌+◌, ◌*◌, ◌^◌, ◌<◌, ◌≤◌, ◌≡◌, List, [], ◌∷◌, length, get_or, take, map, sum_by, count_ones, refl, sym, ap, ◌∙◌, arith}
use Rattle.std.proofs.lemmas.List.{length-map}
use Rattle.std.proofs.lemmas.List.Sums.{sum_by-cons, sum_by-append, sum_by-take-le}
use Rattle.std.proofs.lemmas.Nat.{ones-le}
use Rattle.std.proofs.lemmas.Simd.{sum-zip2, length-chunk}
use Rattle.std.proofs.Math.Seq.{take-add}
use Rattle.std.specs.Simd.Lanes.{zip2, chunk, sum_l}

pub sum_l-map : {A : Type 0} (f : A → ℕ) (xs : List A) → sum_l (map f xs) ≡ sum_by f xs
sum_l-map f [] = refl
sum_l-map f (x ∷ xs) = ap (λ (k : ℕ). f x + k) (sum_l-map f xs) ∙ sym (sum_by-cons f x xs)

-- n lanes get the terms of the next n items
pub lanes_added : {A : Type 0} (f : A → ℕ) (at n : ℕ) (xs : List A) (sums : List ℕ) → at + n ≤ length xs → length sums ≡ n → sum_l (zip2 (λ (a b : ℕ). a + b) sums (map f (chunk at n xs))) ≡ sum_l sums + sum_by f (chunk at n xs)
lanes_added f at n xs sums le long =
    sum-zip2 sums (map f (chunk at n xs)) (long ∙ sym (length-map (chunk at n xs) f ∙ length-chunk at n xs le))
    ∙ ap (λ (k : ℕ). sum_l sums + k) (sum_l-map f (chunk at n xs))

-- the sum so far with the next n items
pub sum_more : {A : Type 0} (f : A → ℕ) (at n : ℕ) (xs : List A) → sum_by f (take (at + n) xs) ≡ sum_by f (take at xs) + sum_by f (chunk at n xs)
sum_more f at n xs = ap (sum_by f) (take-add at n xs) ∙ sum_by-append f (take at xs) (chunk at n xs)

-- a word has at most 64 bits that are set
pub ones_few : (xs : List ℕ) → ((k : ℕ) → get_or xs k 0 < 2 ^ 64) → sum_by count_ones xs ≤ 64 * length xs
ones_few [] fit = omega arith
ones_few (x ∷ xs) fit = omega (arith, sum_by-cons count_ones x xs, ones-le 64 x (fit 0), ones_few xs (λ k. fit (suc k)))

-- the set bits of some words in a row, which are no more than those of all
pub chunk_few : (at n : ℕ) (xs : List ℕ) → ((k : ℕ) → get_or xs k 0 < 2 ^ 64) → sum_by count_ones (chunk at n xs) ≤ 64 * length xs
chunk_few at n xs fit = omega (arith, sum_more count_ones at n xs, sum_by-take-le count_ones xs (at + n), ones_few xs fit)

pub take_few : (at : ℕ) (xs : List ℕ) → ((k : ℕ) → get_or xs k 0 < 2 ^ 64) → sum_by count_ones (take at xs) ≤ 64 * length xs
take_few at xs fit = omega (arith, sum_by-take-le count_ones xs at, ones_few xs fit)

-- Lists of views: a sum after a change, and the places of a list with one more.
use Rattle.std.proofs.Common.{◌≡◌, ◌≢◌, ℕ, zero, suc, ◌+◌, ◌<◌, ◌≤◌, ◌⊎◌, List, [], ◌∷◌, ◌++◌, length, set, sum_by, All, AllPairs, sym, refl, ap, inl, inr, ⊎_elim, arith}
use mathlib.Core.Option.{some, some-injective, some-ne-none}
use lib.ListN.{get_elem?}
use Rattle.std.proofs.lemmas.List.Sums.{sum_by-cons, sum_by-append}
use Rattle.std.proofs.lemmas.List.Elements.{All-append, All-head, All-tail}

module _ {A : Type 0} where
  pub place : (l : List A) (i : ℕ) (a : A) → get_elem? l i ≡ some a → i < length l
  place [] i a e = absurd (some-ne-none a (sym e))
  place (x ∷ xs) zero a e = omega arith
  place (x ∷ xs) (suc i) a e = let h = place xs i a e in omega arith

  pub at_end : (l : List A) (a b : A) (j : ℕ) → get_elem? (l ++ a ∷ []) j ≡ some b → (get_elem? l j ≡ some b) ⊎ ((j ≡ length l) × (a ≡ b))
  at_end [] a b zero e = inr (refl, some-injective a b e)
  at_end [] a b (suc j) e = absurd (some-ne-none b (sym e))
  at_end (x ∷ xs) a b zero e = inl e
  at_end (x ∷ xs) a b (suc j) e = ⊎_elim (λ h. inl h) (λ h. let k = h.0 in let n : suc j ≡ length (x ∷ xs) = omega arith in inr (n, h.1)) (at_end xs a b j e)

  pub set_swap : (l : List A) (i j : ℕ) (a b : A) → i ≢ j → set (set l i a) j b ≡ set (set l j b) i a
  set_swap [] i j a b n = refl
  set_swap (x ∷ xs) zero zero a b n = absurd (n refl)
  set_swap (x ∷ xs) zero (suc j) a b n = refl
  set_swap (x ∷ xs) (suc i) zero a b n = refl
  set_swap (x ∷ xs) (suc i) (suc j) a b n = ap (λ (ys : List A). x ∷ ys) (set_swap xs i j a b (λ e. n (ap suc e)))

  module _ (f : A → ℕ) where
    pub sum_set : (l : List A) (i : ℕ) (v w : A) → get_elem? l i ≡ some v → sum_by f (set l i w) + f v ≡ sum_by f l + f w
    sum_set [] i v w e = absurd (some-ne-none v (sym e))
    sum_set (x ∷ xs) zero v w e = let same : f x ≡ f v = ap f (some-injective x v e) in omega (arith, sum_by-cons f w xs, sum_by-cons f x xs)
    sum_set (x ∷ xs) (suc i) v w e = let h = sum_set xs i v w e in omega (arith, sum_by-cons f x (set xs i w), sum_by-cons f x xs)

    pub sum_snoc : (l : List A) (a : A) → sum_by f (l ++ a ∷ []) ≡ sum_by f l + f a
    sum_snoc l a = omega (arith, sum_by-append f l (a ∷ []), sum_by-cons f a [])

    pub one_below : (l : List A) (i : ℕ) (v : A) → get_elem? l i ≡ some v → f v ≤ sum_by f l
    one_below [] i v e = absurd (some-ne-none v (sym e))
    one_below (x ∷ xs) zero v e = let same : f x ≡ f v = ap f (some-injective x v e) in omega (arith, sum_by-cons f x xs)
    one_below (x ∷ xs) (suc i) v e = let h = one_below xs i v e in omega (arith, sum_by-cons f x xs)

    pub sums_below : (g : A → ℕ) (l : List A) → ((i : ℕ) (v : A) → get_elem? l i ≡ some v → f v ≤ g v) → sum_by f l ≤ sum_by g l
    sums_below g [] h = omega arith
    sums_below g (x ∷ xs) h = let t = sums_below g xs (λ i v e. h (suc i) v e) in let k = h zero x refl in omega (arith, sum_by-cons f x xs, sum_by-cons g x xs)

  module _ (R : A → A → Type 0) where
    pub pairs_nil : AllPairs R []
    pairs_nil i j d lt l = absurd (omega arith)

    pub pairs_one : (x : A) → AllPairs R (x ∷ [])
    pairs_one x i j d lt l = absurd (omega arith)

    pairs_cons : (x : A) (xs : List A) → All (R x) xs → AllPairs R xs → AllPairs R (x ∷ xs)
    pairs_cons x xs h t i zero d lt l = absurd (omega arith)
    pairs_cons x xs h t zero (suc j) d lt l = h j d (omega arith)
    pairs_cons x xs h t (suc i) (suc j) d lt l = t i j d (omega arith) (omega arith)

    pairs_head : (x : A) (xs : List A) → AllPairs R (x ∷ xs) → All (R x) xs
    pairs_head x xs h k d l = h zero (suc k) d (omega arith) (omega arith)

    pairs_tail : (x : A) (xs : List A) → AllPairs R (x ∷ xs) → AllPairs R xs
    pairs_tail x xs h i j d lt l = h (suc i) (suc j) d (omega arith) (omega arith)

    pub pairs_append : (xs ys : List A) → AllPairs R xs → AllPairs R ys → All (λ x. All (R x) ys) xs → AllPairs R (xs ++ ys)
    pairs_append [] ys p q c = q
    pairs_append (x ∷ xs) ys p q c = pairs_cons x (xs ++ ys) (All-append (R x) xs ys (pairs_head x xs p) (All-head (λ z. All (R z) ys) x xs c)) (pairs_append xs ys (pairs_tail x xs p) q (All-tail (λ z. All (R z) ys) x xs c))

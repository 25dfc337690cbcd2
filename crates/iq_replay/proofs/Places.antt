-- Lists with one place changed.
use Rattle.std.specs.Prelude.{◌≡◌, ◌≢◌, refl, ℕ, zero, suc, List, [], ◌∷◌, length}
use Rattle.std.specs.List.{slice_get}
use Rattle.std.specs.Option.{option_map}
use Rattle.std.proofs.Common.{ap}
use Rattle.iq_replay.specs.State.{changed_at}

pub slice_get-changed : {X : Type 0} (n : ℕ) (f : X → X) (xs : List X) → slice_get (changed_at n f xs) n ≡ option_map f (slice_get xs n)
slice_get-changed n f [] = refl
slice_get-changed zero f (x ∷ xs) = refl
slice_get-changed (suc n) f (x ∷ xs) = slice_get-changed n f xs

pub slice_get-others : {X : Type 0} (n m : ℕ) (f : X → X) (xs : List X) → n ≢ m → slice_get (changed_at n f xs) m ≡ slice_get xs m
slice_get-others n m f [] h = refl
slice_get-others zero zero f (x ∷ xs) h = absurd (h refl)
slice_get-others zero (suc m) f (x ∷ xs) h = refl
slice_get-others (suc n) zero f (x ∷ xs) h = refl
slice_get-others (suc n) (suc m) f (x ∷ xs) h = slice_get-others n m f xs (λ p. h (ap suc p))

pub length-changed : {X : Type 0} (n : ℕ) (f : X → X) (xs : List X) → length (changed_at n f xs) ≡ length xs
length-changed n f [] = refl
length-changed zero f (x ∷ xs) = refl
length-changed (suc n) f (x ∷ xs) = ap suc (length-changed n f xs)

-- A list with one place changed, as code changes it.
use Rattle.std.specs.Prelude.{◌≡◌, ◌<◌, ◌≤◌, refl, ℕ, zero, suc, List, [], ◌∷◌, length, slice_index_or, slice_set}
use Rattle.std.proofs.Common.{◌∙◌, ap, sym, arith}
use Rattle.iq_replay.specs.State.{changed_at}

pub changed_at_set : {X : Type 0} (n : ℕ) (f : X → X) (xs : List X) (d : X) → n < length xs → changed_at n f xs ≡ slice_set xs n (f (slice_index_or xs n d))
changed_at_set n f [] d h = absurd (omega (arith, h))
changed_at_set zero f (x ∷ xs) d h = refl
changed_at_set (suc n) f (x ∷ xs) d h = ap (λ ys. x ∷ ys) (changed_at_set n f xs d (omega (arith, h)))

pub changed_at_past : {X : Type 0} (n : ℕ) (f : X → X) (xs : List X) → length xs ≤ n → changed_at n f xs ≡ xs
changed_at_past n f [] h = refl
changed_at_past zero f (x ∷ xs) h = absurd (omega (arith, h))
changed_at_past (suc n) f (x ∷ xs) h = ap (λ ys. x ∷ ys) (changed_at_past n f xs (omega (arith, h)))

pub set_is_changed : {X : Type 0} (n : ℕ) (f : X → X) (xs : List X) (x y : X) → n < length xs → x ≡ slice_index_or xs n x → y ≡ f x → slice_set xs n y ≡ changed_at n f xs
set_is_changed n f xs x y h was is = sym (changed_at_set n f xs x h ∙ ap (slice_set xs n) (ap f (sym was) ∙ sym is))

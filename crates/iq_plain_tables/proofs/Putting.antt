-- One place put anew.
use Rattle.std.proofs.Common.{◌≡◌, ◌≤◌, ℕ, zero, suc, List, [], ◌∷◌, length, set, refl, ap, arith}
use Rattle.std.specs.Prelude.{Some}
use Rattle.iq_base.specs.declared.values.Value.{Value}
use Rattle.iq_statements.specs.Effects.{put_at}

-- a place that a row has
pub put_at_set : (place : ℕ) (value : Value) (row : List Value) → put_at (Some place) value row ≡ set row place value
put_at_set place value [] = refl
put_at_set zero value (v ∷ row) = refl
put_at_set (suc place) value (v ∷ row) = ap (λ (xs : List Value). v ∷ xs) (put_at_set place value row)

-- a place past a row
pub put_at_past : (place : ℕ) (value : Value) (row : List Value) → length row ≤ place → put_at (Some place) value row ≡ row
put_at_past place value [] past = refl
put_at_past zero value (v ∷ row) past = grind (arith, past)
put_at_past (suc place) value (v ∷ row) past = ap (λ (xs : List Value). v ∷ xs) (put_at_past place value row (omega (arith, past)))

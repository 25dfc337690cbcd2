-- Where blocks to write in come from.
use Rattle.std.specs.Prelude.{◌≡◌, ℕ, ◌-◌, ◌<◌, ◌≤◌, List, [], ◌∷◌, length, take, nat_eq, Option, Some, None}
use Rattle.std.specs.List.{All, IsDistinct}

-- a take: the next of the blocks that may yet come, which is then no longer among them, or none where none is left
abbrev pub Takes : Option ℕ → List ℕ → List ℕ → Type 0
Takes (Some block) old new = old ≡ block ∷ new
Takes None old new = (old ≡ []) × (new ≡ [])

-- the blocks that were taken meanwhile
abbrev pub taken_of : List ℕ → List ℕ → List ℕ
taken_of old new = take (length old - length new) old

-- blocks that may be taken: each once, behind the roots, and in the store where the device tells its blocks
pub record AreSpare (told : Option (List (List ℕ))) (left : List ℕ) : Type 0 where
  pub distinct : IsDistinct nat_eq left
  pub above : All (λ b. 4 ≤ b) left
  pub below : (all : List (List ℕ)) → told ≡ Some all → All (λ b. b < length all) left

-- The words of the command line.
use Rattle.std.specs.Prelude.{◌≡◌, ◌≢◌, ℕ, List, [], ◌∷◌, codes}

-- a store's path isn't empty, and doesn't begin with -
abbrev pub IsPath : List ℕ → Type 0
IsPath [] = ⊥
IsPath (b ∷ bs) = b ≢ 45

-- a path, and the mode step
abbrev pub IsStepCommand : List (List ℕ) → Type 0
IsStepCommand (path ∷ mode ∷ []) = IsPath path × (mode ≡ codes "step")
IsStepCommand _ = ⊥

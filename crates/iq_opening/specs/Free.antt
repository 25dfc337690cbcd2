-- The blocks that nothing reaches.
use Rattle.std.specs.Prelude.{ℕ, ◌+◌, Bool, true, false, List, [], ◌∷◌}

-- the blocks whose bit isn't set, in order, where the first bit is that of block n
abbrev pub unset_from : ℕ → List Bool → List ℕ
unset_from n [] = []
unset_from n (true ∷ bits) = unset_from (n + 1) bits
unset_from n (false ∷ bits) = n ∷ unset_from (n + 1) bits

-- Bytes that are cut into pieces of one width.
use Rattle.std.specs.Prelude.{ℕ, ◌*◌, List, take, drop}

-- piece i of the bytes, of w bytes, counted from 0
abbrev pub piece_in : ℕ → List ℕ → ℕ → List ℕ
piece_in w bytes i = take w (drop (i * w) bytes)

-- Codes that are below a number.
use Rattle.std.specs.Prelude.{◌<◌, ℕ, List, length, slice_index}

-- each number of a list is below another
abbrev pub AreBelow : List ℕ → ℕ → Type 0
AreBelow codes below = (k : ℕ) → k < length codes → slice_index codes k < below

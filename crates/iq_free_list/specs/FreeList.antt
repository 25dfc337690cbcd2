-- What a list of free blocks is.
use Rattle.std.specs.Prelude.{◌≡◌, ℕ, ◌+◌, ◌<◌, Bool, true, false, List, [], ◌∷◌, length, fold, nat_lt, nat_eq, ◌^◌, if◌then◌else◌, slice_index_or, All}
use Rattle.iq_bitmap.specs.Bits.{rows_from}

-- how many blocks there are, and the free ones in ascending order
pub record Free : Type 0 where
  pub count : ℕ
  pub blocks : List ℕ

-- each number is less than all that follow, so that none stands twice
abbrev pub IsAscending : List ℕ → Type 0
IsAscending [] = Unit {0}
IsAscending (block ∷ blocks) = All (λ b. block < b) blocks × IsAscending blocks

-- so many bits, and the numbers of those that are set
abbrev pub free_of : List Bool → Free
free_of bits = record { count = length bits; blocks = rows_from 0 bits }

-- a number put into its place in an ascending list, where it isn't in it yet
abbrev pub put : ℕ → List ℕ → List ℕ
put block [] = block ∷ []
put block (x ∷ xs) = if nat_lt block x then block ∷ x ∷ xs else (if nat_eq block x then x ∷ xs else x ∷ put block xs)

-- some numbers put into an ascending list, one after the other
abbrev pub put_all : List ℕ → List ℕ → List ℕ
put_all blocks xs = fold (λ (ys : List ℕ) (block : ℕ). put block ys) xs blocks

-- a bit, which is not set past the end
abbrev pub bit_of : List Bool → ℕ → Bool
bit_of bits i = slice_index_or bits i false

-- no bit below the hint is set, and so many are set
pub record IsHinted (bits : List Bool) (hint count : ℕ) : Type 0 where
  pub below : (i : ℕ) → i < hint → bit_of bits i ≡ false
  pub counted : count ≡ length (rows_from 0 bits)
  pub few : length bits < 2 ^ 32

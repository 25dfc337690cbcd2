-- The bytes of values one behind another, and of rows of values.
use Rattle.std.specs.Prelude.{◌≡◌, ◌≤◌, ℕ, ◌+◌, ℤ, pos, negsuc, List, [], ◌∷◌, ◌++◌, length, nat_lt, if◌then◌else◌, ⊤, IsUtf8, FitsSigned}
use Rattle.std.specs.Int.{w64, cast_unsigned, to_le_bytes}
use Rattle.std.specs.List.{flat_map, AllByRecursion}
use Rattle.iq_base.specs.declared.values.Value.{Value}
use Rattle.iq_base.specs.declared.values.Value.TheVariants.{Null, Int, Text}

-- a mark and the eight bytes of a number, lowest byte first, in two's complement
abbrev pub long_bytes : ℤ → List ℕ
long_bytes z = 1 ∷ to_le_bytes w64 (cast_unsigned w64 z)

-- a number from 0 to 252 lies in its mark, and another has its bytes behind it
abbrev pub number_bytes : ℤ → List ℕ
number_bytes (pos n) = if nat_lt n 253 then (n + 3) ∷ [] else long_bytes (pos n)
number_bytes (negsuc n) = long_bytes (negsuc n)

-- NULL is a mark; a text has its length and its bytes behind a mark
abbrev pub value_bytes : Value → List ℕ
value_bytes Null = 0 ∷ []
value_bytes (Int z) = number_bytes z
value_bytes (Text t) = 2 ∷ length t ∷ t

-- values one behind another
abbrev pub values_bytes : List Value → List ℕ
values_bytes values = flat_map value_bytes values

-- numbers have 64 bits with a sign, and texts are UTF-8 of at most 255 bytes
abbrev pub Fits : Value → Type 0
Fits Null = ⊤
Fits (Int z) = FitsSigned w64 z
Fits (Text t) = IsUtf8 t × (length t ≤ 255)

-- each value fits
abbrev pub AllFit : List Value → Type 0
AllFit values = AllByRecursion Fits values

-- bytes are those of values
pub record ArePacked (values : List Value) (bytes : List ℕ) : Type 0 where
  pub bytes_are : bytes ≡ values_bytes values
  pub fit : AllFit values

-- a row: how many bytes its values have, as a number has its bytes, and these
abbrev pub row_bytes : List Value → List ℕ
row_bytes row = number_bytes (pos (length (values_bytes row))) ++ values_bytes row

-- rows one behind another
abbrev pub rows_bytes : List (List Value) → List ℕ
rows_bytes rows = flat_map row_bytes rows

-- bytes are those of rows
pub record AreRowsPacked (rows : List (List Value)) (bytes : List ℕ) : Type 0 where
  pub bytes_are : bytes ≡ rows_bytes rows
  pub fit : AllByRecursion AllFit rows

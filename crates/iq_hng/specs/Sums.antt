-- Sums of the numbers of some rows.
use Rattle.std.specs.Prelude.{◌≡◌, ℕ, ◌+◌, ◌%◌, ◌^◌, ℤ, pos, ◌+ℤ◌, Bool, true, false, List, [], ◌∷◌, Option, Some, None}
use Rattle.std.specs.List.{count_by}
use Rattle.iq_base.specs.declared.values.Value.{Value}
use Rattle.iq_base.specs.declared.values.Value.TheVariants.{Null, Int, Text}
use Rattle.iq_bitmap.specs.Bits.{both}
use Rattle.iq_pages.specs.Pages.{Pages}
use Rattle.iq_hng.specs.declared.hng.Hng.{Hng}
use Rattle.iq_hng.specs.Keys.{bits_of, key_of}
use Rattle.iq_hng.specs.Slices.{plane_of, Stands}

-- the number of a value; NULL adds nothing
abbrev pub number_of : Value → ℤ
number_of Null = pos 0
number_of (Int z) = z
number_of (Text t) = pos 0

-- the sum of the numbers of the rows that are set
abbrev pub sum_on : List Bool → List Value → ℤ
sum_on [] vs = pos 0
sum_on (b ∷ bs) [] = pos 0
sum_on (true ∷ bs) (v ∷ vs) = number_of v +ℤ sum_on bs vs
sum_on (false ∷ bs) (v ∷ vs) = sum_on bs vs

-- whatever numbers the index stands for, this is the sum of those of the rows that are set
abbrev pub GivesSum : Hng → (ℕ → Option Pages) → List Bool → ℤ → Type 0
GivesSum hng told found sum = (values : List Value) → Stands hng told values → sum ≡ sum_on found values

-- COUNTED PLANE BY PLANE

-- how many of the rows that are set are in a plane
abbrev pub count_on : ℕ → ℕ → List Bool → List Value → ℕ
count_on bits j found vs = count_by (λ (on : Bool). on) (both (plane_of bits vs j) found)

abbrev pub GivesCount : Hng → (ℕ → Option Pages) → ℕ → List Bool → ℕ → Type 0
GivesCount hng told j found count = (values : List Value) → Stands hng told values → count ≡ count_on (bits_of hng.width) j found values

-- the lowest j bits of a key
abbrev pub low_key : ℕ → Option ℕ → ℕ
low_key j None = 0
low_key j (Some n) = n % 2 ^ j

-- the sum of the lowest j bits of the keys of the rows that are set
abbrev pub low_sum : ℕ → ℕ → List Bool → List Value → ℕ
low_sum bits j [] vs = 0
low_sum bits j (b ∷ bs) [] = 0
low_sum bits j (true ∷ bs) (v ∷ vs) = low_key j (key_of bits v) + low_sum bits j bs vs
low_sum bits j (false ∷ bs) (v ∷ vs) = low_sum bits j bs vs

abbrev pub GivesLow : Hng → (ℕ → Option Pages) → ℕ → List Bool → ℕ → Type 0
GivesLow hng told j found sum = (values : List Value) → Stands hng told values → sum ≡ low_sum (bits_of hng.width) j found values

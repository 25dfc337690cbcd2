-- Numbers of so many bits, moved up by half so that none is negative, and their bits.
use Rattle.std.specs.Prelude.{◌≤ℤ◌, ◌<ℤ◌, ℕ, zero, suc, ◌-◌, ◌/◌, ◌%◌, ◌^◌, ℤ, pos, ◌+ℤ◌, neg_ℤ, ⊤, Bool, false, nat_eq, unsigned_abs, Option, Some, None, is_some}
use Rattle.iq_base.specs.declared.values.Kind.{Kind}
use Rattle.iq_base.specs.declared.values.Kind.TheVariants as kinds
use Rattle.iq_base.specs.declared.values.Value.{Value}
use Rattle.iq_base.specs.declared.values.Value.TheVariants.{Null, Int, Text}
use Rattle.iq_hng.specs.declared.hng.Width.{Width}
use Rattle.iq_hng.specs.declared.hng.Width.TheVariants as widths

-- how many bits a number has
abbrev pub bits_of : Width → ℕ
bits_of widths.Int = 32
bits_of widths.Big = 64

-- the kind of a column of such numbers
abbrev pub kind_of : Width → Kind
kind_of widths.Int = kinds.Int
kind_of widths.Big = kinds.Big

-- half of the numbers of so many bits
abbrev pub half : ℕ → ℕ
half bits = 2 ^ (bits - 1)

-- a number moved up by half
abbrev pub lifted : ℕ → ℤ → ℕ
lifted bits z = unsigned_abs (z +ℤ pos (half bits))

-- a number of so many bits
pub record IsWithin (bits : ℕ) (z : ℤ) : Type 0 where
  pub low : neg_ℤ (pos (half bits)) ≤ℤ z
  pub high : z <ℤ pos (half bits)

-- NULL, or such a number
abbrev pub IsSlice : ℕ → Value → Type 0
IsSlice bits Null = ⊤
IsSlice bits (Int z) = IsWithin bits z
IsSlice bits (Text t) = ⊥

-- what stands for a value: nothing for NULL
abbrev pub key_of : ℕ → Value → Option ℕ
key_of bits Null = None
key_of bits (Int z) = Some (lifted bits z)
key_of bits (Text t) = None

-- BITS

-- bit j of a number, the least first
abbrev pub bit_of : ℕ → ℕ → Bool
bit_of j n = nat_eq (n / 2 ^ j % 2) 1

abbrev pub key_bit : ℕ → Option ℕ → Bool
key_bit j None = false
key_bit j (Some n) = bit_of j n

-- the bit of a key in a plane: whether there is one, and then its bits, the least first
abbrev pub plane_bit : ℕ → Option ℕ → Bool
plane_bit zero key = is_some key
plane_bit (suc j) key = key_bit j key

-- the bit of a value in a plane
abbrev pub slice_bit : ℕ → ℕ → Value → Bool
slice_bit bits j v = plane_bit j (key_of bits v)

-- Numbers in cells: the bytes that are read are those of the number that they give.
use Rattle.std.proofs.Common.{◌≡◌, ℕ, ℤ, ◌<◌, ◌^◌, List, length, slice_index, ap, ◌∙◌, arith, w32, w64}
use Rattle.std.specs.Int.{cast_signed, cast_unsigned, to_le_bytes, from_le_bytes}
use Rattle.std.proofs.lemmas.Nat.{le_bytes_4, le_bytes_8}
use Rattle.std.proofs.lemmas.Int.{of_z-to_z}
use Rattle.byteorder.specs.Endian.{little_number}
use Rattle.byteorder.specs.Numbers.{little_from-lt}

-- both words for a number of four bytes mean the same
number_4 : (bs : List ℕ) → little_number 4 bs ≡ from_le_bytes w32 bs
number_4 bs = omega arith

-- both words for a number of eight bytes mean the same
number_8 : (bs : List ℕ) → little_number 8 bs ≡ from_le_bytes w64 bs
number_8 bs = omega arith

-- four bytes are those of the number with a sign that they give
pub bytes_of_int : (bs : List ℕ) (n : ℤ) → length bs ≡ 4 → ((i : ℕ) → slice_index bs i < 256) → n ≡ cast_signed w32 (little_number 4 bs) → to_le_bytes w32 (cast_unsigned w32 n) ≡ bs
bytes_of_int bs n len small is =
    let fits : little_number 4 bs < 2 ^ 32 = little_from-lt 0 4 bs small in
    ap (λ (z : ℤ). to_le_bytes w32 (cast_unsigned w32 z)) is
    ∙ ap (to_le_bytes w32) (of_z-to_z w32 (little_number 4 bs) fits)
    ∙ le_bytes_4 bs (little_number 4 bs) len small (number_4 bs)

-- eight bytes are those of the number with a sign that they give
pub bytes_of_big : (bs : List ℕ) (n : ℤ) → length bs ≡ 8 → ((i : ℕ) → slice_index bs i < 256) → n ≡ cast_signed w64 (little_number 8 bs) → to_le_bytes w64 (cast_unsigned w64 n) ≡ bs
bytes_of_big bs n len small is =
    let fits : little_number 8 bs < 2 ^ 64 = little_from-lt 0 8 bs small in
    ap (λ (z : ℤ). to_le_bytes w64 (cast_unsigned w64 z)) is
    ∙ ap (to_le_bytes w64) (of_z-to_z w64 (little_number 8 bs) fits)
    ∙ le_bytes_8 bs (little_number 8 bs) len small (number_8 bs)

-- Lists of bits, as callers see a bitmap and a page of one.
use Rattle.std.specs.Prelude.{◌≡◌, ◌<◌, ◌≤◌, ℕ, ◌+◌, ◌*◌, ◌/◌, ◌%◌, Bool, true, false, ◌&&◌, ◌||◌, not, ◌==◌, List, [], ◌∷◌, length, map, slice_index, slice_index_or}
use Rattle.iq_bitmap.specs.declared.page_words.TheConstants.{CHUNK_ROWS}
use Rattle.std.specs.Int.{bit_at}
use Rattle.std.specs.List.{range_with_len}
use Rattle.std.specs.Simd.Lanes.{zip2, put_chunk}

-- bit i of a list of numbers of `width` bits each: bit i mod width, least first, of number i div width
abbrev pub bit_of : ℕ → List ℕ → ℕ → Bool
bit_of width numbers i = bit_at (slice_index numbers (i / width)) (i % width) == 1

-- the first n bits of such a list
unfoldable pub bits_of : ℕ → List ℕ → ℕ → List Bool
bits_of width numbers n = map (bit_of width numbers) (range_with_len 0 n)

-- the rows that are set in both
abbrev pub both : List Bool → List Bool → List Bool
both = zip2 (λ a b. a && b)

-- the rows that are set in either
abbrev pub either : List Bool → List Bool → List Bool
either = zip2 (λ a b. a || b)

-- the rows that are set in the first and not in the second
abbrev pub difference : List Bool → List Bool → List Bool
difference = zip2 (λ a b. a && not b)

-- the next row that is set, from a row on
pub record IsNextSet (bits : List Bool) (from row : ℕ) : Type 0 where
  pub onward : from ≤ row
  pub within : row < length bits
  pub on : slice_index_or bits row false ≡ true
  pub before : (i : ℕ) → from ≤ i → i < row → slice_index_or bits i false ≡ false

-- no row from this one on is set
abbrev pub HasNoneFrom : List Bool → ℕ → Type 0
HasNoneFrom bits from = (i : ℕ) → from ≤ i → slice_index_or bits i false ≡ false

-- the rows that are set, in order, where the first bit is row n
abbrev pub rows_from : ℕ → List Bool → List ℕ
rows_from n [] = []
rows_from n (true ∷ bits) = n ∷ rows_from (n + 1) bits
rows_from n (false ∷ bits) = rows_from (n + 1) bits

-- the bits of a page of 1,008 bytes
unfoldable pub page_bits : List ℕ → List Bool
page_bits page = bits_of 8 page CHUNK_ROWS

-- the rows of a chunk, of which each past the last is not set
unfoldable pub chunk_of : ℕ → List Bool → List Bool
chunk_of chunk bits = map (λ i. slice_index_or bits (chunk * CHUNK_ROWS + i) false) (range_with_len 0 CHUNK_ROWS)

-- the rows with other bits in the place of a chunk's, as far as there are rows
abbrev pub with_chunk : ℕ → List Bool → List Bool → List Bool
with_chunk chunk rows bits = put_chunk (chunk * CHUNK_ROWS) rows bits

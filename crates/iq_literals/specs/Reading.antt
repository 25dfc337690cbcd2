-- What the first of packed values is.
use Rattle.std.specs.Prelude.{◌≡◌, ◌<◌, ◌≤◌, ℕ, ◌+◌, ◌-◌, pos, List, length, take, drop, nat_eq, slice_index, if◌then◌else◌, IsUtf8}
use Rattle.std.specs.Int.{w64, cast_signed}
use Rattle.byteorder.specs.Endian.{little_number}
use Rattle.iq_base.specs.declared.values.Value.{Value}
use Rattle.iq_base.specs.declared.values.Value.TheVariants.{Null, Int, Text}

-- how many bytes the first value has, by its mark
abbrev pub size_in : List ℕ → ℕ
size_in bytes =
    if nat_eq (slice_index bytes 0) 1 then 9 else (if nat_eq (slice_index bytes 0) 2 then slice_index bytes 1 + 2 else 1)

-- the text behind a mark and its length
abbrev pub text_in : List ℕ → List ℕ
text_in bytes = take (slice_index bytes 1) (drop 2 bytes)

-- the first value, by its mark
abbrev pub value_in : List ℕ → Value
value_in bytes =
    if nat_eq (slice_index bytes 0) 0 then Null else (if nat_eq (slice_index bytes 0) 1 then Int (cast_signed w64 (little_number 8 (drop 1 bytes))) else (if nat_eq (slice_index bytes 0) 2 then Text (text_in bytes) else Int (pos (slice_index bytes 0 - 3))))

-- the first value lies within the bytes, and a text is UTF-8
pub record CanRead (bytes : List ℕ) : Type 0 where
  pub some : 0 < length bytes
  pub within : size_in bytes ≤ length bytes
  pub utf8 : slice_index bytes 0 ≡ 2 → IsUtf8 (text_in bytes)

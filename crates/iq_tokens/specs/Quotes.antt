-- Texts in quotes.
use Rattle.std.specs.Prelude.{ℕ, ◌+◌, Bool, ◌&&◌, if◌then◌else◌, List, [], ◌∷◌, length, Option, Some, None, nat_eq, nat_lt, nat_le, slice_index}
use Rattle.std.specs.Str.{is_utf8}
use Rattle.iq_tokens.specs.declared.quotes.Quoted.{Quoted}

-- a byte more before what stands in quotes, which took so many bytes
abbrev pub with_byte : ℕ → ℕ → Option Quoted → Option Quoted
with_byte b n None = None
with_byte b n (Some q) = Some (record { value = b ∷ q.value; bytes = n + q.bytes })

-- What stands behind an opening quote, up to the quote that closes it: two quotes are one of the value.
unfoldable pub quoted : List ℕ → Option Quoted
quoted [] = None
quoted (b ∷ []) = if nat_eq b 39 then Some (record { value = []; bytes = 1 }) else None
quoted (b ∷ c ∷ rest) =
    if nat_eq b 39
    then (if nat_eq c 39 then with_byte 39 2 (quoted rest) else Some (record { value = []; bytes = 1 }))
    else with_byte b 1 (quoted (c ∷ rest))

-- whether the byte stands at the place
abbrev pub is_at : List ℕ → ℕ → ℕ → Bool
is_at text at b = nat_lt at (length text) && nat_eq (slice_index text at) b

-- how many bytes stand at the place for one of the value: two at a doubled quote, and none at the quote that closes it
abbrev pub bytes_at : List ℕ → ℕ → ℕ
bytes_at text at = if nat_eq (slice_index text at) 39 then (if is_at text (at + 1) 39 then 2 else 0) else 1

-- these bytes as a value, if they are UTF-8
abbrev pub valid : List ℕ → ℕ → Option Quoted
valid value n = if is_utf8 value then Some (record { value = value; bytes = n }) else None

-- a value has at most 255 bytes, of UTF-8
abbrev pub kept : Option Quoted → Option Quoted
kept None = None
kept (Some q) = if nat_le (length q.value) 255 then valid q.value q.bytes else None

-- the value of a text in quotes, if it is one
abbrev pub value_of : Option Quoted → List ℕ
value_of None = []
value_of (Some q) = q.value

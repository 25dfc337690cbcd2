-- The bytes of a block: a header of 16 bytes, and a payload of 1,008.
use Rattle.std.specs.Prelude.{ℕ, Bool, ◌&&◌, ◌||◌, List, ◌++◌, drop, nat_eq, zero, suc, ◌+◌, [], ◌∷◌}
use Rattle.byteorder.specs.Endian.{little_number, little_bytes}

-- the number in the 4 bytes from a place on, the lowest first
unfoldable pub number_at : List ℕ → ℕ → ℕ
number_at block i = little_number 4 (drop i block)

-- so many numbers of 4 bytes each, from a place on
abbrev pub numbers_at : List ℕ → ℕ → ℕ → List ℕ
numbers_at block i zero = []
numbers_at block i (suc n) = number_at block i ∷ numbers_at block (i + 4) n

-- the 4 bytes of a number
unfoldable pub bytes_of : ℕ → List ℕ
bytes_of n = little_bytes 4 n

-- the first 4 bytes of each block, IQB1, as a number
unfoldable pub mark : ℕ
mark = 0x31425149

-- The five kinds of blocks: a root's body, its gate, a block of a table's descriptor, a map, whose header has a level, and a page.
abbrev pub body_kind : ℕ
body_kind = 1

abbrev pub gate_kind : ℕ
gate_kind = 2

abbrev pub descriptor_kind : ℕ
descriptor_kind = 3

abbrev pub map_kind : ℕ
map_kind = 4

abbrev pub page_kind : ℕ
page_kind = 5

-- a block's header is right: the mark, the kind with three zeros behind it, the block's own number, and no level unless it is
-- a map
abbrev pub has_header : ℕ → ℕ → List ℕ → Bool
has_header kind at block =
    nat_eq (number_at block 0) mark && nat_eq (number_at block 4) kind && nat_eq (number_at block 8) at
    && (nat_eq kind map_kind || nat_eq (number_at block 12) 0)

-- a header: the mark, the kind, the block's own number, and the level of a map, else 0
abbrev pub header : ℕ → ℕ → ℕ → List ℕ
header kind at level = (bytes_of mark ++ bytes_of kind) ++ (bytes_of at ++ bytes_of level)

-- a header and a payload
abbrev pub framed : ℕ → ℕ → ℕ → List ℕ → List ℕ
framed kind at level payload = header kind at level ++ payload

-- what a block holds behind its header
unfoldable pub payload_of : List ℕ → List ℕ
payload_of block = drop 16 block

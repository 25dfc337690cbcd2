-- Where roots stand, what they say, and which is the newest. Slot 0 is blocks 0 and 1, slot 1 is blocks 2 and 3: a body, then a gate.
use Rattle.std.specs.Prelude.{ℕ, ◌+◌, ◌*◌, ◌-◌, ◌%◌, ◌^◌, Bool, ◌&&◌, List, ◌++◌, length, drop, replicate, flat_map, nat_eq, nat_lt, nat_le, if◌then◌else◌, Option, Some, None}
use Rattle.byteorder.specs.Endian.{little_number, little_bytes}
use Rattle.iq_outside.specs.Devices.{block_of}
use Rattle.iq_block_store.specs.Frames.{number_at, numbers_at, bytes_of, has_header, framed, body_kind, gate_kind}
use Rattle.iq_root.specs.declared.root.Root.{Root}

-- the formats that count
abbrev pub least_format : ℕ
least_format = 1

abbrev pub most_format : ℕ
most_format = 2

-- the block of a slot's body, and that of its gate
abbrev pub body_place : ℕ → ℕ
body_place slot = 2 * slot

abbrev pub gate_place : ℕ → ℕ
gate_place slot = 2 * slot + 1

-- the number in the 8 bytes from a place on
unfoldable pub long_at : List ℕ → ℕ → ℕ
long_at block i = little_number 8 (drop i block)

-- what a body says: generation, format, count of blocks, count of tables, and their descriptors
abbrev pub root_of : List ℕ → Root
root_of body = record {
  generation = long_at body 16;
  format = number_at body 24;
  count = number_at body 28;
  tables = numbers_at body 36 (number_at body 32);
}

-- what a body may say in a slot: a generation from 1 on, below 2^63 and of the slot's parity, a format that counts, and at most
-- 64 tables
abbrev pub may_say : ℕ → List ℕ → Bool
may_say slot body =
    nat_le 1 (long_at body 16) && nat_lt (long_at body 16) (2 ^ 63) && nat_eq (long_at body 16 % 2) slot
    && nat_le least_format (number_at body 24) && nat_le (number_at body 24) most_format && nat_le (number_at body 32) 64

-- a slot is valid: both headers are right, both generations are equal, and the body may say what it says
abbrev pub is_valid : ℕ → List ℕ → List ℕ → Bool
is_valid slot body gate =
    has_header body_kind (body_place slot) body && has_header gate_kind (gate_place slot) gate
    && nat_eq (long_at body 16) (long_at gate 16) && may_say slot body

-- the root of a slot, if it is valid
abbrev pub slot_root : ℕ → List (List ℕ) → Option Root
slot_root slot blocks =
    if is_valid slot (block_of blocks (body_place slot)) (block_of blocks (gate_place slot))
    then Some (root_of (block_of blocks (body_place slot))) else None

-- of two roots the one of greater generation
abbrev pub newer : Option Root → Option Root → Option Root
newer None other = other
newer (Some a) None = Some a
newer (Some a) (Some b) = if nat_lt a.generation b.generation then Some b else Some a

-- the newest root of a store
abbrev pub newest : List (List ℕ) → Option Root
newest blocks = newer (slot_root 0 blocks) (slot_root 1 blocks)

-- zeros
unfoldable pub zeros : ℕ → List ℕ
zeros n = replicate n 0

-- the 8 bytes of a number
unfoldable pub long_bytes : ℕ → List ℕ
long_bytes n = little_bytes 8 n

-- the payload of a body
abbrev pub body_page : Root → List ℕ
body_page root =
    long_bytes root.generation ++ (bytes_of root.format ++ (bytes_of root.count ++ (bytes_of (length root.tables)
    ++ (flat_map bytes_of root.tables ++ zeros (988 - 4 * length root.tables)))))

-- the payload of a gate; 0 is closed
abbrev pub gate_page : ℕ → List ℕ
gate_page generation = long_bytes generation ++ zeros 1000

-- the body and the gate of a slot
abbrev pub body_block : ℕ → Root → List ℕ
body_block slot root = framed body_kind (body_place slot) 0 (body_page root)

abbrev pub gate_block : ℕ → ℕ → List ℕ
gate_block slot generation = framed gate_kind (gate_place slot) 0 (gate_page generation)

-- The blocks of a descriptor, and what their bytes say. A descriptor has 1 to 4 blocks: its head, and up to three others whose
-- addresses the head has before its text.
use Rattle.std.specs.Prelude.{ℕ, Bool, true, ◌&&◌, List, [], ◌∷◌, ◌++◌, length, drop, flat_map, replicate, nat_eq, nat_le, if◌then◌else◌}
use Rattle.std.specs.List.{list_all}
use Rattle.std.specs.Cmp.Lexicographic.{pointwise}
use Rattle.iq_outside.specs.Devices.{block_of}
use Rattle.iq_block_store.specs.Frames.{descriptor_kind, numbers_at, has_header, payload_of}
use Rattle.iq_block_map.specs.Maps.{is_address}
use Rattle.iq_base.specs.declared.descriptors.Descriptor.{Descriptor}
use Rattle.iq_catalog.specs.Pages.{joined, descriptor_bytes}
use Rattle.iq_catalog.specs.Reading.{descriptor_of}
use Rattle.iq_catalog.specs.Storable.{is_name, is_ref, are_columns, are_indexes, are_distinct, column_names, index_names, slot_limit}

-- the addresses of a descriptor's other blocks, 0 where there is none
abbrev pub more_of : List ℕ → List ℕ
more_of head = numbers_at head 16 3

-- the blocks of the descriptor whose head is in this block, 0 where there is none
abbrev pub blocks_at : List (List ℕ) → ℕ → List ℕ
blocks_at all head = head ∷ more_of (block_of all head)

-- the page of a head, with 0 for the three addresses
abbrev pub head_page : List ℕ → List ℕ
head_page block = replicate 12 0 ++ drop 28 block

-- the page in another block of a descriptor, if there is one
abbrev pub other_page : List (List ℕ) → ℕ → List (List ℕ)
other_page all at = if nat_eq at 0 then [] else payload_of (block_of all at) ∷ []

-- the pages of the descriptor whose head is in this block
abbrev pub pages_at : List (List ℕ) → ℕ → List (List ℕ)
pages_at all head = head_page (block_of all head) ∷ flat_map (other_page all) (more_of (block_of all head))

-- what pages say, read as a descriptor: no more is claimed of it than that
unfoldable pub said_by : List (List ℕ) → Descriptor
said_by pages = descriptor_of (drop 12 (joined pages))

-- the table whose descriptor has its head in this block
unfoldable pub table_at : List (List ℕ) → ℕ → Descriptor
table_at all head = said_by (pages_at all head)

-- no address stands behind one that is 0
abbrev pub are_packed : List ℕ → Bool
are_packed [] = true
are_packed (at ∷ rest) = if nat_eq at 0 then list_all (nat_eq 0) rest else are_packed rest

-- a descriptor may be stored: each of its fields keeps to its rule
unfoldable pub may_be_stored : Descriptor → Bool
may_be_stored t =
    is_name t.name && nat_le t.slots (slot_limit t) && is_ref t.existence && nat_le 1 (length t.columns) && nat_le (length t.columns) 32
    && nat_le (length t.indexes) 32 && are_columns t.columns && are_indexes (length t.columns) t.indexes
    && are_distinct (column_names t.columns) && are_distinct (index_names t.indexes)

-- pages are those of a descriptor that may be stored, to the last byte
abbrev pub is_descriptor : List (List ℕ) → Bool
is_descriptor pages = may_be_stored (said_by pages) && pointwise nat_eq (joined pages) (descriptor_bytes (said_by pages))

-- of some addresses those that aren't 0
abbrev pub named : List ℕ → List ℕ
named [] = []
named (at ∷ more) = if nat_eq at 0 then named more else at ∷ named more

-- the blocks of the descriptor whose head is in this block: 1 to 4
abbrev pub parts_at : List (List ℕ) → ℕ → List ℕ
parts_at all head = head ∷ named (more_of (block_of all head))

-- a head's addresses are right, in a store of so many blocks: none stands behind a 0, and the others lead to blocks behind the roots
abbrev pub are_others : ℕ → List ℕ → Bool
are_others count more = are_packed more && list_all (is_address count) (named more)

-- a block is the head of a descriptor: its address, its header, and its addresses
abbrev pub is_head : List (List ℕ) → ℕ → Bool
is_head all head =
    is_address (length all) head && has_header descriptor_kind head (block_of all head) && are_others (length all) (more_of (block_of all head))

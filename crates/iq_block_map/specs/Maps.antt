-- The bytes of a map: 252 numbers of 4 bytes behind its header. Those in use name blocks of the store, the others are zero.
use Rattle.iq_block_map.specs.declared.map_bytes.TheConstants.{ROOM}
use Rattle.std.specs.Prelude.{◌≡◌, ℕ, Bool, true, ◌&&◌, List, take, drop, nat_eq, nat_lt, nat_le}
use Rattle.std.specs.List.{list_all, flat_map}
use Rattle.iq_outside.specs.Devices.{block_of}
use Rattle.iq_block_map.specs.declared.map_bytes.RawMap.{RawMap}
use Rattle.iq_block_store.specs.Frames.{number_at, numbers_at, bytes_of, map_kind, has_header, framed}

-- the numbers of a map
unfoldable pub places : List ℕ → List ℕ
places block = numbers_at block 16 ROOM

-- the number of a block that may be a map or a page: one behind the roots, in a store of so many blocks
abbrev pub is_address : ℕ → ℕ → Bool
is_address count a = nat_le 4 a && nat_lt a count

-- the numbers of a map are right: so many name blocks, and the others are zero
abbrev pub are_places : ℕ → ℕ → List ℕ → Bool
are_places count used ps = list_all (is_address count) (take used ps) && list_all (nat_eq 0) (drop used ps)

-- the level of a map and its numbers, right or not
abbrev pub raw_map : List ℕ → RawMap
raw_map block = record { level = number_at block 12; numbers = places block }

-- they are those of a map of a level with so many numbers in use
abbrev pub is_right_map : ℕ → ℕ → ℕ → RawMap → Bool
is_right_map count level used raw = nat_eq raw.level level && are_places count used raw.numbers

-- a block is a map of a level with so many numbers in use
abbrev pub is_map : ℕ → ℕ → ℕ → ℕ → List ℕ → Bool
is_map count level used at block = has_header map_kind at block && is_right_map count level used (raw_map block)

-- this was read of a block of the kind of maps
pub record IsRawMap (raw : RawMap) (at : ℕ) (all : List (List ℕ)) : Type 0 where
  pub header : has_header map_kind at (block_of all at) ≡ true
  pub is : raw ≡ raw_map (block_of all at)

-- the block of a map
abbrev pub map_block : ℕ → ℕ → List ℕ → List ℕ
map_block level at ps = framed map_kind at level (flat_map bytes_of ps)

-- The pages of an object. Up to 252 pages are named by one map of level 1, its leaf; more by leaves that a map of level 2 names,
-- each full but the last.
use Rattle.iq_block_map.specs.declared.map_bytes.TheConstants.{ROOM}
use Rattle.std.specs.Prelude.{◌≡◌, ℕ, ◌+◌, ◌-◌, ◌*◌, ◌/◌, ◌%◌, min, Bool, true, false, ◌&&◌, List, [], ◌∷◌, ◌++◌, length, take, map, nat_eq, nat_lt, nat_le, if◌then◌else◌, slice_index, Result, Ok, Err, Option, Some, None}
use Rattle.std.specs.List.{list_all}
use Rattle.iq_outside.specs.Devices.{block_of}
use Rattle.iq_block_store.specs.Frames.{page_kind, has_header, payload_of}
use Rattle.iq_base.specs.declared.refs.Ref.{Ref}
use Rattle.iq_block_map.specs.Maps.{places, is_map}

-- how many leaves so many pages take
abbrev pub leaf_count : ℕ → ℕ
leaf_count pages = (pages + 251) / ROOM

-- how many pages a leaf names, of so many
abbrev pub used_in : ℕ → ℕ → ℕ
used_in pages k = min ROOM (pages - ROOM * k)

-- what a map names, or its block where it isn't right
abbrev pub map_at : List (List ℕ) → ℕ → ℕ → ℕ → Result (List ℕ) ℕ
map_at all level used at =
    if is_map (length all) level used at (block_of all at) then Ok (take used (places (block_of all at))) else Err at

-- the leaves of an object, or the block of its topmost map where that isn't right
abbrev pub leaves_of : List (List ℕ) → Ref → Result (List ℕ) ℕ
leaves_of all object =
    if nat_eq object.pages 0 then Ok []
    else (if nat_le object.pages ROOM then Ok (object.root ∷ []) else map_at all 2 (leaf_count object.pages) object.root)

-- two lists, one after the other, or the first fault
abbrev pub joined : Result (List ℕ) ℕ → Result (List ℕ) ℕ → Result (List ℕ) ℕ
joined (Err b) ys = Err b
joined (Ok xs) (Err b) = Err b
joined (Ok xs) (Ok ys) = Ok (xs ++ ys)

-- one block where maps are wanted, or none
abbrev pub front : Bool → ℕ → List ℕ
front maps at = if maps then at ∷ [] else []

-- the pages that leaves name, of so many, behind each leaf itself where maps are wanted; or the first leaf that isn't right
abbrev pub listed : Bool → List (List ℕ) → ℕ → List ℕ → Result (List ℕ) ℕ
listed maps all pages [] = Ok []
listed maps all pages (leaf ∷ leaves) =
    joined (joined (Ok (front maps leaf)) (map_at all 1 (min ROOM pages) leaf)) (listed maps all (pages - ROOM) leaves)

abbrev pub listed_in : Bool → List (List ℕ) → ℕ → Result (List ℕ) ℕ → Result (List ℕ) ℕ
listed_in maps all pages (Err b) = Err b
listed_in maps all pages (Ok leaves) = listed maps all pages leaves

-- the map above the leaves, where maps are wanted and there is one
abbrev pub top_of : Bool → Ref → List ℕ
top_of maps object = front (maps && nat_lt ROOM object.pages) object.root

-- the blocks of an object's pages in order, and where they are wanted its maps, each before what it names; or the first map that
-- isn't right
abbrev pub walked : Bool → List (List ℕ) → Ref → Result (List ℕ) ℕ
walked maps all object = joined (Ok (top_of maps object)) (listed_in maps all object.pages (leaves_of all object))

-- the blocks of an object's pages
abbrev pub addresses_of : List (List ℕ) → Ref → Result (List ℕ) ℕ
addresses_of = walked false

-- the blocks that an object reaches
abbrev pub blocks_of : List (List ℕ) → Ref → Result (List ℕ) ℕ
blocks_of = walked true

-- the maps of an object, the topmost one before its leaves, or the topmost one where that isn't right
abbrev pub maps_of : List (List ℕ) → Ref → Result (List ℕ) ℕ
maps_of all object = joined (Ok (top_of true object)) (leaves_of all object)

abbrev pub at_place : ℕ → Result (List ℕ) ℕ → Result ℕ ℕ
at_place i (Err b) = Err b
at_place i (Ok xs) = Ok (slice_index xs i)

abbrev pub address_in : List (List ℕ) → ℕ → ℕ → Result (List ℕ) ℕ → Result ℕ ℕ
address_in all pages n (Err b) = Err b
address_in all pages n (Ok leaves) =
    at_place (n % ROOM) (map_at all 1 (used_in pages (n / ROOM)) (slice_index leaves (n / ROOM)))

-- the block of one page, or the first map on the way to it that isn't right
abbrev pub address_of : List (List ℕ) → Ref → ℕ → Result ℕ ℕ
address_of all object n = address_in all object.pages n (leaves_of all object)

-- what the blocks hold, where all are pages
abbrev pub contents : List (List ℕ) → Result (List ℕ) ℕ → Option (List (List ℕ))
contents all (Err b) = None
contents all (Ok xs) =
    if list_all (λ a. has_header page_kind a (block_of all a)) xs then Some (map (λ a. payload_of (block_of all a)) xs) else None

-- the pages of an object, where its maps and pages are right
abbrev pub pages_of : List (List ℕ) → Ref → Option (List (List ℕ))
pages_of all object = contents all (addresses_of all object)

-- this page of an object is in this block, which holds it
pub record IsPageAt (object : Ref) (n at : ℕ) (page : List ℕ) (all : List (List ℕ)) : Type 0 where
  pub address : address_of all object n ≡ Ok at
  pub header : has_header page_kind at (block_of all at) ≡ true
  pub content : page ≡ payload_of (block_of all at)

-- a block is a page with this content
pub record HoldsPage (page : List ℕ) (at : ℕ) (all : List (List ℕ)) : Type 0 where
  pub header : has_header page_kind at (block_of all at) ≡ true
  pub content : page ≡ payload_of (block_of all at)

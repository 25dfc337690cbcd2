-- What callers owe of references, and what maps hold.
use Rattle.iq_block_map.specs.declared.map_bytes.TheConstants.{ROOM}
use Rattle.iq_base.specs.declared.sizes.TheConstants.{MOST_PAGES}
use Rattle.std.specs.Prelude.{◌≡◌, ℕ, ◌≤◌, ◌<◌, true, List, length, slice_index, Option, Some}
use Rattle.iq_base.specs.declared.refs.Ref.{Ref}
use Rattle.iq_block_map.specs.Maps.{are_places}

-- it holds of the blocks of a device, where it tells them
abbrev pub WhereTold : Option (List (List ℕ)) → (List (List ℕ) → Type 0) → Type 0
WhereTold told Holds = (all : List (List ℕ)) → told ≡ Some all → Holds all

-- a reference may stand in a store: at most 63,504 pages, and where it has any, its root is a block behind the roots
pub record IsIn (told : Option (List (List ℕ))) (object : Ref) : Type 0 where
  pub few : object.pages ≤ MOST_PAGES
  pub above : 1 ≤ object.pages → 4 ≤ object.root
  pub below : 1 ≤ object.pages → (all : List (List ℕ)) → told ≡ Some all → object.root < length all

-- a block that may be a map or a page: behind the roots, and in the store where the device tells its blocks
pub record IsPlace (told : Option (List (List ℕ))) (block : ℕ) : Type 0 where
  pub above : 4 ≤ block
  pub below : (all : List (List ℕ)) → told ≡ Some all → block < length all

-- numbers of a map of which so many are in use
pub record MayBe (count used : ℕ) (ps : List ℕ) : Type 0 where
  pub size : length ps ≡ ROOM
  pub places : are_places count used ps ≡ true

-- numbers of a map that were read: so many are in use, and name blocks behind the roots, and of the store where it is told
pub record HasPlaces (told : Option (List (List ℕ))) (used : ℕ) (ps : List ℕ) : Type 0 where
  pub may : (all : List (List ℕ)) → told ≡ Some all → MayBe (length all) used ps
  pub above : (k : ℕ) → k < used → 4 ≤ slice_index ps k

-- Leaves in the pages of one object, and the directory that names them, in the pages of another.
use Rattle.std.specs.Prelude.{◌≡◌, ◌<◌, ◌≤◌, ℕ, ◌+◌, ◌*◌, ◌/◌, ◌^◌, List, [], ◌++◌, length, take, drop, replicate, slice_index_or}
use Rattle.std.specs.Int.{w32, to_le_bytes, div_ceil}
use Rattle.std.specs.List.{All, flat_map}
use Rattle.iq_base.specs.declared.values.Kind.{Kind}
use Rattle.iq_base.specs.Cells.{width}
use Rattle.iq_pages.specs.Pages.{Pages}
use Rattle.iq_pieces.specs.Objects.{page_at}
use Rattle.iq_hg_leaves.specs.declared.entries.Entry.{Entry}
use Rattle.iq_hg_leaves.specs.Entries.{IsEntry, entry_at}
use Rattle.iq_hg_leaves.specs.Leaves.{Leaf, link_to, AreLinked, AreFilled, HavePages}
use Rattle.iq_hg_leaves.specs.Bytes.{most_in_leaf, entry_bytes, IsLeaf}
use Rattle.iq_hg.specs.declared.places.Place.{Place}

-- LEAVES

-- a page of an object holds a leaf
abbrev pub leaf_on : Kind → Pages → ℕ → ℕ → List Entry → Type 0
leaf_on kind pages page next entries = IsLeaf kind (page_at page pages) next entries

-- the pages of an object are those of leaves: each is on its page and names the next, the last names none; page 0 is the first in
-- order; no page is without a leaf; no leaf is too long or too short
pub record AreLeaves (kind : Kind) (pages : Pages) (leaves : List Leaf) : Type 0 where
  pub linked : AreLinked (leaf_on kind pages) leaves 0
  pub first : link_to leaves 1 ≡ 1
  pub have : HavePages (length pages) leaves
  pub every : length leaves ≡ length pages
  pub filled : AreFilled (most_in_leaf kind) leaves

-- THE DIRECTORY

-- how the directory names a leaf
abbrev pub place_of : Leaf → Place
place_of leaf = record { first = entry_at 0 leaf.entries; page = leaf.page }

-- a place by which a leaf of a column of the kind is named
pub record IsPlace (kind : Kind) (place : Place) : Type 0 where
  pub first : IsEntry kind place.first
  pub small : place.page < 2 ^ 32

-- the bytes of a place: the first entry of its leaf, and the leaf's page
abbrev pub place_bytes : Kind → Place → List ℕ
place_bytes kind place = entry_bytes kind place.first ++ to_le_bytes w32 place.page

-- the bytes of places, one behind the other
abbrev pub places_bytes : Kind → List Place → List ℕ
places_bytes kind places = flat_map (place_bytes kind) places

-- how many leaves a page of the directory names at most
abbrev pub most_places : Kind → ℕ
most_places kind = 1004 / (width kind + 8)

-- a page begins as one of the directory with these places; the bytes behind may be any
pub record BeginsAsPlaces (kind : Kind) (page : List ℕ) (places : List Place) : Type 0 where
  pub rest : List ℕ
  pub bytes_are : page ≡ to_le_bytes w32 (length places) ++ (places_bytes kind places ++ rest)
  pub each : All (IsPlace kind) places
  pub fits : length places ≤ most_places kind

-- a page of the directory: all bytes behind the places are zero
pub record ArePlacesOn (kind : Kind) (page : List ℕ) (places : List Place) : Type 0 where
  pub begins : BeginsAsPlaces kind page places
  pub blank : begins.rest ≡ replicate (length begins.rest) 0

-- the places that page p of the directory has: all pages but the last are full
abbrev pub places_on : Kind → ℕ → List Place → List Place
places_on kind p places = take (most_places kind) (drop (p * most_places kind) places)

-- the pages of an object are a directory of these places
pub record IsDirectory (kind : Kind) (pages : Pages) (places : List Place) : Type 0 where
  pub count : length pages ≡ div_ceil (length places) (most_places kind)
  pub held : (p : ℕ) → p < length pages → ArePlacesOn kind (page_at p pages) (places_on kind p places)

-- a place of a list; past its end, any
abbrev pub place_at : ℕ → List Place → Place
place_at i places = slice_index_or places i (record { first = entry_at 0 []; page = 0 })

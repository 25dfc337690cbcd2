-- An object that was opened: in which blocks its pages and maps are, and which maps are still to be written.
use Rattle.iq_block_map.specs.declared.map_bytes.TheConstants.{ROOM}
use Rattle.iq_base.specs.declared.sizes.TheConstants.{MOST_PAGES}
use Rattle.std.specs.Prelude.{◌≡◌, ℕ, ◌+◌, ◌<◌, ◌≤◌, ◌/◌, ◌^◌, true, false, List, [], ◌∷◌, ◌++◌, length, take, nat_eq, nat_le, nat_lt, ◌&&◌, if◌then◌else◌, cond, slice_index, slice_set, Ok}
use Rattle.std.specs.List.{All}
use Rattle.iq_base.specs.declared.refs.Ref.{Ref}
use Rattle.iq_block_map.specs.Maps.{is_address}
use Rattle.iq_block_map.specs.Objects.{leaf_count, used_in, map_at}
use Rattle.iq_block_map.specs.Takers.{taken_of}
use Rattle.iq_block_map.specs.Writing.{holds}
use Rattle.iq_block_map.specs.Editing.{piece}
use Rattle.iq_block_map.specs.Laws.{times}

-- The blocks of its pages in order; the leaves that name them, and the map above these where there is one, each 0 where it is to be
-- written; and the blocks that were its own, or were taken for it, and are no longer.
pub record Held : Type 0 where
  pub pages : List ℕ
  pub leaves : List ℕ
  pub top : ℕ
  pub lost : List ℕ

-- its lists fit one another, and its blocks are behind the roots
pub record IsHeld (o : Held) : Type 0 where
  pub few : length o.pages ≤ MOST_PAGES
  pub size : length o.leaves ≡ leaf_count (length o.pages)
  pub pages_above : All (λ a. 4 ≤ a) o.pages
  pub leaves_above : All (λ a. 1 ≤ a → 4 ≤ a) o.leaves
  pub top_above : 1 ≤ o.top → 4 ≤ o.top
  pub low : length o.pages ≤ ROOM → o.top ≡ 0

-- It stands in a store whose blocks are these: its pages are blocks of the store, and each map that isn't to be written says what
-- it names. No block that it has or had is among those that may be taken.
pub record Stands (left : List ℕ) (o : Held) (all : List (List ℕ)) : Type 0 where
  pub fits : length all < 2 ^ 32
  pub pages : All (λ a. is_address (length all) a ≡ true) o.pages
  pub leaf_places : All (λ a. 1 ≤ a → is_address (length all) a ≡ true) o.leaves
  pub leaves : (k : ℕ) → k < length o.leaves → 1 ≤ slice_index o.leaves k
      → map_at all 1 (used_in (length o.pages) k) (slice_index o.leaves k) ≡ Ok (piece k o.pages)
  pub top_place : 1 ≤ o.top → is_address (length all) o.top ≡ true
  pub top : 1 ≤ o.top → map_at all 2 (length o.leaves) o.top ≡ Ok o.leaves
  pub free_pages : All (λ b. holds left b ≡ false) o.pages
  pub free_leaves : All (λ b. holds left b ≡ false) o.leaves
  pub free_top : holds left o.top ≡ false
  pub free_lost : All (λ b. holds left b ≡ false) o.lost

-- the blocks of a list in which 0 stands for none
abbrev pub written : List ℕ → List ℕ
written [] = []
written (b ∷ bs) = (if nat_eq b 0 then [] else b ∷ []) ++ written bs

-- the object with a page in another block
abbrev pub with_page : ℕ → ℕ → Held → Held
with_page n at o = record {
  pages = slice_set o.pages n at;
  leaves = slice_set o.leaves (n / ROOM) 0;
  top = 0;
  lost = o.lost ++ written (slice_index o.pages n ∷ slice_index o.leaves (n / ROOM) ∷ o.top ∷ []);
}

-- the object with a page more
abbrev pub with_more : ℕ → Held → Held
with_more at o = record {
  pages = o.pages ++ at ∷ [];
  leaves = take (length o.pages / ROOM) o.leaves ++ 0 ∷ [];
  top = 0;
  lost = o.lost ++ written (slice_index o.leaves (length o.pages / ROOM) ∷ o.top ∷ []);
}

-- the object without pages
abbrev pub cleared : Held → Held
cleared o = record {
  pages = [];
  leaves = [];
  top = 0;
  lost = ((o.lost ++ written o.pages) ++ written o.leaves) ++ written (o.top ∷ []);
}

-- the object with other blocks lost
abbrev pub with_lost : List ℕ → Held → Held
with_lost blocks o = record { pages = o.pages; leaves = o.leaves; top = o.top; lost = blocks }

-- the block of its topmost map, where that is written
abbrev pub root_of : Held → ℕ
root_of o = if nat_eq (length o.pages) 0 then 0 else (if nat_le (length o.pages) ROOM then slice_index o.leaves 0 else o.top)

-- the reference of an object whose maps are written
abbrev pub ref_of : Held → Ref
ref_of o = record { root = root_of o; pages = length o.pages }

-- the leaves of an object, by its reference and the numbers that were read of the map above them
abbrev pub leaves_in : Ref → List ℕ → List ℕ
leaves_in object ps =
    if nat_le object.pages ROOM then (if nat_eq object.pages 0 then [] else object.root ∷ []) else take (leaf_count object.pages) ps

-- how many maps are to be written
abbrev pub unwritten : Held → ℕ
unwritten o = times 0 o.leaves + cond (nat_lt ROOM (length o.pages) && nat_eq o.top 0) 1 0

-- all blocks that it has or had
abbrev pub blocks_held : Held → List ℕ
blocks_held o = o.top ∷ (o.leaves ++ (o.pages ++ o.lost))

-- What it has and had is what it had before and what was taken since, each block as often: none is lost and none comes twice. A 0
-- stands for no block.
abbrev pub Moves : List ℕ → List ℕ → Held → Held → Type 0
Moves before after old new =
    (b : ℕ) → 1 ≤ b → times b (blocks_held new) ≡ times b (blocks_held old) + times b (taken_of before after)

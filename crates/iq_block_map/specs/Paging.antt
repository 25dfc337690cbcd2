-- One page of an object written: it takes the place of another, or stands behind all.
use Rattle.std.specs.Prelude.{◌≡◌, ◌⊎◌, ℕ, ◌+◌, ◌<◌, ◌≤◌, List, [], ◌∷◌, ◌++◌, length, slice_index, slice_set, Option, Some}
use Rattle.iq_block_store.specs.Frames.{page_kind, framed}
use Rattle.iq_base.specs.declared.refs.Ref.{Ref}
use Rattle.iq_block_map.specs.Objects.{leaf_count, pages_of}
use Rattle.iq_block_map.specs.Editing.{maps_needed, AreApart, StandsApart, StandsWhole, ReadsRight, IsBadMap, NeedsMap, HasRemapped}

-- what a page written does: as an edit, by the block that the page is put in; to the list of blocks; and to the pages
pub record Paging : Type 0 where
  pub changed : ℕ → List (ℕ × ℕ)
  pub added : ℕ → List ℕ
  pub blocks : List ℕ → ℕ → List ℕ
  pub pages : List (List ℕ) → List ℕ → List (List ℕ)

-- a page in the place of another
abbrev pub replacing : ℕ → Paging
replacing n = record {
  changed = λ at. (n, at) ∷ [];
  added = λ at. [];
  blocks = λ xs at. slice_set xs n at;
  pages = λ ps page. slice_set ps n page;
}

-- a page behind all others
abbrev pub appending : Paging
appending = record {
  changed = λ at. [];
  added = λ at. at ∷ [];
  blocks = λ xs at. xs ++ at ∷ [];
  pages = λ ps page. ps ++ page ∷ [];
}

-- blocks after a page was put into the first of those that were left
abbrev pub put_first : List (List ℕ) → List ℕ → List ℕ → List (List ℕ)
put_first all left page = slice_set all (slice_index left 0) (framed page_kind (slice_index left 0) 0 page)

-- a block was taken for a page, and the object became one that has it, by the blocks that were left then
pub record PutsPage (with : ℕ → List ℕ) (all now : List (List ℕ)) (old new : Ref) (xs before after : List ℕ) : Type 0 where
  pub at : ℕ
  pub left : List ℕ
  pub first : before ≡ at ∷ left
  pub remapped : HasRemapped all now old new xs (with at) left after
  pub apart : AreApart now new after

-- a page was written: the maps that were read are right, the pages became those with it, and the maps are shared
pub record HasPaged (told told_now : Option (List (List ℕ))) (object : Ref) (w : Paging) (page before after : List ℕ) (new : Ref) : Type 0 where
  pub read : (all : List (List ℕ)) → StandsApart told object before all
      → ReadsRight object (w.changed (slice_index before 0)) (w.added (slice_index before 0)) all
  pub pages : (all now ps : List (List ℕ)) → StandsApart told object before all → pages_of all object ≡ Some ps → told_now ≡ Some now
      → pages_of now new ≡ Some (w.pages ps page)
  pub maps : (all now : List (List ℕ)) (xs : List ℕ) → StandsWhole told object before all xs → told_now ≡ Some now
      → PutsPage (w.blocks xs) all now object new xs before after

-- a map that was read once the page was put isn't right, as the device is after the call
abbrev pub TellsBadPaged : Option (List (List ℕ)) → Option (List (List ℕ)) → Ref → Paging → List ℕ → List ℕ → ℕ → Type 0
TellsBadPaged told told_now object w page before block =
    (all now : List (List ℕ)) → told ≡ Some all → told_now ≡ Some now
    → IsBadMap object (w.changed (slice_index before 0)) (w.added (slice_index before 0)) block (put_first all before page) now

-- too few blocks are left for a page and the maps over it: none now, and there was none at all or a map needs one
pub record LacksPaging (told : Option (List (List ℕ))) (object : Ref) (w : Paging) (before after : List ℕ) : Type 0 where
  pub none : after ≡ []
  pub room : length before ≤ leaf_count (object.pages + length (w.added (slice_index before 0))) + 1
  pub needs : (before ≡ []) ⊎ ((all : List (List ℕ)) → StandsApart told object before all
      → NeedsMap object (w.changed (slice_index before 0)) (w.added (slice_index before 0)) all)
  pub fewer : (all : List (List ℕ)) (xs : List ℕ) → StandsWhole told object before all xs
      → length before < 1 + maps_needed xs (w.blocks xs (slice_index before 0))

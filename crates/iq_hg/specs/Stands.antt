-- When two objects stand for a column, and what the calls give.
use Rattle.std.specs.Prelude.{◌≡◌, ℕ, Bool, true, ◌⊎◌, List, ◌∷◌, ◌++◌, Option, Some, length, map, slice_set, if◌then◌else◌, ⊤}
use Rattle.std.specs.List.{fold}
use Rattle.std.specs.List.Sorted.{IsPermutation}
use Rattle.iq_base.specs.declared.values.Value.{Value}
use Rattle.iq_outside.specs.Faults.{RoseWithin}
use Rattle.iq_pages.specs.declared.page_faults.PageFault.{PageFault}
use Rattle.iq_pages.specs.declared.page_faults.PageFault.TheVariants.{Failed, BadPage, NoMemory}
use Rattle.iq_pages.specs.Pages.{Pages, Seen}
use Rattle.iq_hg_leaves.specs.declared.entries.Entry.{Entry}
use Rattle.iq_hg_leaves.specs.Entries.{entries_from}
use Rattle.iq_hg_leaves.specs.Order.{AreInOrder}
use Rattle.iq_hg_leaves.specs.Leaves.{Leaf, entries_of, link_to}
use Rattle.iq_hg.specs.declared.hg.Hg.{Hg}
use Rattle.iq_hg.specs.declared.wanted.Wanted.{Wanted}
use Rattle.iq_hg.specs.declared.places.Place.{Place}
use Rattle.iq_hg.specs.Bounds.{is_wanted}
use Rattle.iq_hg.specs.Places.{AreLeaves, IsDirectory, place_of, places_on}

-- the told pages of the two objects stand for these values: the leaves, from page 0 on, hold the pairs of a value and its row, NULL
-- left out, in order; the directory names each leaf by its first entry and its page
pub record Stands (hg : Hg) (told : ℕ → Option Pages) (values : List Value) : Type 0 where
  pub slots : length values ≡ hg.slots
  pub leaves : List Leaf
  pub pages : Pages
  pub leaves_told : told hg.leaves ≡ Some pages
  pub held : AreLeaves hg.kind pages leaves
  pub all : IsPermutation (entries_from 0 values) (entries_of leaves)
  pub in_order : AreInOrder (entries_of leaves)
  pub directory : Pages
  pub directory_told : told hg.directory ≡ Some directory
  pub named : IsDirectory hg.kind directory (map place_of leaves)

-- whatever values the index stands for, it stands for more afterwards
abbrev pub StandsForMore : Hg → Hg → List Value → (ℕ → Option Pages) → (ℕ → Option Pages) → Type 0
StandsForMore old new more before after = (values : List Value) → Stands old before values → Stands new after (values ++ more)

-- the told pages stand for no values
abbrev pub StandsForNone : Hg → (ℕ → Option Pages) → Type 0
StandsForNone hg told = (values : List Value) → ¬ (Stands hg told values)

-- why an index isn't read: the store failed, or the object that the fault names is one of the index's, and the index stands for nothing
abbrev pub HasHgCause : Hg → Seen → Seen → PageFault → Type 0
HasHgCause hg before after (Failed x y) = RoseWithin before.faults x y after.faults
HasHgCause hg before after (BadPage named page) = ((named ≡ hg.leaves) ⊎ (named ≡ hg.directory)) × StandsForNone hg before.told
HasHgCause hg before after NoMemory = ⊤

-- whatever values the index stands for, these bits are the rows whose value passes a test
abbrev pub GivesRows : Hg → (ℕ → Option Pages) → (Value → Bool) → List Bool → Type 0
GivesRows hg told test bits = (values : List Value) → Stands hg told values → bits ≡ map test values

-- ONE LEAF AFTER THE OTHER

-- a leaf of a list lies on a page
pub record IsAt (leaves : List Leaf) (page : ℕ) : Type 0 where
  pub xs : List Leaf
  pub leaf : Leaf
  pub ys : List Leaf
  pub split : leaves ≡ xs ++ (leaf ∷ ys)
  pub page_is : leaf.page ≡ page

-- whatever values the index stands for, a leaf of it that lies on this page has these entries, and names that next
abbrev pub GivesLeaf : Hg → (ℕ → Option Pages) → ℕ → ℕ → List Entry → Type 0
GivesLeaf hg told page next entries = (values : List Value) (st : Stands hg told values) (at : IsAt st.leaves page) →
    (next ≡ link_to at.ys 0) × (entries ≡ at.leaf.entries)

-- why a leaf isn't read: the store failed, or no leaf lies on the page, whatever the index stands for
abbrev pub HasLeafCause : Hg → ℕ → Seen → Seen → PageFault → Type 0
HasLeafCause hg page before after (Failed x y) = RoseWithin before.faults x y after.faults
HasLeafCause hg page before after (BadPage named p) = (named ≡ hg.leaves) × ((values : List Value) (st : Stands hg before.told values) → ¬ (IsAt st.leaves page))
HasLeafCause hg page before after NoMemory = ⊤

-- whatever values the index stands for, these are the places on a page of its directory
abbrev pub GivesPlaces : Hg → (ℕ → Option Pages) → ℕ → List Place → Type 0
GivesPlaces hg told p places = (values : List Value) (st : Stands hg told values) → places ≡ places_on hg.kind p (map place_of st.leaves)

-- bits with the row of an entry set where its value is wanted
abbrev pub mark_one : Wanted → List Bool → Entry → List Bool
mark_one wanted bits entry = if is_wanted wanted entry.value then slice_set bits entry.row true else bits

-- the same for all entries
abbrev pub marked : Wanted → List Bool → List Entry → List Bool
marked wanted bits entries = fold (mark_one wanted) bits entries

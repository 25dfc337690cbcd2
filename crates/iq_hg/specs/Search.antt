-- Searching the directory for the leaf from which on a range may have values.
use Rattle.std.specs.Prelude.{◌≡◌, ◌<◌, ◌≤◌, ℕ, ◌-◌, ◌*◌, ◌^◌, Bool, true, false, List, Option, length, map}
use Rattle.std.specs.List.{All}
use Rattle.iq_base.specs.declared.values.Value.{Value}
use Rattle.iq_ast.specs.declared.conditions.Bound.{Bound}
use Rattle.iq_pages.specs.Pages.{Pages, Seen}
use Rattle.iq_pieces.specs.Counts.{OnlyReads}
use Rattle.iq_hg_leaves.specs.declared.entries.Entry.{Entry}
use Rattle.iq_hg_leaves.specs.Leaves.{Leaf, entries_of}
use Rattle.iq_hg.specs.declared.hg.Hg.{Hg}
use Rattle.iq_hg.specs.Bounds.{is_under}
use Rattle.iq_hg.specs.Places.{place_at, place_of, most_places}
use Rattle.iq_hg.specs.Stands.{Stands, IsAt}

-- whether the leaf at a place of a list begins under a bound
abbrev pub leaf_under : Bound → List Leaf → ℕ → Bool
leaf_under low leaves i = is_under low (place_at i (map place_of leaves)).first.value

-- whatever values the index stands for, page p of its directory begins under a bound, or not
abbrev pub BeginsUnder : Hg → (ℕ → Option Pages) → Bound → ℕ → Bool → Type 0
BeginsUnder hg told low p under = (values : List Value) (st : Stands hg told values) → leaf_under low st.leaves (p * most_places hg.kind) ≡ under

-- the page before this one begins under a bound, and this one doesn't
abbrev pub IsEdge : Hg → (ℕ → Option Pages) → Bound → ℕ → ℕ → Type 0
IsEdge hg told low count p = (0 < p → BeginsUnder hg told low (p - 1) true) × (p < count → BeginsUnder hg told low p false)

-- the leaf on a page begins the range: what lies before it is under the bound, and nothing that lies behind it is
pub record StartsRange (low : Bound) (leaves : List Leaf) (page : ℕ) : Type 0 where
  pub at : IsAt leaves page
  pub before : All (λ (entry : Entry). is_under low entry.value ≡ true) (entries_of at.xs)
  pub behind : All (λ (entry : Entry). is_under low entry.value ≡ false) (entries_of at.ys)

-- whatever values the index stands for, if it has a leaf
abbrev pub StartsUnder : Hg → (ℕ → Option Pages) → Bound → ℕ → Type 0
StartsUnder hg told low page = (values : List Value) (st : Stands hg told values) → 0 < length st.leaves → StartsRange low st.leaves page

-- of all there were, so many are left, and each read halved them: whatever power of 2 is above all, the reads are at most as many as the
-- steps down to a power of 2 above what is left
abbrev pub HalvedBy : ℕ → ℕ → Seen → Seen → Type 0
HalvedBy all left before after = (k : ℕ) → all < 2 ^ k → (j : ℕ) × (j ≤ k) × (left < 2 ^ j) × OnlyReads (k - j) before after

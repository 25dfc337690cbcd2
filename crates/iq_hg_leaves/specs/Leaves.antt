-- Leaves: entries in order, cut over pages that name the next in order.
use Rattle.std.specs.Prelude.{◌≡◌, ◌≢◌, ◌<◌, ◌≤◌, ℕ, ◌+◌, ◌/◌, List, [], ◌∷◌, length, ⊤}
use mathlib.Core.Logic.{◌⊎◌}
use Rattle.std.specs.List.{All, flat_map}
use Rattle.iq_hg_leaves.specs.Sorted.{Ascends}
use Rattle.iq_hg_leaves.specs.declared.entries.Entry.{Entry}

-- a leaf: its page, and the entries that lie there
pub record Leaf : Type 0 where
  pub page : ℕ
  pub entries : List Entry

-- the entries of leaves, one after the other
abbrev pub entries_of : List Leaf → List Entry
entries_of leaves = flat_map (λ (leaf : Leaf). leaf.entries) leaves

-- how a leaf names what comes next: 0 where nothing does, else the page of the first leaf, plus 1
abbrev pub link_to : List Leaf → ℕ → ℕ
link_to [] end = end
link_to (leaf ∷ rest) end = leaf.page + 1

-- what lies on a page: what it names as next, and entries
abbrev pub OnPage : Type 1
OnPage = ℕ → ℕ → List Entry → Type 0

-- each leaf lies on its page, and names the next; the last names the end
unfoldable pub AreLinked : (ℕ → ℕ → List Entry → Type 0) → List Leaf → ℕ → Type 0
AreLinked on [] end = ⊤
AreLinked on (leaf ∷ rest) end = on leaf.page (link_to rest end) leaf.entries × AreLinked on rest end

-- the fewest entries of a leaf, where there are two or more
abbrev pub half : ℕ → ℕ
half q = (q + 1) / 2

-- leaves have as many entries as they may have
pub record AreFilled (q : ℕ) (leaves : List Leaf) : Type 0 where
  pub some : All (λ (leaf : Leaf). 0 < length leaf.entries) leaves
  pub most : All (λ (leaf : Leaf). length leaf.entries ≤ q) leaves
  pub least : 2 ≤ length leaves → All (λ (leaf : Leaf). half q ≤ length leaf.entries) leaves

-- no two leaves have one page, and each lies below a count
pub record HavePages (count : ℕ) (leaves : List Leaf) : Type 0 where
  pub below : All (λ (leaf : Leaf). leaf.page < count) leaves
  pub apart : Ascends (λ (a b : Leaf). a.page ≢ b.page) leaves

-- what a leaf becomes when it is written anew: one leaf or more, the first on its page, the others on new pages
pub record Becomes (q : ℕ) (leaf : Leaf) (count count' : ℕ) (parts : List Leaf) : Type 0 where
  pub some : 0 < length parts
  pub front : (end : ℕ) → link_to parts end ≡ leaf.page + 1
  pub more : count ≤ count'
  pub filled : AreFilled q parts
  pub below : All (λ (part : Leaf). part.page < count') parts
  pub fresh : All (λ (part : Leaf). (part.page ≡ leaf.page) ⊎ (count ≤ part.page)) parts
  pub apart : Ascends (λ (a b : Leaf). a.page ≢ b.page) parts
  pub kept : length leaf.entries ≤ length (entries_of parts)

-- The bytes of leaves.
use Rattle.std.specs.Prelude.{◌≡◌, ◌<◌, ◌≤◌, ℕ, ◌+◌, ◌/◌, ◌^◌, List, ◌++◌, length, replicate}
use Rattle.std.specs.Int.{w32, to_le_bytes}
use Rattle.std.specs.List.{All, flat_map}
use Rattle.iq_base.specs.declared.values.Kind.{Kind}
use Rattle.iq_base.specs.Cells.{width, cell}
use Rattle.iq_hg_leaves.specs.declared.entries.Entry.{Entry}
use Rattle.iq_hg_leaves.specs.Entries.{IsEntry}

-- how many entries a leaf holds at most
abbrev pub most_in_leaf : Kind → ℕ
most_in_leaf kind = 1000 / (width kind + 4)

-- the bytes of an entry: the cell of its value, and its row
abbrev pub entry_bytes : Kind → Entry → List ℕ
entry_bytes kind entry = cell kind entry.value ++ to_le_bytes w32 entry.row

-- the bytes that say how many entries there are and what comes next
abbrev pub leaf_head : ℕ → ℕ → List ℕ
leaf_head count next = to_le_bytes w32 count ++ to_le_bytes w32 next

-- the bytes of entries, one behind the other
abbrev pub entries_bytes : Kind → List Entry → List ℕ
entries_bytes kind entries = flat_map (entry_bytes kind) entries

-- a page begins as a leaf with these entries, which names what comes next; the bytes behind may be any
pub record BeginsAsLeaf (kind : Kind) (page : List ℕ) (next : ℕ) (entries : List Entry) : Type 0 where
  pub rest : List ℕ
  pub bytes_are : page ≡ leaf_head (length entries) next ++ (entries_bytes kind entries ++ rest)
  pub each : All (IsEntry kind) entries
  pub fits : length entries ≤ most_in_leaf kind
  pub small : next < 2 ^ 32

-- a page is a leaf: it begins as one, and all bytes behind the entries are zero
pub record IsLeaf (kind : Kind) (page : List ℕ) (next : ℕ) (entries : List Entry) : Type 0 where
  pub begins : BeginsAsLeaf kind page next entries
  pub blank : begins.rest ≡ replicate (length begins.rest) 0

-- What objects stand on.
use Rattle.std.specs.Prelude.{◌≡◌, ℕ, ◌+◌, ◌==◌, true, List, [], ◌∷◌, length, count_by, slice_set, Ok}
use Rattle.std.specs.List.{All}
use Rattle.iq_outside.specs.Devices.{block_of}
use Rattle.iq_base.specs.declared.refs.Ref.{Ref}
use Rattle.iq_block_map.specs.Objects.{top_of, leaves_of, addresses_of, blocks_of, pages_of}

-- two lists of blocks are as long, and the same in these places
pub record SameOn (places : List ℕ) (all now : List (List ℕ)) : Type 0 where
  pub size : length now ≡ length all
  pub blocks : All (λ b. block_of now b ≡ block_of all b) places

-- an object is the same in both
pub record SameObject (all now : List (List ℕ)) (object : Ref) : Type 0 where
  pub leaves : leaves_of now object ≡ leaves_of all object
  pub addresses : addresses_of now object ≡ addresses_of all object
  pub blocks : blocks_of now object ≡ blocks_of all object
  pub pages : pages_of now object ≡ pages_of all object

-- how often a block stands in a list
abbrev pub times : ℕ → List ℕ → ℕ
times b xs = count_by (λ x. x == b) xs

-- what an object reaches is its topmost map, its leaves and its pages
pub record ReachesParts (all : List (List ℕ)) (object : Ref) (ls xs : List ℕ) : Type 0 where
  pub blocks : List ℕ
  pub is : blocks_of all object ≡ Ok blocks
  pub parts : (b : ℕ) → times b blocks ≡ times b (top_of true object) + (times b ls + times b xs)

-- pages with some replaced, each by the next of a list
abbrev pub rewritten : List (List ℕ) → List (ℕ × ℕ) → List (List ℕ) → List (List ℕ)
rewritten ps [] pages = ps
rewritten ps (c ∷ changed) [] = ps
rewritten ps (c ∷ changed) (page ∷ pages) = rewritten (slice_set ps c.0 page) changed pages

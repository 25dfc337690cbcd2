-- How a descriptor is written.
use Rattle.std.specs.Prelude.{◌≡◌, ℕ, ◌+◌, List, [], ◌∷◌, ◌++◌, length, drop, flat_map}
use Rattle.iq_block_store.specs.Frames.{bytes_of}
use Rattle.iq_base.specs.declared.descriptors.Descriptor.{Descriptor}
use Rattle.iq_catalog.specs.Pages.{page_count}
use Rattle.iq_catalog.specs.Reading.{text_size}

-- how many blocks a descriptor takes: three addresses of 4 bytes, and its text
abbrev pub block_count : Descriptor → ℕ
block_count t = page_count (12 + text_size (length t.columns) (length t.indexes))

-- the three addresses of a head: those of its other blocks, and then 0
abbrev pub addresses : List ℕ → List ℕ
addresses others = others ++ drop (length others) (0 ∷ 0 ∷ 0 ∷ [])

-- the payload of a head: three addresses, and its page behind the room for them
abbrev pub head_payload : List ℕ → List ℕ → List ℕ
head_payload numbers page = flat_map bytes_of numbers ++ drop 12 page

-- of the blocks that might be taken, the first were: a head's others, and then the head
pub record AreTaken (head : ℕ) (blocks before after : List ℕ) : Type 0 where
  pub others : List ℕ
  pub shape : blocks ≡ head ∷ others
  pub taken : before ≡ others ++ head ∷ after

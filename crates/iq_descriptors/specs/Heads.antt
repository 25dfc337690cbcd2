-- What is read of a head.
use Rattle.std.specs.Prelude.{◌≡◌, ℕ, true, List}
use Rattle.iq_outside.specs.Devices.{block_of}
use Rattle.iq_descriptors.specs.Parts.{head_page, parts_at, is_head}

-- this is the page of a head, with 0 for its addresses, and these are the blocks of its descriptor
pub record IsHeadOf (head : ℕ) (page blocks : List ℕ) (all : List (List ℕ)) : Type 0 where
  pub is : is_head all head ≡ true
  pub says : page ≡ head_page (block_of all head)
  pub parts : blocks ≡ parts_at all head

-- What a reference and an opened object have to do with one another.
use Rattle.std.specs.Prelude.{◌≡◌, ℕ, ◌+◌, ◌≤◌, false, List, Ok}
use Rattle.std.specs.List.{All}
use Rattle.iq_base.specs.declared.refs.Ref.{Ref}
use Rattle.iq_block_map.specs.Objects.{leaves_of, addresses_of, blocks_of}
use Rattle.iq_block_map.specs.Writing.{holds}
use Rattle.iq_block_map.specs.Laws.{times}
use Rattle.iq_objects.specs.Open.{Held, Stands, blocks_held}

-- The object of a reference is opened: its pages and leaves are those that the maps name, it has the blocks that the reference
-- reaches, each as often, and it stands beside any blocks that may be taken where they are none of these.
pub record IsOpened (object : Ref) (o : Held) (all : List (List ℕ)) : Type 0 where
  pub pages : addresses_of all object ≡ Ok o.pages
  pub leaves : leaves_of all object ≡ Ok o.leaves
  pub blocks : List ℕ
  pub reached : blocks_of all object ≡ Ok blocks
  pub each : (b : ℕ) → 1 ≤ b → times b (blocks_held o) ≡ times b blocks
  pub stands : (left : List ℕ) → holds left 0 ≡ false → All (λ b. holds left b ≡ false) blocks → Stands left o all

-- An object was closed: the reference names its pages, and reaches the blocks that it has, each as often as they stand there; those
-- that it lost are counted beside them. What it reaches isn't among the blocks that may be taken.
pub record IsClosed (object : Ref) (o : Held) (all : List (List ℕ)) : Type 0 where
  pub pages : addresses_of all object ≡ Ok o.pages
  pub blocks : List ℕ
  pub reached : blocks_of all object ≡ Ok blocks
  pub each : (b : ℕ) → 1 ≤ b → times b (blocks_held o) ≡ times b blocks + times b o.lost
  pub apart : (left : List ℕ) → Stands left o all → All (λ b. holds left b ≡ false) blocks

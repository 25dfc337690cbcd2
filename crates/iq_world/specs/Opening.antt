-- The world at the opening of a store.
use Rattle.std.specs.Prelude.{◌≡◌, ℕ, ◌-◌, ◌<◌, ◌≤◌, true, false, List, [], ◌∷◌, replicate}
use Rattle.std.specs.List.{All, range_with_len}
use Rattle.iq_world.specs.declared.worlds.World.{World}
use Rattle.iq_world.specs.declared.worlds.WorldNode.{WorldNode}
use Rattle.iq_world.specs.World.{without}
use Rattle.iq_world.specs.Steps.{are_distinct}

-- a node at the opening
abbrev pub fresh_node : WorldNode
fresh_node = record { position = 0; taken = 0; incarnation = 1; excluded = false; reserved = [] }

-- so many nodes over a store of so many blocks, of which the opening tables reach some and the others are free
abbrev pub opening_world : ℕ → ℕ → List ℕ → World
opening_world count nodes reached =
    record {
      count = count;
      free = without (range_with_len 4 (count - 4)) reached;
      reach = record { commit = 0; blocks = reached } ∷ [];
      nodes = replicate nodes fresh_node;
      runs = [];
      bag = [];
      next = 1;
      base = 0;
    }

-- the blocks that opening tables can reach: blocks of the store beside the root blocks, once each
pub record CanOpen (count nodes : ℕ) (reached : List ℕ) : Type 0 where
  pub coordinator : 0 < nodes
  pub roots : 4 ≤ count
  pub distinct : are_distinct reached ≡ true
  pub within : All (λ b. (4 ≤ b) × (b < count)) reached

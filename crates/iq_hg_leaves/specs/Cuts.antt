-- Entries that can be cut into parts that are neither too long nor too short.
use Rattle.std.specs.Prelude.{◌≤◌, ℕ, ◌*◌}
use Rattle.iq_hg_leaves.specs.Leaves.{half}

-- of so many parts some are left to be cut, and so many entries
pub record IsCuttable (q parts left rest : ℕ) : Type 0 where
  pub some : left ≤ rest
  pub most : rest ≤ q * left
  pub least : 2 ≤ parts → half q * left ≤ rest

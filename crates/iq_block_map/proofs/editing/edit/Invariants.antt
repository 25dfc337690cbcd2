use Rattle.std.proofs.Common.{◌≡◌, ℕ, List, length, take}
use Rattle.iq_block_map.specs.Editing.{replaced_from}
use Rattle.iq_block_map.specs.Leaves.{padded}
use Rattle.iq_block_map.proofs.editing.edit.Given as goal

abbrev pub invariant-loop-change : goal.invariant-loop-change
invariant-loop-change l = (xs : List ℕ) → length xs ≡ l.leaf.used → l.fn.before ≡ padded xs
    → l.places ≡ padded (replaced_from l.leaf.first xs (take l.change-index l.here))

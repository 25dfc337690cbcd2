use Rattle.std.proofs.Common.{◌≡◌, ◌≤◌, ◌+◌, ◌++◌, length, drop}
use Rattle.iq_objects.specs.Open.{written}
use Rattle.iq_objects.proofs.blocks.leave.Given as goal

abbrev pub invariant-loop-block : goal.invariant-loop-block
invariant-loop-block l =
    (l.lost.items ++ written (drop l.block-index l.blocks) ≡ l.fn.lost.items ++ written l.blocks)
    × (length l.fn.lost.items + l.fn.lost.room ≤ length l.lost.items + l.lost.room)
    × (length l.lost.items ≤ length l.fn.lost.items + l.block-index)

use Rattle.std.proofs.Common.{◌≡◌, ◌≤◌, ◌+◌, ◌++◌, length, take}
use Rattle.iq_objects.proofs.blocks.put_all.Given as goal

abbrev pub invariant-loop-block : goal.invariant-loop-block
invariant-loop-block l =
    (l.list.items ≡ l.fn.list.items ++ take l.block-index l.blocks)
    × (length l.fn.list.items + l.fn.list.room ≤ length l.list.items + l.list.room)

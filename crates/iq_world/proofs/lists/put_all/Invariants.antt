use Rattle.std.proofs.Common.{◌≡◌, take}
use Rattle.iq_world.specs.World.{put_all}
use Rattle.iq_world.proofs.lists.put_all.Given as goal

abbrev pub invariant-loop-number : goal.invariant-loop-number
invariant-loop-number l = l.numbers.items ≡ put_all l.fn.numbers.items (take l.number-index l.more)

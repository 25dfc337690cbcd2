use Rattle.std.proofs.Common.{◌≡◌, take}
use Rattle.iq_world.specs.World.{without}
use Rattle.iq_world.proofs.lists.without.Given as goal

abbrev pub invariant-loop-number : goal.invariant-loop-number
invariant-loop-number l = l.left.items ≡ without (take l.number-index l.numbers) l.others

use Rattle.std.proofs.Common.{◌≡◌, drop}
use Rattle.iq_world.specs.Steps.{are_from}
use Rattle.iq_world.proofs.lists.are_from.Given as goal

abbrev pub invariant-loop-number : goal.invariant-loop-number
invariant-loop-number l =
    are_from (drop l.number-index l.numbers) l.first l.second ≡ are_from l.numbers l.first l.second

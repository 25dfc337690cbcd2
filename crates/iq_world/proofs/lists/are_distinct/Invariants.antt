use Rattle.std.proofs.Common.{◌≡◌, ◌==◌, drop}
use Rattle.std.specs.List.{list_all}
use Rattle.iq_world.specs.World.{times}
use Rattle.iq_world.proofs.lists.are_distinct.Given as goal

abbrev pub invariant-loop-number : goal.invariant-loop-number
invariant-loop-number l =
    list_all (λ x. times x l.numbers == 1) (drop l.number-index l.numbers) ≡ list_all (λ x. times x l.numbers == 1) l.numbers

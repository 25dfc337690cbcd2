use Rattle.std.proofs.Common.{◌≡◌, ◌+◌, nat_lt, drop}
use Rattle.std.specs.List.{position_or_len}
use Rattle.iq_world.proofs.lists.place_of_greater.Given as goal

abbrev pub invariant-loop-at : goal.invariant-loop-at
invariant-loop-at l = l.at + position_or_len (λ x. nat_lt l.number x) (drop l.at l.numbers) ≡ position_or_len (λ x. nat_lt l.number x) l.numbers

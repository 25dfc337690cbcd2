use Rattle.std.proofs.Common.{◌≡◌, take}
use Rattle.iq_plain_opening.proofs.roots.addresses_of.Given as goal

abbrev pub invariant-loop-number : goal.invariant-loop-number
invariant-loop-number l = l.addresses ≡ take l.number-index l.numbers

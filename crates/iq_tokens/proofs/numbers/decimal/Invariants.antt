use Rattle.std.proofs.Common.{◌≡◌, min, take}
use Rattle.iq_tokens.specs.Tokens.{decimal}
use Rattle.iq_tokens.proofs.numbers.decimal.Given as goal

abbrev pub invariant-loop-digit : goal.invariant-loop-digit
invariant-loop-digit l = l.number ≡ min (decimal (take l.digit-index l.digits)) 18446744073709551616

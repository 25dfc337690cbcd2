use Rattle.std.proofs.Common.{◌≡◌, ◌+◌, drop}
use Rattle.iq_turnstile.specs.Passes.{sum_of_parts}
use Rattle.iq_turnstile.proofs.turnstile.Turnstile.is_whole.Given as goal

abbrev pub invariant-loop-pass : goal.invariant-loop-pass
invariant-loop-pass g l = sum_of_parts (drop l.pass-index l.pass-items) + l.self.parts ≡ sum_of_parts l.pass-items + l.missing

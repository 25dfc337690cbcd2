use Rattle.iq_turnstile.specs.Passes.{IsOf}
use Rattle.turnstile_bench.proofs.rounds.take_all.Given as goal

abbrev pub invariant-loop : goal.invariant-loop
invariant-loop g l = IsOf l.door l.pass

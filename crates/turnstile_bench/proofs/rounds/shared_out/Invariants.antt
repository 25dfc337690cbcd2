use Rattle.std.proofs.Common.{All}
use Rattle.iq_turnstile.specs.Passes.{IsOf}
use Rattle.turnstile_bench.proofs.rounds.shared_out.Given as goal

abbrev pub invariant-loop : goal.invariant-loop
invariant-loop g l = IsOf l.door l.first × All (IsOf l.door) l.passes.items

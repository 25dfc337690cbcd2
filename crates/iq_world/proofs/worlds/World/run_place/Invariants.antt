use Rattle.std.proofs.Common.{◌≡◌, ◌+◌, ◌==◌, drop}
use Rattle.std.specs.List.{position_or_len}
use Rattle.iq_world.specs.declared.worlds.WorldRun.{WorldRun}
use Rattle.iq_world.proofs.worlds.World.run_place.Given as goal

abbrev pub invariant-loop-at : goal.invariant-loop-at
invariant-loop-at l = l.at + position_or_len (λ (r : WorldRun). r.session == l.session) (drop l.at l.runs) ≡ position_or_len (λ (r : WorldRun). r.session == l.session) l.runs

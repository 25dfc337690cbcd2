use Rattle.std.proofs.Common.{◌≡◌, take}
use Rattle.std.specs.List.{filter, flat_map}
use Rattle.iq_world.specs.declared.worlds.WorldRun.{WorldRun}
use Rattle.iq_world.specs.World.{runs_on}
use Rattle.iq_world.proofs.reclaim.private_on.Given as goal

abbrev pub invariant-loop-run : goal.invariant-loop-run
invariant-loop-run l = l.all.items ≡ flat_map (λ (r : WorldRun). r.private) (filter (runs_on l.node) (take l.run-index l.runs))

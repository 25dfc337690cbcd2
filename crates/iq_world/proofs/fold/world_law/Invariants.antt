use Rattle.std.proofs.Common.{◌≡◌, take}
use Rattle.iq_world.specs.Steps.{after_all}
use Rattle.iq_world.specs.Sound.{IsSound}
use Rattle.iq_world.proofs.fold.world_law.Given as goal

abbrev pub invariant-loop-step : goal.invariant-loop-step
invariant-loop-step l = record {
  so_far : l.world ≡ after_all l.fn.first (take l.step-index l.steps);
  sound : IsSound l.world;
}

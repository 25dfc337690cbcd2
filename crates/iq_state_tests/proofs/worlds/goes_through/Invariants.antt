use Rattle.iq_world.specs.Sound.{IsSound}
use Rattle.iq_state_tests.proofs.worlds.goes_through.Given as goal

abbrev pub invariant-loop-step : goal.invariant-loop-step
invariant-loop-step g l = IsSound l.current

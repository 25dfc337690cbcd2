-- Steps that are made one after the other, each of which is possible.
use Rattle.std.specs.Prelude.{◌≡◌, true, List, [], ◌∷◌}
use Rattle.iq_world.specs.declared.worlds.World.{World}
use Rattle.iq_world.specs.declared.worlds.WorldStep.{WorldStep}
use Rattle.iq_world.specs.Steps.{possible, after, after_all}

-- each step is possible in the world that the steps before it leave
abbrev pub AllPossible : World → List WorldStep → Type 0
AllPossible w [] = Unit {0}
AllPossible w (step ∷ steps) = (possible w step ≡ true) × AllPossible (after w step) steps

-- the steps, each of which is possible in its turn, make one world of another
pub record Makes (old : World) (steps : List WorldStep) (new : World) : Type 0 where
  pub can : AllPossible old steps
  pub is : new ≡ after_all old steps

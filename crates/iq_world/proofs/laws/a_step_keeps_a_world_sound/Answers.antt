use Rattle.iq_world.proofs.Each.{good_step}
use Rattle.iq_world.proofs.laws.a_step_keeps_a_world_sound.Goals as goal

pub returns : goal.returns
returns c = λ w step g. (good_step w step g).sound

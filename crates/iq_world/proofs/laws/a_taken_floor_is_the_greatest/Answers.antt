use Rattle.iq_world.proofs.Each.{good_step, taken_floor}
use Rattle.iq_world.proofs.laws.a_taken_floor_is_the_greatest.Goals as goal

pub returns : goal.returns
returns c = record { raised = taken_floor; kept = λ w step n g h. (good_step w step g).rises.taken n h }

use Rattle.iq_world.proofs.PlainLaws.{possible_plain, plain_possible}
use Rattle.iq_world.proofs.laws.a_step_is_possible_where_it_can_be.Goals as goal

pub returns : goal.returns
returns c = λ w step. (possible_plain w step, plain_possible w step)

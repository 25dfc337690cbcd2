use Rattle.iq_world.proofs.Each.{step_law}
use Rattle.iq_world.proofs.laws.a_step_spares_what_is_live.Goals as goal

pub returns : goal.returns
returns c = step_law

use Rattle.iq_world.proofs.Past.{past_of, past_is}
use Rattle.iq_world.proofs.laws.the_horizon_is_the_latest_that_all_are_past.Goals as goal

pub returns : goal.returns
returns c = λ w c. (past_is w c, past_of w c)

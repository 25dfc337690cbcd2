use Rattle.iq_world.proofs.Each.{keeps_live}
use Rattle.iq_world.proofs.laws.what_is_live_is_kept.Goals as goal

pub returns : goal.returns
returns c = keeps_live

use Rattle.iq_world.proofs.Each.{never_falls_all}
use Rattle.iq_world.proofs.laws.nothing_falls.Goals as goal

pub returns : goal.returns
returns c = never_falls_all

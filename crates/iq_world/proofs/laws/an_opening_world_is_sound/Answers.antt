use Rattle.iq_world.proofs.Opened.{opening_sound}
use Rattle.iq_world.proofs.laws.an_opening_world_is_sound.Goals as goal

pub returns : goal.returns
returns c = opening_sound

use Rattle.iq_world.proofs.Each.{sound_all, each_step}
use Rattle.iq_world.proofs.laws.all_steps_keep_a_world_sound.Goals as goal

pub returns : goal.returns
returns c = record { sound = sound_all; each = each_step }

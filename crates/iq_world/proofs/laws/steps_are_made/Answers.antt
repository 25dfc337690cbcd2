use Rattle.iq_world.proofs.Each.{makes_none, makes_one, makes_then, makes_sound}
use Rattle.iq_world.proofs.laws.steps_are_made.Goals as goal

pub returns : goal.returns
returns c = record { none = makes_none; one = makes_one; more = makes_then; sound = makes_sound }

use Rattle.iq_world.proofs.Each.{freed_in_time}
use Rattle.iq_world.proofs.Waiting.{waits_held}
use Rattle.iq_world.proofs.laws.a_dropped_block_is_freed_in_time.Goals as goal

pub returns : goal.returns
returns c = record { over_all_steps = freed_in_time; waits = waits_held }

use Rattle.iq_block_map.proofs.FrameLaws.{apart_law}
use Rattle.iq_block_map.proofs.laws.what_is_not_reached_is_apart.Goals as goal

pub returns : goal.returns
returns c = apart_law

use Rattle.iq_block_map.proofs.FrameLaws.{frame_law}
use Rattle.iq_block_map.proofs.laws.an_object_stands_on_what_it_reaches.Goals as goal

pub returns : goal.returns
returns c = frame_law

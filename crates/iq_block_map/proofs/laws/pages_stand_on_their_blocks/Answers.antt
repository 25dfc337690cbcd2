use Rattle.iq_block_map.proofs.TradeLaws.{contents_same}
use Rattle.iq_block_map.proofs.laws.pages_stand_on_their_blocks.Goals as goal

pub returns : goal.returns
returns c = contents_same

use Rattle.iq_block_map.proofs.TradeLaws.{contents_edited}
use Rattle.iq_block_map.proofs.laws.pages_change_with_their_blocks.Goals as goal

pub returns : goal.returns
returns c = contents_edited

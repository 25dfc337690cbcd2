use Rattle.iq_block_map.proofs.TradeLaws.{reaches_parts}
use Rattle.iq_block_map.proofs.laws.an_object_reaches_its_maps_and_pages.Goals as goal

pub returns : goal.returns
returns c = reaches_parts

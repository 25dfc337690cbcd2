use Rattle.iq_block_map.proofs.TradeLaws.{traded}
use Rattle.iq_block_map.proofs.laws.what_is_fresh_replaces_what_is_lost.Goals as goal

pub returns : goal.returns
returns c = λ old new b one two. traded b old new one two

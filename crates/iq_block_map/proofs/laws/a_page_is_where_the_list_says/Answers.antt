use Rattle.iq_block_map.proofs.ReachLemmas.{address_at}
use Rattle.iq_block_map.proofs.laws.a_page_is_where_the_list_says.Goals as goal

pub returns : goal.returns
returns c = address_at

use Rattle.iq_free_list.proofs.BitLemmas.{distinct_ascending}
use Rattle.iq_free_list.proofs.free_list.FreeList.are_in_order.Goals as goal

pub returns-clause-distinct : goal.returns-clause-distinct
returns-clause-distinct c = distinct_ascending _ c.len.ensures.once

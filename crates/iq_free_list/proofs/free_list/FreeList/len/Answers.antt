use Rattle.iq_free_list.proofs.BitLemmas.{ascending_rows_from, rows_from_within}
use Rattle.iq_free_list.proofs.free_list.FreeList.len.Goals as goal

pub returns-clause-once : goal.returns-clause-once
returns-clause-once c = rw (← c.self.view_is) (ascending_rows_from 0 c.self.inside.bits)

pub returns-clause-within : goal.returns-clause-within
returns-clause-within c = rw (← c.self.view_is) (rows_from_within c.self.inside.bits)

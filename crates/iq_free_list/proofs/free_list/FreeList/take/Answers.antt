use Rattle.iq_free_list.proofs.BitLemmas.{take_none, take_first, take_hinted, take_past}
use Rattle.iq_free_list.proofs.free_list.FreeList.take.Goals as goal

pub returns-in_err-block-clause-least : goal.returns-in_err-block-clause-least
returns-in_err-block-clause-least c =
    let empty = take_none c.self.inside.bits c.self.inside.hint c.self.inside.len c.self.invariant c.in_err-block.ensures.none in
    rw (← c.self.view_is, c.from_residual.ensures) (empty, empty)

pub invariant_of-self : goal.invariant_of-self
invariant_of-self c =
    rw c.set.ensures
    (take_hinted c.self.inside.bits c.self.inside.hint c.self.inside.len c.in_ok-block.block c.self.invariant c.in_ok-block.ensures.found)

pub returns-clause-least : goal.returns-clause-least
returns-clause-least c =
    rw (← c.self.view_is, c.set.ensures)
    (take_first c.self.inside.bits c.self.inside.hint c.self.inside.len c.in_ok-block.block c.self.invariant c.in_ok-block.ensures.found)

pub returns-clause-first : goal.returns-clause-first
returns-clause-first c =
    rw c.set.ensures
    (take_past c.self.inside.bits c.self.inside.hint c.self.inside.len c.in_ok-block.block c.self.invariant c.in_ok-block.ensures.found)

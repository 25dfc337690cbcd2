use Rattle.std.proofs.Common.{◌∙◌, sym, arith}
use Rattle.iq_free_list.proofs.BitLemmas.{rows_from_again, rows_from_put, give_fits, give_hinted}
use Rattle.iq_free_list.proofs.free_list.FreeList.give.Goals as goal

pub returns-then-get-clause-given : goal.returns-then-get-clause-given
returns-then-get-clause-given c =
    let within = rw (← c.self.view_is) at c.requires in
    let set = sym c.get.ensures ∙ c.if-get.true in
    rw (← c.self.view_is) (rows_from_again c.self.inside.bits c.args.block within set)

pub overflow_add-self : goal.overflow_add-self
overflow_add-self c =
    let within = rw (← c.self.view_is) at c.requires in
    let clear = sym c.get.ensures ∙ c.if-get.false in
    omega (arith, give_fits c.self.inside.bits c.self.inside.hint c.self.inside.len c.args.block c.self.invariant within clear)

pub invariant_of-self : goal.invariant_of-self
invariant_of-self c =
    let within = rw (← c.self.view_is) at c.requires in
    let clear = sym c.get.ensures ∙ c.if-get.false in
    rw (c.min-self-inside.ensures, c.set.ensures)
    (give_hinted c.self.inside.bits c.self.inside.hint c.self.inside.len c.args.block c.self.invariant within clear)

pub returns-clause-given : goal.returns-clause-given
returns-clause-given c =
    let within = rw (← c.self.view_is) at c.requires in
    rw (← c.self.view_is, c.set.ensures) (rows_from_put c.self.inside.bits c.args.block within)

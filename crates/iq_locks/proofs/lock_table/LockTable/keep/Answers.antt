use Rattle.std.proofs.Common.{arith, ◌<◌, ◌∙◌, ap, take, length}
use Rattle.iq_base.specs.Shorts.{Name}
use Rattle.iq_roomed.specs.Rooms.{Room}
use Rattle.std.proofs.lemmas.List.{length-map}
use Rattle.iq_locks.proofs.Tables.{names_in, holding-is}
use Rattle.iq_locks.proofs.lock_table.LockTable.keep.Goals as goal

pub returns : goal.returns
returns c =
    let lt : c.args.s < length c.self.inside.held.items = omega (arith, length-map c.self.inside.held.items names_in, rw (← c.self.view_is) at c.requires) in
    rw (← c.self.view_is) (holding-is c.self.inside.held.items c.self.inside.wrote.items c.self.inside.wrote.room c.args.s c.index_mut.result.now c.truncate.new.self (take c.args.n) lt
    (c.truncate.ensures.items ∙ ap (λ (r : Room Name). take c.args.n r.items) c.index_mut.ensures.value))

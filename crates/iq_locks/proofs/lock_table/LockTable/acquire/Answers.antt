use Rattle.std.proofs.Common.{arith, ◌<◌, ◌∙◌, ◌++◌, ap, length, List}
use Rattle.iq_base.specs.Shorts.{Name}
use Rattle.iq_roomed.specs.Rooms.{Room}
use Rattle.iq_locks.specs.Locked.{not_held}
use Rattle.std.proofs.lemmas.List.{length-map}
use Rattle.iq_locks.proofs.Tables.{names_in, holding-is}
use Rattle.iq_locks.proofs.lock_table.LockTable.acquire.Goals as goal

pub returns-clause-ok : goal.returns-clause-ok
returns-clause-ok c =
    let lt : c.args.s < length c.self.inside.held.items = omega (arith, length-map c.self.inside.held.items names_in, rw (← c.self.view_is) at c.requires.session) in
    rw (← c.self.view_is) (holding-is c.self.inside.held.items c.self.inside.wrote.items c.self.inside.wrote.room c.args.s c.index_mut.result.now c.hold.new.held (λ (held : List Name). held ++ not_held held c.args.names.now) lt
    (c.hold.ensures.items ∙ ap (λ (r : Room Name). r.items ++ not_held r.items c.args.names.now) c.index_mut.ensures.value))

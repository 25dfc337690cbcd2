use Rattle.std.proofs.Common.{rules, ◌<◌, [], length}
use Rattle.iq_locks.specs.Locked.{held_at}
use Rattle.iq_replay.specs.Changes.{ends_run}
use Rattle.iq_sessions.proofs.Turns.{as_many, fits_at, within_held, turned, idle_turns}
use Rattle.iq_sessions.proofs.session_table.SessionTable.end_transaction.Goals as goal

pub index_mut-requires : goal.index_mut-requires
index_mut-requires c =
    let asked = rw (← c.self.view_is) at c.requires in
    let kept : c.args.s < length c.self.inside.sessions.items = rw (as_many c.self.inside.sessions.items c.self.inside.locks.held) at asked in
    search rules

pub drop_all-requires : goal.drop_all-requires
drop_all-requires c =
    let asked = rw (← c.self.view_is) at c.requires in
    let within = asked in
    within_held _ _ c.args.s c.self.invariant.fit within

pub invariant_of-self : goal.invariant_of-self
invariant_of-self c =
    let asked = rw (← c.self.view_is) at c.requires in
    let within = asked in
    let fit = fits_at _ _ c.args.s c.index_mut.result.now c.self.invariant.fit within c.index_mut.ensures.value in
    rw c.drop_all.ensures (turned c.self.inside.sessions.items c.self.inside.locks c.self.inside.noted c.args.s ends_run c.index_mut.result.now c.end_transaction.new.self [] c.self.invariant within c.index_mut.ensures.value (idle_turns _ _ (held_at c.args.s c.self.inside.locks.held) c.end_transaction.ensures)).table

pub returns : goal.returns
returns c =
    let asked = rw (← c.self.view_is) at c.requires in
    let within = asked in
    let fit = fits_at _ _ c.args.s c.index_mut.result.now c.self.invariant.fit within c.index_mut.ensures.value in
    rw (← c.self.view_is, c.drop_all.ensures) (turned c.self.inside.sessions.items c.self.inside.locks c.self.inside.noted c.args.s ends_run c.index_mut.result.now c.end_transaction.new.self [] c.self.invariant within c.index_mut.ensures.value (idle_turns _ _ (held_at c.args.s c.self.inside.locks.held) c.end_transaction.ensures)).view

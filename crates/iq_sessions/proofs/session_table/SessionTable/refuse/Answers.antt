use Rattle.std.proofs.Common.{rules, ◌<◌, take, length}
use Rattle.iq_locks.specs.Locked.{held_at}
use Rattle.iq_sessions.specs.Table.{HasLine}
use Rattle.iq_sessions.specs.Changes.{refuses}
use Rattle.iq_sessions.proofs.Turns.{within_kept, at_within, at_kept, fits_at, within_held, turned}
use Rattle.iq_sessions.proofs.session_table.SessionTable.refuse.Goals as goal

pub index_mut-requires : goal.index_mut-requires
index_mut-requires c =
    let asked = rw (← c.self.view_is) at c.requires in
    let kept : c.args.s < length c.self.inside.sessions.items = within_kept c.self.inside.sessions.items c.self.inside.locks.held c.args.s HasLine asked in
    search rules

pub refuse-kept-requires : goal.refuse-kept-requires
refuse-kept-requires c =
    let asked = rw (← c.self.view_is) at c.requires in
    let within = at_within _ _ HasLine asked in
    (at_kept _ _ c.args.s c.index_mut.result.now HasLine c.self.invariant.fit within c.index_mut.ensures.value asked)

pub keep-requires : goal.keep-requires
keep-requires c =
    let asked = rw (← c.self.view_is) at c.requires in
    let within = at_within _ _ HasLine asked in
    within_held _ _ c.args.s c.self.invariant.fit within

pub invariant_of-self : goal.invariant_of-self
invariant_of-self c =
    let asked = rw (← c.self.view_is) at c.requires in
    let within = at_within _ _ HasLine asked in
    let fit = fits_at _ _ c.args.s c.index_mut.result.now c.self.invariant.fit within c.index_mut.ensures.value in
    rw c.keep.ensures (turned c.self.inside.sessions.items c.self.inside.locks c.self.inside.noted c.args.s (refuses c.args.cause.now) c.index_mut.result.now c.refuse-kept.new.self (take c.refuse-kept.result (held_at c.args.s c.self.inside.locks.held)) c.self.invariant within c.index_mut.ensures.value (c.refuse-kept.ensures (held_at c.args.s c.self.inside.locks.held) fit)).table

pub returns : goal.returns
returns c =
    let asked = rw (← c.self.view_is) at c.requires in
    let within = at_within _ _ HasLine asked in
    let fit = fits_at _ _ c.args.s c.index_mut.result.now c.self.invariant.fit within c.index_mut.ensures.value in
    rw (← c.self.view_is, c.keep.ensures) (turned c.self.inside.sessions.items c.self.inside.locks c.self.inside.noted c.args.s (refuses c.args.cause.now) c.index_mut.result.now c.refuse-kept.new.self (take c.refuse-kept.result (held_at c.args.s c.self.inside.locks.held)) c.self.invariant within c.index_mut.ensures.value (c.refuse-kept.ensures (held_at c.args.s c.self.inside.locks.held) fit)).view

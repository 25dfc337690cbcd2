use Rattle.std.proofs.Common.{rules, ◌<◌, [], length}
use Rattle.iq_locks.specs.Locked.{held_at}
use Rattle.iq_sessions.specs.Table.{HasLine}
use Rattle.iq_sessions.specs.Changes.{ends_both}
use Rattle.iq_sessions.proofs.Turns.{within_kept, at_within, at_kept, fits_at, within_held, turned}
use Rattle.iq_sessions.proofs.session_table.SessionTable.end.Goals as goal

pub index_mut-requires : goal.index_mut-requires
index_mut-requires c =
    let asked = rw (← c.self.view_is) at c.requires in
    let kept : c.args.s < length c.self.inside.sessions.items = within_kept c.self.inside.sessions.items c.self.inside.locks.held c.args.s HasLine asked in
    search rules

pub end-requires : goal.end-requires
end-requires c =
    let asked = rw (← c.self.view_is) at c.requires in
    let within = at_within _ _ HasLine asked in
    (at_kept _ _ c.args.s c.index_mut.result.now HasLine c.self.invariant.fit within c.index_mut.ensures.value asked)

pub drop_all-requires : goal.drop_all-requires
drop_all-requires c =
    let asked = rw (← c.self.view_is) at c.requires in
    let within = at_within _ _ HasLine asked in
    within_held _ _ c.args.s c.self.invariant.fit within

pub invariant_of-self : goal.invariant_of-self
invariant_of-self c =
    let asked = rw (← c.self.view_is) at c.requires in
    let within = at_within _ _ HasLine asked in
    let fit = fits_at _ _ c.args.s c.index_mut.result.now c.self.invariant.fit within c.index_mut.ensures.value in
    rw c.drop_all.ensures (turned c.self.inside.sessions.items c.self.inside.locks c.self.inside.noted c.args.s ends_both c.index_mut.result.now c.end.new.self [] c.self.invariant within c.index_mut.ensures.value (c.end.ensures (held_at c.args.s c.self.inside.locks.held))).table

pub returns : goal.returns
returns c =
    let asked = rw (← c.self.view_is) at c.requires in
    let within = at_within _ _ HasLine asked in
    let fit = fits_at _ _ c.args.s c.index_mut.result.now c.self.invariant.fit within c.index_mut.ensures.value in
    rw (← c.self.view_is, c.drop_all.ensures) (turned c.self.inside.sessions.items c.self.inside.locks c.self.inside.noted c.args.s ends_both c.index_mut.result.now c.end.new.self [] c.self.invariant within c.index_mut.ensures.value (c.end.ensures (held_at c.args.s c.self.inside.locks.held))).view

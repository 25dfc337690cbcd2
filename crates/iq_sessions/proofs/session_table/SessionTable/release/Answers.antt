use Rattle.std.proofs.Common.{rules, ◌<◌, length}
use Rattle.iq_locks.specs.Locked.{held_at}
use Rattle.iq_sessions.specs.Table.{AsksOpen}
use Rattle.iq_sessions.specs.Changes.{releases}
use Rattle.iq_sessions.proofs.Turns.{within_kept, at_within, at_kept, fits_at, turned_alone}
use Rattle.iq_sessions.proofs.session_table.SessionTable.release.Goals as goal

pub index_mut-requires : goal.index_mut-requires
index_mut-requires c =
    let asked = rw (← c.self.view_is) at c.requires in
    let kept : c.args.s < length c.self.inside.sessions.items = within_kept c.self.inside.sessions.items c.self.inside.locks.held c.args.s AsksOpen asked in
    search rules

pub release-requires-clause-some : goal.release-requires-clause-some
release-requires-clause-some c =
    let asked = rw (← c.self.view_is) at c.requires in
    let within = at_within _ _ AsksOpen asked in
    (at_kept _ _ c.args.s c.index_mut.result.now AsksOpen c.self.invariant.fit within c.index_mut.ensures.value asked).line

pub release-requires-clause-open_still : goal.release-requires-clause-open_still
release-requires-clause-open_still c =
    let asked = rw (← c.self.view_is) at c.requires in
    let within = at_within _ _ AsksOpen asked in
    (at_kept _ _ c.args.s c.index_mut.result.now AsksOpen c.self.invariant.fit within c.index_mut.ensures.value asked).open_still

pub invariant_of-self : goal.invariant_of-self
invariant_of-self c =
    let asked = rw (← c.self.view_is) at c.requires in
    let within = at_within _ _ AsksOpen asked in
    let fit = fits_at _ _ c.args.s c.index_mut.result.now c.self.invariant.fit within c.index_mut.ensures.value in
    (turned_alone c.self.inside.sessions.items c.self.inside.locks c.self.inside.noted c.args.s (releases c.args.name.now) c.index_mut.result.now c.release.new.self c.self.invariant within c.index_mut.ensures.value (c.release.ensures (held_at c.args.s c.self.inside.locks.held) fit)).table

pub returns : goal.returns
returns c =
    let asked = rw (← c.self.view_is) at c.requires in
    let within = at_within _ _ AsksOpen asked in
    let fit = fits_at _ _ c.args.s c.index_mut.result.now c.self.invariant.fit within c.index_mut.ensures.value in
    rw (← c.self.view_is) (turned_alone c.self.inside.sessions.items c.self.inside.locks c.self.inside.noted c.args.s (releases c.args.name.now) c.index_mut.result.now c.release.new.self c.self.invariant within c.index_mut.ensures.value (c.release.ensures (held_at c.args.s c.self.inside.locks.held) fit)).view

use Rattle.std.proofs.Common.{rules, ◌<◌, length}
use Rattle.iq_sessions.specs.Table.{AsksBegin}
use Rattle.iq_sessions.specs.Changes.{begins_at}
use Rattle.iq_sessions.proofs.Turns.{within_kept, at_within, at_kept, fits_at, turned_alone, no_names}
use Rattle.iq_sessions.proofs.session_table.SessionTable.begin.Goals as goal

pub index_mut-requires : goal.index_mut-requires
index_mut-requires c =
    let asked = rw (← c.self.view_is) at c.requires in
    let kept : c.args.s < length c.self.inside.sessions.items = within_kept c.self.inside.sessions.items c.self.inside.locks.held c.args.s AsksBegin asked in
    search rules

pub begin-requires : goal.begin-requires
begin-requires c =
    let asked = rw (← c.self.view_is) at c.requires in
    let within = at_within _ _ AsksBegin asked in
    (at_kept _ _ c.args.s c.index_mut.result.now AsksBegin c.self.invariant.fit within c.index_mut.ensures.value asked).line

pub invariant_of-self : goal.invariant_of-self
invariant_of-self c =
    let asked = rw (← c.self.view_is) at c.requires in
    let within = at_within _ _ AsksBegin asked in
    let fit = fits_at _ _ c.args.s c.index_mut.result.now c.self.invariant.fit within c.index_mut.ensures.value in
    (turned_alone c.self.inside.sessions.items c.self.inside.locks c.self.inside.noted c.args.s (begins_at c.args.own c.args.c) c.index_mut.result.now c.begin.new.self c.self.invariant within c.index_mut.ensures.value (let none = (at_kept _ _ c.args.s c.index_mut.result.now AsksBegin c.self.invariant.fit within c.index_mut.ensures.value asked).none in rw (no_names _ _ none fit) c.begin.ensures)).table

pub returns : goal.returns
returns c =
    let asked = rw (← c.self.view_is) at c.requires in
    let within = at_within _ _ AsksBegin asked in
    let fit = fits_at _ _ c.args.s c.index_mut.result.now c.self.invariant.fit within c.index_mut.ensures.value in
    rw (← c.self.view_is) (turned_alone c.self.inside.sessions.items c.self.inside.locks c.self.inside.noted c.args.s (begins_at c.args.own c.args.c) c.index_mut.result.now c.begin.new.self c.self.invariant within c.index_mut.ensures.value (let none = (at_kept _ _ c.args.s c.index_mut.result.now AsksBegin c.self.invariant.fit within c.index_mut.ensures.value asked).none in rw (no_names _ _ none fit) c.begin.ensures)).view

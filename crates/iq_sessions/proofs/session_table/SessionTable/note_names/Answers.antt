use Rattle.std.proofs.Common.{rules, arith, ◌≡◌, ◌≤◌, ◌<◌, ◌+◌, length, slice_set}
use Rattle.iq_locks.specs.Locked.{held_at}
use Rattle.iq_sessions.specs.Table.{table_of, noting}
use Rattle.iq_sessions.proofs.Turns.{as_many, within_held, at_held}
use Rattle.iq_sessions.proofs.Commits.{noted_within, note_table, note_view, same_at}
use Rattle.iq_sessions.proofs.session_table.SessionTable.note_names.Goals as goal

pub held-requires : goal.held-requires
held-requires c = within_held _ _ c.args.s c.self.invariant.fit (rw (← c.self.view_is) at c.requires)

pub index-requires : goal.index-requires
index-requires c =
    let kept : c.args.s < length c.self.inside.sessions.items = rw (as_many c.self.inside.sessions.items c.self.inside.locks.held) at (rw (← c.self.view_is) at c.requires) in
    search rules

pub index_mut-requires : goal.index_mut-requires
index_mut-requires c =
    let kept : c.args.s < length c.self.inside.sessions.items = rw (as_many c.self.inside.sessions.items c.self.inside.locks.held) at (rw (← c.self.view_is) at c.requires) in
    search rules

pub overflow_sub-self : goal.overflow_sub-self
overflow_sub-self c =
    let kept : c.args.s < length c.self.inside.sessions.items = rw (as_many c.self.inside.sessions.items c.self.inside.locks.held) at (rw (← c.self.view_is) at c.requires) in
    let within : c.noted-before.result ≤ c.self.inside.noted = rw c.noted-before.ensures (noted_within _ c.self.inside.locks _ c.args.s c.index.result.now c.self.invariant kept c.index.ensures) in
    let total : c.in-Some.total ≡ c.self.inside.noted + (length (held_at c.args.s c.self.inside.locks.held) + 1) = search rules in
    omega arith

pub invariant_of-self-2 : goal.invariant_of-self-2
invariant_of-self-2 c =
    let kept : c.args.s < length c.self.inside.sessions.items = rw (as_many c.self.inside.sessions.items c.self.inside.locks.held) at (rw (← c.self.view_is) at c.requires) in
    let within : c.noted-before.result ≤ c.self.inside.noted = rw c.noted-before.ensures (noted_within _ c.self.inside.locks _ c.args.s c.index.result.now c.self.invariant kept c.index.ensures) in
    let total : c.in-Some.total ≡ c.self.inside.noted + (length (held_at c.args.s c.self.inside.locks.held) + 1) = search rules in
    let room : c.in-Some.total ≤ c.name_room.new.self.room = search rules in
    let y_is : c.note.new.self ≡ record (c.index.result.now) { noted = length (held_at c.args.s c.self.inside.locks.held) + 1 } =
    rw (same_at c.self.inside.sessions.items c.args.s c.index.result.now c.index_mut.result.now kept c.index.ensures c.index_mut.ensures.value, ← c.held.ensures) (search rules) in
    note_table c.self.inside.sessions.items c.self.inside.locks c.name_room.new.self c.self.inside.noted c.args.s (length (held_at c.args.s c.self.inside.locks.held) + 1) c.index.result.now c.note.new.self _ c.self.invariant kept c.index.ensures
    y_is c.name_room.ensures.held (omega (arith, c.noted-before.ensures)) (omega arith)

pub returns-clause-ok : goal.returns-clause-ok
returns-clause-ok c =
    let kept : c.args.s < length c.self.inside.sessions.items = rw (as_many c.self.inside.sessions.items c.self.inside.locks.held) at (rw (← c.self.view_is) at c.requires) in
    let y_is : c.note.new.self ≡ record (c.index.result.now) { noted = length (held_at c.args.s c.self.inside.locks.held) + 1 } =
    rw (same_at c.self.inside.sessions.items c.args.s c.index.result.now c.index_mut.result.now kept c.index.ensures c.index_mut.ensures.value, ← c.held.ensures) (search rules) in
    rw (← c.self.view_is)
    (at_held c.self.inside.sessions.items c.self.inside.locks.held c.args.s (λ held. table_of (slice_set c.self.inside.sessions.items c.args.s c.note.new.self) c.name_room.new.self ≡ noting c.args.s (length held + 1) (table_of c.self.inside.sessions.items c.self.inside.locks))
    c.self.invariant.fit (rw (← c.self.view_is) at c.requires)
    (note_view c.self.inside.sessions.items c.self.inside.locks c.name_room.new.self c.args.s (length (held_at c.args.s c.self.inside.locks.held) + 1) c.index.result.now c.note.new.self c.index.ensures y_is c.name_room.ensures.held c.name_room.ensures.wrote))

use Rattle.std.proofs.Common.{rules, arith, ◌≡◌, ◌≤◌, ◌<◌, ◌++◌, length, ap, ◌∙◌}
use Rattle.std.specs.Option.{option_copied}
use Rattle.iq_base.specs.Locks.{table_locks}
use Rattle.iq_locks.specs.Locked.{held_at}
use Rattle.iq_sessions.specs.Table.{AsksCommit, WritesAll, noted_at, noted_of}
use Rattle.iq_replay.specs.Commits.{written_names}
use Rattle.iq_replay.specs.Changes.{work_in}
use Rattle.iq_sessions.specs.Kept.{KeptSession}
use Rattle.iq_sessions.proofs.Turns.{within_kept, at_within, at_kept, fits_at, within_held, at_made}
use Rattle.iq_sessions.proofs.Commits.{noted_kept, noted_within, written_kept, committed, same_at}
use Rattle.iq_sessions.proofs.session_table.SessionTable.commit.Goals as goal

pub index-session-requires : goal.index-session-requires
index-session-requires c =
    let asked = rw (← c.self.view_is) at c.requires in
    let kept : c.args.s < length c.self.inside.sessions.items = within_kept c.self.inside.sessions.items c.self.inside.locks.held c.args.s (AsksCommit (noted_at c.args.s (noted_of c.self.inside.sessions.items))) asked in
    search rules

pub write_names-requires-clause-session : goal.write_names-requires-clause-session
write_names-requires-clause-session c =
    let asked = rw (← c.self.view_is) at c.requires in
    let within = at_within _ _ (AsksCommit (noted_at c.args.s (noted_of c.self.inside.sessions.items))) asked in
    within_held _ _ c.args.s c.self.invariant.fit within

pub write_names-requires-clause-room : goal.write_names-requires-clause-room
write_names-requires-clause-room c =
    let asked = rw (← c.self.view_is) at c.requires in
    let within = at_within _ _ (AsksCommit (noted_at c.args.s (noted_of c.self.inside.sessions.items))) asked in
    let kept : c.args.s < length c.self.inside.sessions.items = within_kept c.self.inside.sessions.items c.self.inside.locks.held c.args.s (AsksCommit (noted_at c.args.s (noted_of c.self.inside.sessions.items))) asked in
    let fit = fits_at _ _ c.args.s c.index-session.result.now c.self.invariant.fit within c.index-session.ensures in
    let written = written_kept c.index-session.result.now.transaction (held_at c.args.s c.self.inside.locks.held) fit in
    let few : length (held_at c.args.s c.self.inside.locks.held ++ table_locks (option_copied c.created.result)) ≤ c.index-session.result.now.noted = rw (c.created.ensures, noted_kept c.self.inside.sessions.items c.args.s c.index-session.result.now kept c.index-session.ensures, ← written) (at_kept _ _ c.args.s c.index-session.result.now (AsksCommit (noted_at c.args.s (noted_of c.self.inside.sessions.items))) c.self.invariant.fit within c.index-session.ensures asked).room in
    let low = noted_within _ c.self.inside.locks _ c.args.s c.index-session.result.now c.self.invariant kept c.index-session.ensures in
    omega (arith, c.self.invariant.room)

pub index_mut-session-requires : goal.index_mut-session-requires
index_mut-session-requires c =
    let asked = rw (← c.self.view_is) at c.requires in
    let kept : c.args.s < length c.self.inside.sessions.items = within_kept c.self.inside.sessions.items c.self.inside.locks.held c.args.s (AsksCommit (noted_at c.args.s (noted_of c.self.inside.sessions.items))) asked in
    search rules

pub end-requires : goal.end-requires
end-requires c =
    let asked = rw (← c.self.view_is) at c.requires in
    let within = at_within _ _ (AsksCommit (noted_at c.args.s (noted_of c.self.inside.sessions.items))) asked in
    rw c.note.ensures (at_kept _ _ c.args.s c.index_mut-session.result.now (AsksCommit (noted_at c.args.s (noted_of c.self.inside.sessions.items))) c.self.invariant.fit within c.index_mut-session.ensures.value asked).line

pub drop_all-requires : goal.drop_all-requires
drop_all-requires c =
    let asked = rw (← c.self.view_is) at c.requires in
    let within = at_within _ _ (AsksCommit (noted_at c.args.s (noted_of c.self.inside.sessions.items))) asked in
    rw c.write_names.ensures.held (within_held _ _ c.args.s c.self.invariant.fit within)

pub overflow_sub-self : goal.overflow_sub-self
overflow_sub-self c =
    let asked = rw (← c.self.view_is) at c.requires in
    let kept : c.args.s < length c.self.inside.sessions.items = within_kept c.self.inside.sessions.items c.self.inside.locks.held c.args.s (AsksCommit (noted_at c.args.s (noted_of c.self.inside.sessions.items))) asked in
    rw c.noted-noted.ensures (noted_within _ c.self.inside.locks _ c.args.s c.index-session.result.now c.self.invariant kept c.index-session.ensures)

pub invariant_of-self : goal.invariant_of-self
invariant_of-self c =
    let asked = rw (← c.self.view_is) at c.requires in
    let within = at_within _ _ (AsksCommit (noted_at c.args.s (noted_of c.self.inside.sessions.items))) asked in
    let kept : c.args.s < length c.self.inside.sessions.items = within_kept c.self.inside.sessions.items c.self.inside.locks.held c.args.s (AsksCommit (noted_at c.args.s (noted_of c.self.inside.sessions.items))) asked in
    let fit = fits_at _ _ c.args.s c.index-session.result.now c.self.invariant.fit within c.index-session.ensures in
    let written = written_kept c.index-session.result.now.transaction (held_at c.args.s c.self.inside.locks.held) fit in
    let few : length (held_at c.args.s c.self.inside.locks.held ++ table_locks (option_copied c.created.result)) ≤ c.index-session.result.now.noted = rw (c.created.ensures, noted_kept c.self.inside.sessions.items c.args.s c.index-session.result.now kept c.index-session.ensures, ← written) (at_kept _ _ c.args.s c.index-session.result.now (AsksCommit (noted_at c.args.s (noted_of c.self.inside.sessions.items))) c.self.invariant.fit within c.index-session.ensures asked).room in
    let same = same_at c.self.inside.sessions.items c.args.s c.index_mut-session.result.now c.index-session.result.now kept c.index_mut-session.ensures.value c.index-session.ensures in
    let none : c.note.new.self ≡ record (c.index-session.result.now) { noted = 0 } = c.note.ensures ∙ ap (λ (k : KeptSession). record k { noted = 0 }) same in
    let ended = committed c.self.inside.sessions.items c.self.inside.locks c.write_names.new.locks c.self.inside.noted c.args.s c.index-session.result.now c.end.new.self _ c.self.invariant within c.index-session.ensures
    (rw none at (c.end.ensures (held_at c.args.s c.self.inside.locks.held))) c.write_names.ensures.held c.write_names.ensures.room few in
    rw (c.drop_all.ensures, c.noted-noted.ensures) ended.table

pub returns : goal.returns
returns c =
    let asked = rw (← c.self.view_is) at c.requires in
    let within = at_within _ _ (AsksCommit (noted_at c.args.s (noted_of c.self.inside.sessions.items))) asked in
    let kept : c.args.s < length c.self.inside.sessions.items = within_kept c.self.inside.sessions.items c.self.inside.locks.held c.args.s (AsksCommit (noted_at c.args.s (noted_of c.self.inside.sessions.items))) asked in
    let fit = fits_at _ _ c.args.s c.index-session.result.now c.self.invariant.fit within c.index-session.ensures in
    let written = written_kept c.index-session.result.now.transaction (held_at c.args.s c.self.inside.locks.held) fit in
    let few : length (held_at c.args.s c.self.inside.locks.held ++ table_locks (option_copied c.created.result)) ≤ c.index-session.result.now.noted = rw (c.created.ensures, noted_kept c.self.inside.sessions.items c.args.s c.index-session.result.now kept c.index-session.ensures, ← written) (at_kept _ _ c.args.s c.index-session.result.now (AsksCommit (noted_at c.args.s (noted_of c.self.inside.sessions.items))) c.self.invariant.fit within c.index-session.ensures asked).room in
    let same = same_at c.self.inside.sessions.items c.args.s c.index_mut-session.result.now c.index-session.result.now kept c.index_mut-session.ensures.value c.index-session.ensures in
    let none : c.note.new.self ≡ record (c.index-session.result.now) { noted = 0 } = c.note.ensures ∙ ap (λ (k : KeptSession). record k { noted = 0 }) same in
    let ended = committed c.self.inside.sessions.items c.self.inside.locks c.write_names.new.locks c.self.inside.noted c.args.s c.index-session.result.now c.end.new.self _ c.self.invariant within c.index-session.ensures
    (rw none at (c.end.ensures (held_at c.args.s c.self.inside.locks.held))) c.write_names.ensures.held c.write_names.ensures.room few in
    rw (← c.self.view_is, c.drop_all.ensures) (record {
      sessions = ended.sessions_are;
      noted = ended.noted_are;
      wrote = at_made c.self.inside.sessions.items c.self.inside.locks.held c.args.s c.index-session.result.now (λ session. WritesAll (written_names (work_in session.standing)) c.args.c c.self.inside.locks.wrote c.write_names.new.locks.wrote) c.self.invariant.fit within c.index-session.ensures
          (rw (written, ← c.created.ensures) c.write_names.ensures.wrote);
    })

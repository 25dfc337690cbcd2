use Rattle.std.proofs.Common.{rules, ◌≡◌, ◌<◌, ◌++◌, Some, None, length, slice_set}
use Rattle.iq_locks.specs.Locked.{held_at, wanted}
use Rattle.iq_replay.specs.State.{not_held}
use Rattle.iq_replay.specs.Changes.{locks_more}
use Rattle.iq_sessions.specs.Kept.{sessions_of}
use Rattle.iq_sessions.specs.Table.{AsksLock, table_of, with_at, names_refusal}
use Rattle.iq_sessions.proofs.Turns.{within_kept, at_within, at_kept, at_held, fits_at, within_held, turned, lock_few, lock_runs}
use Rattle.iq_sessions.proofs.Refused.{refusal_same}
use Rattle.iq_sessions.proofs.session_table.SessionTable.lock.Goals as goal

pub acquire-requires-clause-session : goal.acquire-requires-clause-session
acquire-requires-clause-session c =
    let asked = rw (← c.self.view_is) at c.requires in
    within_held _ _ c.args.s c.self.invariant.fit (at_within _ _ (AsksLock c.args.names.now c.args.snapshot) asked)

pub acquire-requires-clause-few : goal.acquire-requires-clause-few
acquire-requires-clause-few c =
    lock_few c.self.inside.sessions.items c.self.inside.locks.held c.args.s c.args.names.now c.args.snapshot c.self.invariant.fit (rw (← c.self.view_is) at c.requires)

pub returns-in-Err-clause-err : goal.returns-in-Err-clause-err
returns-in-Err-clause-err c =
    rw (← c.self.view_is)
    (at_held c.self.inside.sessions.items c.self.inside.locks.held c.args.s (λ held. names_refusal (sessions_of c.self.inside.sessions.items c.self.inside.locks.held) c.self.inside.locks.wrote c.args.s c.args.snapshot (not_held held c.args.names.now) ≡ Some c.in-Err.cause)
    c.self.invariant.fit (at_within _ _ (AsksLock c.args.names.now c.args.snapshot) (rw (← c.self.view_is) at c.requires))
    (rw (← refusal_same c.self.inside.sessions.items c.self.inside.locks.held c.self.inside.locks.wrote c.args.s c.args.snapshot (not_held (held_at c.args.s c.self.inside.locks.held) c.args.names.now) c.self.invariant.fit) c.in-Err.ensures.err))

pub index_mut-requires : goal.index_mut-requires
index_mut-requires c =
    let asked = rw (← c.self.view_is) at c.requires in
    let kept : c.args.s < length c.self.inside.sessions.items = within_kept c.self.inside.sessions.items c.self.inside.locks.held c.args.s (AsksLock c.args.names.now c.args.snapshot) asked in
    search rules

pub lock-requires-clause-open_still : goal.lock-requires-clause-open_still
lock-requires-clause-open_still c =
    let asked = rw (← c.self.view_is) at c.requires in
    let within = at_within _ _ (AsksLock c.args.names.now c.args.snapshot) asked in
    (at_kept _ _ c.args.s c.index_mut.result.now (AsksLock c.args.names.now c.args.snapshot) c.self.invariant.fit within c.index_mut.ensures.value asked).open_still

pub lock-requires-clause-running : goal.lock-requires-clause-running
lock-requires-clause-running c =
    let asked = rw (← c.self.view_is) at c.requires in
    let within = at_within _ _ (AsksLock c.args.names.now c.args.snapshot) asked in
    lock_runs _ _ _ (at_kept _ _ c.args.s c.index_mut.result.now (AsksLock c.args.names.now c.args.snapshot) c.self.invariant.fit within c.index_mut.ensures.value asked).runs

pub invariant_of-self : goal.invariant_of-self
invariant_of-self c =
    let asked = rw (← c.self.view_is) at c.requires in
    let within = at_within _ _ (AsksLock c.args.names.now c.args.snapshot) asked in
    let fit = fits_at _ _ c.args.s c.index_mut.result.now c.self.invariant.fit within c.index_mut.ensures.value in
    let more = wanted c.self.inside.locks c.args.s c.args.names.now in
    rw c.in-Ok.ensures.ok (turned c.self.inside.sessions.items c.self.inside.locks c.self.inside.noted c.args.s (locks_more more) c.index_mut.result.now c.lock.new.self (held_at c.args.s c.self.inside.locks.held ++ more) c.self.invariant within c.index_mut.ensures.value (c.lock.ensures (held_at c.args.s c.self.inside.locks.held) more fit)).table

pub returns-in-Ok-clause-ok : goal.returns-in-Ok-clause-ok
returns-in-Ok-clause-ok c =
    let asked = rw (← c.self.view_is) at c.requires in
    let within = at_within _ _ (AsksLock c.args.names.now c.args.snapshot) asked in
    let fit = fits_at _ _ c.args.s c.index_mut.result.now c.self.invariant.fit within c.index_mut.ensures.value in
    let more = wanted c.self.inside.locks c.args.s c.args.names.now in
    rw (← c.self.view_is)
    (at_held c.self.inside.sessions.items c.self.inside.locks.held c.args.s (λ held. table_of (slice_set c.self.inside.sessions.items c.args.s c.lock.new.self) c.acquire.new.locks ≡ with_at c.args.s (locks_more (not_held held c.args.names.now)) (table_of c.self.inside.sessions.items c.self.inside.locks))
    c.self.invariant.fit within
    (rw c.in-Ok.ensures.ok (turned c.self.inside.sessions.items c.self.inside.locks c.self.inside.noted c.args.s (locks_more more) c.index_mut.result.now c.lock.new.self (held_at c.args.s c.self.inside.locks.held ++ more) c.self.invariant within c.index_mut.ensures.value (c.lock.ensures (held_at c.args.s c.self.inside.locks.held) more fit)).view))

pub returns-in-Ok-clause-granted : goal.returns-in-Ok-clause-granted
returns-in-Ok-clause-granted c =
    rw (← c.self.view_is)
    (at_held c.self.inside.sessions.items c.self.inside.locks.held c.args.s (λ held. names_refusal (sessions_of c.self.inside.sessions.items c.self.inside.locks.held) c.self.inside.locks.wrote c.args.s c.args.snapshot (not_held held c.args.names.now) ≡ None)
    c.self.invariant.fit (at_within _ _ (AsksLock c.args.names.now c.args.snapshot) (rw (← c.self.view_is) at c.requires))
    (rw (← refusal_same c.self.inside.sessions.items c.self.inside.locks.held c.self.inside.locks.wrote c.args.s c.args.snapshot (not_held (held_at c.args.s c.self.inside.locks.held) c.args.names.now) c.self.invariant.fit) c.in-Ok.ensures.granted))

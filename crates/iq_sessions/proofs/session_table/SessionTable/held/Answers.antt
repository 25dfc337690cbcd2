use Rattle.iq_sessions.proofs.Turns.{as_many, as_many_held, held_made}
use Rattle.iq_sessions.proofs.session_table.SessionTable.held.Goals as goal

pub held-requires : goal.held-requires
held-requires c = rw (as_many_held _ _ c.self.invariant.fit, ← as_many c.self.inside.sessions.items c.self.inside.locks.held) (rw (← c.self.view_is) at c.requires)

pub returns : goal.returns
returns c =
    rw (← c.self.view_is, c.held.ensures) (held_made c.self.inside.sessions.items c.self.inside.locks.held c.args.s c.self.invariant.fit (rw (← c.self.view_is) at c.requires))

use Rattle.iq_sessions.proofs.Left.{clear_open}
use Rattle.iq_sessions.proofs.session.Session.has_not_created.Goals as goal

pub returns : goal.returns
returns c = rw (← c.self.view_is) (clear_open _ _ c.self.invariant.clear (rw (← c.self.view_is) at c.requires))

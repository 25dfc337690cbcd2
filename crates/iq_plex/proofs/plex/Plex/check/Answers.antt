use Rattle.iq_plex.proofs.Asking.{check_refuses}
use Rattle.iq_plex.proofs.plex.Plex.check.Goals as goal

pub returns-clause-refused : goal.returns-clause-refused
returns-clause-refused c = check_refuses c.args.self.now c.args.line c.args.write.now c.check.result c.requires.begun c.check.ensures.placed c.check.ensures.cause

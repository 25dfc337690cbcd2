use Rattle.iq_plex.proofs.Stepping.{refuse_ends}
use Rattle.iq_plex.proofs.plex.Plex.refuse.Goals as goal

pub returns-clause-line : goal.returns-clause-line
returns-clause-line c = rw c.refuse.ensures (refuse_ends c.args.self.now c.args.line c.args.cause c.requires)

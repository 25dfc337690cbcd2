use Rattle.iq_plex.proofs.Stepping.{begin_does, begin_goes}
use Rattle.iq_plex.proofs.plex.Plex.begin.Goals as goal

pub returns-clause-on : goal.returns-clause-on
returns-clause-on c = rw c.begin.ensures.begun (begin_goes c.args.self.now c.args.line c.begin.result c.args.statement.now c.requires.waits c.requires.own c.in_default.ensures c.begin.ensures.snapshot)

pub returns-clause-begun : goal.returns-clause-begun
returns-clause-begun c = rw c.begin.ensures.begun (begin_does c.args.self.now c.args.line c.begin.result c.args.statement.now c.requires.waits c.requires.own c.in_default.ensures c.begin.ensures.snapshot)

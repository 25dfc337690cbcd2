use Rattle.iq_plex.proofs.Stepping.{end_ends}
use Rattle.iq_plex.proofs.plex.Plex.end.Goals as goal

pub returns-clause-line : goal.returns-clause-line
returns-clause-line c = rw c.end.ensures (end_ends c.args.self.now c.args.line c.args.select.now _ c.requires.done)

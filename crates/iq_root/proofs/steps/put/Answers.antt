use Rattle.iq_root.proofs.StepLemmas.{written_ok}
use Rattle.iq_root.proofs.steps.put.Goals as goal

pub returns-in-Ok-clause-written : goal.returns-in-Ok-clause-written
returns-in-Ok-clause-written g c = written_ok g.D.Device _ _ _ _ _ _ c.in-Ok.ensures.written

use Rattle.iq_script.proofs.Kept.{read_runnable}
use Rattle.iq_script.proofs.scripts.read_script.Goals as goal

pub returns-in-None-clause-runnable : goal.returns-in-None-clause-runnable
returns-in-None-clause-runnable c =
    rw c.script_of.ensures (read_runnable _ c.in_ok-reading.reading c.in_ok-reading.ensures.ok c.in-None.ensures.0 c.in-None.ensures.1)

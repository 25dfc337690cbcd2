use Rattle.iq_script.proofs.ScriptLaws.{run_or_refused}
use Rattle.iq_script.proofs.laws.run_or_refused.Goals as goal

pub returns : goal.returns
returns c = run_or_refused

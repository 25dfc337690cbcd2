use Rattle.iq_script.proofs.ScriptLaws.{one_fault}
use Rattle.iq_script.proofs.laws.one_fault.Goals as goal

pub returns : goal.returns
returns c = one_fault

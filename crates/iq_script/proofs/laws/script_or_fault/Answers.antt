use Rattle.iq_script.proofs.ScriptLaws.{script_or_fault}
use Rattle.iq_script.proofs.laws.script_or_fault.Goals as goal

pub returns : goal.returns
returns c = script_or_fault

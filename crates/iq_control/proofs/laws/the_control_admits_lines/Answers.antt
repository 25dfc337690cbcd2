use Rattle.iq_control.proofs.Admitted.{named_line, unrefused_line}
use Rattle.iq_control.proofs.laws.the_control_admits_lines.Goals as goal

pub returns-clause-named : goal.returns-clause-named
returns-clause-named c = λ k s place l agrees at_line names. named_line k s place l agrees at_line names

pub returns-clause-unrefused : goal.returns-clause-unrefused
returns-clause-unrefused c = λ k s place l agrees at_line fit. unrefused_line k s place l agrees at_line fit

use Rattle.iq_replay.specs.Asked.{IsOpen}
use Rattle.iq_replay.specs.Causes.{IsWorking}
use Rattle.iq_control.specs.Asked.{IsNotAdmitted, HasLost, IsWriting, IsHaltedCommit, AreRefused}
use Rattle.iq_control.proofs.Lines.{line_at}
use Rattle.iq_control.proofs.Possible.{not_admitted, was_lost, was_halted, commit_halted, names_refused, store_fault, no_memory}
use Rattle.iq_control.proofs.laws.the_control_knows_causes.Goals as goal

pub returns-clause-admitted : goal.returns-clause-admitted
returns-clause-admitted c = λ k s place l cause h at_line. not_admitted k s place l cause h (line_at k s place l (IsNotAdmitted k cause) h at_line)

pub returns-clause-lost : goal.returns-clause-lost
returns-clause-lost c = λ k s place l incarnation h at_line. was_lost k s place l incarnation h (line_at k s place l (HasLost k incarnation) h at_line)

pub returns-clause-halted : goal.returns-clause-halted
returns-clause-halted c = λ k s place l commit h at_line halted named. was_halted k s place l commit h (line_at k s place l IsWriting h at_line) halted named

pub returns-clause-halted_commit : goal.returns-clause-halted_commit
returns-clause-halted_commit c = λ k s place l commit h at_line halted. commit_halted k s place l commit h (line_at k s place l (IsHaltedCommit k) h at_line) halted

pub returns-clause-names : goal.returns-clause-names
returns-clause-names c = λ k s place l cause h at_line halted named. names_refused k s place l cause h (line_at k s place l (AreRefused k place cause) h at_line) halted named

pub returns-clause-fault : goal.returns-clause-fault
returns-clause-fault c = λ k s place l before after h at_line rises. store_fault k s place l before after h (line_at k s place l IsWorking h at_line) rises

pub returns-clause-memory : goal.returns-clause-memory
returns-clause-memory c = λ k s place l h at_line. no_memory s place l (line_at k s place l (λ session statement. IsOpen session.stage) h at_line)

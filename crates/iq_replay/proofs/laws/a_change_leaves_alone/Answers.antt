use Rattle.iq_replay.proofs.Kept.{constants-change, commits-change, reports-change, session-change, node-change}
use Rattle.iq_replay.proofs.laws.a_change_leaves_alone.Goals as goal

pub returns-clause-constants : goal.returns-clause-constants
returns-clause-constants c = constants-change

pub returns-clause-commits : goal.returns-clause-commits
returns-clause-commits c = commits-change

pub returns-clause-reports : goal.returns-clause-reports
returns-clause-reports c = reports-change

pub returns-clause-sessions : goal.returns-clause-sessions
returns-clause-sessions c = session-change

pub returns-clause-nodes : goal.returns-clause-nodes
returns-clause-nodes c = node-change

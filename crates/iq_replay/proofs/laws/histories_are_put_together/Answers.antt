use Rattle.iq_replay.proofs.Histories.{replay-append, IsLegal-append, IsLegal-front, IsLegal-rest, IsLegal-push}
use Rattle.iq_replay.proofs.laws.histories_are_put_together.Goals as goal

pub returns-clause-state : goal.returns-clause-state
returns-clause-state c = replay-append

pub returns-clause-legal : goal.returns-clause-legal
returns-clause-legal c = IsLegal-append

pub returns-clause-front : goal.returns-clause-front
returns-clause-front c = IsLegal-front

pub returns-clause-rest : goal.returns-clause-rest
returns-clause-rest c = IsLegal-rest

pub returns-clause-one_more : goal.returns-clause-one_more
returns-clause-one_more c = IsLegal-push

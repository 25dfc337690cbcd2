use Rattle.std.specs.Prelude.{refl, take, drop}
use Rattle.std.proofs.Common.{rules, inl, inr}
use Rattle.iq_replay.specs.Entries.{IsPossible, change}
use Rattle.iq_replay.specs.Histories.{replay, replies, IsLegal}
use Rattle.iq_replay.proofs.Histories.{IsLegal-append}
use Rattle.iq_replay_tests.specs.Savepoints.{before, history}
use Rattle.iq_replay_tests.proofs.savepoints.savepoints_of_a_transaction.Goals as goal

legal_before : IsLegal before (take 19 history)
unfolding IsLegal IsPossible change
legal_before = search (inl, inr)

legal_behind : IsLegal (replay before (take 19 history)) (drop 19 history)
unfolding IsLegal IsPossible replay change
legal_behind = search (inl, inr)

legal : IsLegal before history
legal = IsLegal-append before (take 19 history) (drop 19 history) legal_before legal_behind

pub returns-clause-whole : goal.returns-clause-whole
unfolding replay change
returns-clause-whole c = record { legal = legal; sessions = (record { no_line = refl; no_run = tt }, tt); steps = refl }

pub returns-clause-ordered : goal.returns-clause-ordered
returns-clause-ordered c = search rules

pub returns-clause-replied : goal.returns-clause-replied
unfolding replay replies change
returns-clause-replied c = refl

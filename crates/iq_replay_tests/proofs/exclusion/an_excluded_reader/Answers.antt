use Rattle.std.specs.Prelude.{refl}
use Rattle.std.proofs.Common.{rules, inl, inr}
use Rattle.iq_replay.specs.Entries.{IsPossible, change}
use Rattle.iq_replay.specs.Histories.{replay, replies, IsLegal}
use Rattle.iq_replay_tests.specs.Exclusion.{before, history}
use Rattle.iq_replay_tests.proofs.exclusion.an_excluded_reader.Goals as goal

legal : IsLegal before history
unfolding IsLegal IsPossible change
legal = search (inl, inr)

pub returns-clause-whole : goal.returns-clause-whole
unfolding replay change
returns-clause-whole c = record { legal = legal; sessions = (record { no_line = refl; no_run = tt }, (record { no_line = refl; no_run = tt }, tt)); steps = refl }

pub returns-clause-ordered : goal.returns-clause-ordered
returns-clause-ordered c = search rules

pub returns-clause-replied : goal.returns-clause-replied
unfolding replay replies change
returns-clause-replied c = refl

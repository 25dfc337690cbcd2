use Rattle.std.specs.Prelude.{◌<◌, refl}
use Rattle.std.proofs.Common.{arith, rules, inl, inr}
use Rattle.iq_replay.specs.Entries.{IsPossible, change}
use Rattle.iq_replay.specs.Histories.{replay, replies, IsLegal}
use Rattle.iq_replay_tests.specs.Reports.{before, history}
use Rattle.iq_replay_tests.proofs.reports.versions_beneath_a_reader.Goals as goal

two_behind : 2 < 4
two_behind = omega arith

one_behind : 3 < 4
one_behind = omega arith

legal : IsLegal before history
unfolding IsLegal IsPossible change
legal = search (inl, inr, two_behind, one_behind)

pub returns-clause-whole : goal.returns-clause-whole
unfolding replay change
returns-clause-whole c = record { legal = legal; sessions = (record { no_line = refl; no_run = tt }, (record { no_line = refl; no_run = tt }, tt)); steps = refl }

pub returns-clause-ordered : goal.returns-clause-ordered
returns-clause-ordered c = search rules

pub returns-clause-replied : goal.returns-clause-replied
unfolding replay replies change
returns-clause-replied c = refl

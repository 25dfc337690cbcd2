use Rattle.std.specs.Prelude.{refl}
use Rattle.std.proofs.Common.{arith, inl, inr}
use Rattle.iq_replay.specs.Asked.{Rises}
use Rattle.iq_replay.specs.Entries.{IsPossible, change}
use Rattle.iq_replay.specs.Histories.{replay, replies, IsLegal}
use Rattle.iq_replay_tests.specs.Interleaved.{before, history}
use Rattle.iq_replay_tests.proofs.interleaved.lines_between_each_other.Goals as goal

halted : Rises 0 0 1
halted = record { later = omega arith; rose = inl (omega arith) }

risen : Rises 1 1 3
risen = record { later = omega arith; rose = inl (omega arith) }

legal : IsLegal before history
unfolding IsLegal IsPossible change
legal = search (inl, inr, halted, risen)

pub returns-clause-whole : goal.returns-clause-whole
unfolding replay change
returns-clause-whole c = record { legal = legal; sessions = (record { no_line = refl; no_run = tt }, (record { no_line = refl; no_run = tt }, (record { no_line = refl; no_run = tt }, tt))); steps = refl }

pub returns-clause-replied : goal.returns-clause-replied
unfolding replay replies change
returns-clause-replied c = refl

use Rattle.std.specs.Prelude.{refl}
use Rattle.std.proofs.Common.{arith, inl, inr}
use Rattle.iq_replay.specs.Asked.{Rises}
use Rattle.iq_replay.specs.Entries.{IsPossible, change}
use Rattle.iq_replay.specs.Histories.{replay, replies, IsLegal}
use Rattle.iq_replay_tests.specs.LostAtTheEnd.{before, history}
use Rattle.iq_replay_tests.proofs.lost_at_the_end.lost_and_halted_behind_the_effect.Goals as goal

risen : Rises 0 5 7
risen = record { later = omega arith; rose = inl (omega arith) }

legal : IsLegal before history
unfolding IsLegal IsPossible change
legal = search (inl, inr, risen)

pub returns-clause-whole : goal.returns-clause-whole
unfolding replay change
returns-clause-whole c = record { legal = legal; sessions = (record { no_line = refl; no_run = tt }, (record { no_line = refl; no_run = tt }, (record { no_line = refl; no_run = tt }, tt))); steps = refl }

pub returns-clause-replied : goal.returns-clause-replied
unfolding replay replies change
returns-clause-replied c = refl

use Rattle.std.proofs.Common.{arith}
use Rattle.iq_replay.specs.Entries.{IsPossible, change}
use Rattle.iq_replay.specs.Histories.{IsLegal}
use Rattle.iq_replay_tests.proofs.locking.other_histories_of_two_writers.Goals as goal

pub returns-clause-a_number_is_left_out : goal.returns-clause-a_number_is_left_out
unfolding IsLegal IsPossible change
returns-clause-a_number_is_left_out c h = grind (arith, h.1.1.1.1.1.1.1.1.1.1.1.1.1.1.1.1.1.0)

pub returns-clause-a_write_without_its_lock : goal.returns-clause-a_write_without_its_lock
unfolding IsLegal IsPossible change
returns-clause-a_write_without_its_lock c h = grind (arith, h.1.1.1.1.1.1.1.1.1.1.1.1.1.1.1.0)

pub returns-clause-later_than_the_commit_before : goal.returns-clause-later_than_the_commit_before
unfolding IsLegal IsPossible change
returns-clause-later_than_the_commit_before c h = grind (arith, h.1.1.1.1.1.1.1.1.1.1.1.0)

pub returns-clause-a_line_is_left_out : goal.returns-clause-a_line_is_left_out
unfolding IsLegal IsPossible change
returns-clause-a_line_is_left_out c h = grind (arith, h.1.1.1.1.1.1.1.1.1.1.1.1.1.0)

use Rattle.std.proofs.Common.{arith}
use Rattle.iq_replay.specs.Entries.{IsPossible, change}
use Rattle.iq_replay.specs.Histories.{IsLegal}
use Rattle.iq_replay_tests.proofs.halts.other_histories_of_a_halt.Goals as goal

pub returns-clause-a_lock_after_the_halt : goal.returns-clause-a_lock_after_the_halt
unfolding IsLegal IsPossible change
returns-clause-a_lock_after_the_halt c h = grind (arith, h.1.1.1.1.1.1.1.1.1.0)

pub returns-clause-the_halted_commit_counts : goal.returns-clause-the_halted_commit_counts
unfolding IsLegal IsPossible change
returns-clause-the_halted_commit_counts c h = grind (arith, h.1.1.1.1.1.1.1.1.0)

pub returns-clause-no_fault_was_counted : goal.returns-clause-no_fault_was_counted
unfolding IsLegal IsPossible change
returns-clause-no_fault_was_counted c h = grind (arith, h.1.1.1.1.1.1.1.0)

pub returns-clause-another_commit_halts : goal.returns-clause-another_commit_halts
unfolding IsLegal IsPossible change
returns-clause-another_commit_halts c h = grind (arith, h.1.1.1.1.1.1.1.0)

pub returns-clause-halted_names_another : goal.returns-clause-halted_names_another
unfolding IsLegal IsPossible change
returns-clause-halted_names_another c h = grind (arith, h.1.1.1.1.1.1.1.1.1.0)

pub returns-clause-a_commit_is_refused_without_halt : goal.returns-clause-a_commit_is_refused_without_halt
unfolding IsLegal IsPossible change
returns-clause-a_commit_is_refused_without_halt c h = grind (arith, h.1.1.1.1.1.1.1.0)

pub returns-clause-halted_before_any_halt : goal.returns-clause-halted_before_any_halt
unfolding IsLegal IsPossible change
returns-clause-halted_before_any_halt c h = grind (arith, h.1.1.1.1.1.1.1.0)

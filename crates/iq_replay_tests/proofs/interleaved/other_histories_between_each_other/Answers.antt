use Rattle.std.proofs.Common.{arith}
use Rattle.iq_replay.specs.Entries.{IsPossible, change}
use Rattle.iq_replay.specs.Histories.{IsLegal}
use Rattle.iq_replay_tests.proofs.interleaved.other_histories_between_each_other.Goals as goal

pub returns-clause-a_fault_counted_twice : goal.returns-clause-a_fault_counted_twice
unfolding IsLegal IsPossible change
returns-clause-a_fault_counted_twice c h = grind (arith, h.1.1.1.1.1.1.1.1.1.1.1.1.1.1.1.1.1.1.1.1.1.1.1.1.1.0)

pub returns-clause-a_lock_after_the_halt : goal.returns-clause-a_lock_after_the_halt
unfolding IsLegal IsPossible change
returns-clause-a_lock_after_the_halt c h = grind (arith, h.1.1.1.1.1.1.1.1.1.1.1.1.1.1.1.1.1.1.1.1.1.1.1.1.1.0)

pub returns-clause-a_bad_page_of_an_honest_device : goal.returns-clause-a_bad_page_of_an_honest_device
unfolding IsLegal IsPossible change
returns-clause-a_bad_page_of_an_honest_device c h = grind (arith, h.1.1.1.1.1.1.1.1.1.1.1.1.1.1.1.1.1.1.1.1.1.1.1.1.1.0)

pub returns-clause-an_effect_of_a_lost_line : goal.returns-clause-an_effect_of_a_lost_line
unfolding IsLegal IsPossible change
returns-clause-an_effect_of_a_lost_line c h = grind (arith, h.1.1.1.1.1.1.1.1.0)

pub returns-clause-a_loss_is_not_told : goal.returns-clause-a_loss_is_not_told
unfolding IsLegal IsPossible change
returns-clause-a_loss_is_not_told c h = grind (arith, h.1.1.1.1.1.1.1.1.0)

pub returns-clause-the_end_before_the_last_line : goal.returns-clause-the_end_before_the_last_line
unfolding IsLegal IsPossible change
returns-clause-the_end_before_the_last_line c h = grind (arith, h.1.1.1.1.1.1.1.1.1.1.1.1.1.1.1.1.1.1.1.1.1.1.1.1.0)

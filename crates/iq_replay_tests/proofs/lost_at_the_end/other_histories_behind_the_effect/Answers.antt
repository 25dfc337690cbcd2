use Rattle.std.proofs.Common.{arith}
use Rattle.iq_replay.specs.Entries.{IsPossible, change}
use Rattle.iq_replay.specs.Histories.{IsLegal}
use Rattle.iq_replay_tests.proofs.lost_at_the_end.other_histories_behind_the_effect.Goals as goal

pub returns-clause-a_commit_of_a_lost_transaction : goal.returns-clause-a_commit_of_a_lost_transaction
unfolding IsLegal IsPossible change
returns-clause-a_commit_of_a_lost_transaction c h = grind (arith, h.1.1.1.1.1.1.1.1.1.1.1.1.1.1.0)

pub returns-clause-want_of_memory_behind_the_effect : goal.returns-clause-want_of_memory_behind_the_effect
unfolding IsLegal IsPossible change
returns-clause-want_of_memory_behind_the_effect c h = grind (arith, h.1.1.1.1.1.1.1.1.1.1.1.1.1.1.0)

pub returns-clause-a_commit_after_the_halt : goal.returns-clause-a_commit_after_the_halt
unfolding IsLegal IsPossible change
returns-clause-a_commit_after_the_halt c h = grind (arith, h.1.1.1.1.1.1.1.1.1.1.1.1.1.1.1.1.1.1.1.1.1.1.1.1.0)

pub returns-clause-want_of_memory_behind_a_halt : goal.returns-clause-want_of_memory_behind_a_halt
unfolding IsLegal IsPossible change
returns-clause-want_of_memory_behind_a_halt c h = grind (arith, h.1.1.1.1.1.1.1.1.1.1.1.1.1.1.1.1.1.1.1.1.1.1.1.1.0)

pub returns-clause-a_fault_without_a_halt : goal.returns-clause-a_fault_without_a_halt
unfolding IsLegal IsPossible change
returns-clause-a_fault_without_a_halt c h = grind (arith, h.1.1.1.1.1.1.1.1.1.1.1.1.1.1.1.1.1.1.1.1.1.1.1.1.0)

pub returns-clause-a_halt_without_a_fault : goal.returns-clause-a_halt_without_a_fault
unfolding IsLegal IsPossible change
returns-clause-a_halt_without_a_fault c h = grind (arith, h.1.1.1.1.1.1.1.1.1.1.1.1.1.1.1.1.1.1.1.1.1.1.1.0)

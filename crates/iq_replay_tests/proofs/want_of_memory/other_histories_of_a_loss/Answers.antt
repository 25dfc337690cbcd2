use Rattle.std.proofs.Common.{arith}
use Rattle.iq_replay.specs.Entries.{IsPossible, change}
use Rattle.iq_replay.specs.Histories.{IsLegal}
use Rattle.iq_replay_tests.proofs.want_of_memory.other_histories_of_a_loss.Goals as goal

pub returns-clause-a_loss_is_not_told : goal.returns-clause-a_loss_is_not_told
unfolding IsLegal IsPossible change
returns-clause-a_loss_is_not_told c h = grind (arith, h.1.1.1.1.1.1.1.1.1.1.1.1.1.0)

pub returns-clause-the_incarnation_before : goal.returns-clause-the_incarnation_before
unfolding IsLegal IsPossible change
returns-clause-the_incarnation_before c h = grind (arith, h.1.1.1.1.1.1.1.1.1.1.1.1.0)

pub returns-clause-a_transaction_goes_on : goal.returns-clause-a_transaction_goes_on
unfolding IsLegal IsPossible change
returns-clause-a_transaction_goes_on c h = grind (arith, h.1.1.1.1.1.1.1.1.1.1.1.1.0)

use Rattle.std.proofs.Common.{arith}
use Rattle.iq_replay.specs.Entries.{IsPossible, change}
use Rattle.iq_replay.specs.Histories.{IsLegal}
use Rattle.iq_replay_tests.proofs.exclusion.other_histories_of_an_exclusion.Goals as goal

pub returns-clause-an_incarnation_is_left_out : goal.returns-clause-an_incarnation_is_left_out
unfolding IsLegal IsPossible change
returns-clause-an_incarnation_is_left_out c h = grind (arith, h.1.1.1.1.1.1.1.1.1.1.1.1.1.1.1.1.1.1.1.0)

pub returns-clause-a_horizon_of_an_excluded_node : goal.returns-clause-a_horizon_of_an_excluded_node
unfolding IsLegal IsPossible change
returns-clause-a_horizon_of_an_excluded_node c h = grind (arith, h.1.1.1.1.1.1.1.1.1.1.1.1.1.1.1.1.1.1.1.1.1.1.1.0)

pub returns-clause-a_step_of_an_excluded_node : goal.returns-clause-a_step_of_an_excluded_node
unfolding IsLegal IsPossible change
returns-clause-a_step_of_an_excluded_node c h = grind (arith, h.1.1.1.1.1.1.1.1.1.1.1.1.1.1.1.1.1.1.1.1.1.0)

pub returns-clause-a_loss_is_not_told : goal.returns-clause-a_loss_is_not_told
unfolding IsLegal IsPossible change
returns-clause-a_loss_is_not_told c h = grind (arith, h.1.1.1.1.1.1.1.1.1.1.1.1.1.1.1.1.1.1.1.1.0)

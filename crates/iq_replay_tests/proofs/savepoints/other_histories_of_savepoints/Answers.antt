use Rattle.std.proofs.Common.{arith}
use Rattle.iq_replay.specs.Entries.{IsPossible, change}
use Rattle.iq_replay.specs.Histories.{IsLegal}
use Rattle.iq_replay_tests.proofs.savepoints.other_histories_of_savepoints.Goals as goal

pub returns-clause-a_number_is_left_out : goal.returns-clause-a_number_is_left_out
unfolding IsLegal IsPossible change
returns-clause-a_number_is_left_out c h = grind (arith, h.1.1.1.1.1.1.1.1.1.1.1.1.1.1.1.1.1.1.0)

pub returns-clause-a_savepoint_is_not_released : goal.returns-clause-a_savepoint_is_not_released
unfolding IsLegal IsPossible change
returns-clause-a_savepoint_is_not_released c h = grind (arith, h.1.1.1.1.1.1.1.1.1.1.1.1.1.0)

pub returns-clause-back_to_a_released_one : goal.returns-clause-back_to_a_released_one
unfolding IsLegal IsPossible change
returns-clause-back_to_a_released_one c h = grind (arith, h.1.1.1.1.1.1.1.1.1.1.1.1.1.1.0)

pub returns-clause-ended_without_a_number : goal.returns-clause-ended_without_a_number
unfolding IsLegal IsPossible change
returns-clause-ended_without_a_number c h = grind (arith, h.1.1.1.1.1.1.1.1.1.1.1.1.1.1.1.1.1.1.0)

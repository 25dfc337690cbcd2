use Rattle.std.proofs.Common.{arith}
use Rattle.iq_replay.specs.Entries.{IsPossible, change}
use Rattle.iq_replay.specs.Histories.{IsLegal}
use Rattle.iq_replay_tests.proofs.reports.other_histories_beneath_a_reader.Goals as goal

pub returns-clause-a_horizon_below_the_floors : goal.returns-clause-a_horizon_below_the_floors
unfolding IsLegal IsPossible change
returns-clause-a_horizon_below_the_floors c h = grind (arith, h.1.1.1.1.1.1.1.1.1.1.1.1.1.1.1.1.1.1.1.1.1.1.1.1.1.1.0)

pub returns-clause-a_record_is_left_out : goal.returns-clause-a_record_is_left_out
unfolding IsLegal IsPossible change
returns-clause-a_record_is_left_out c h = grind (arith, h.1.1.1.1.1.1.1.1.1.1.1.1.1.1.1.1.1.1.1.1.1.1.0)

pub returns-clause-a_query_that_takes_no_effect : goal.returns-clause-a_query_that_takes_no_effect
unfolding IsLegal IsPossible change
returns-clause-a_query_that_takes_no_effect c h = grind (arith, h.1.1.1.1.1.1.1.1.1.1.1.1.1.1.1.1.1.1.0)

pub returns-clause-a_floor_below_the_position : goal.returns-clause-a_floor_below_the_position
unfolding IsLegal IsPossible change
returns-clause-a_floor_below_the_position c h = grind (arith, h.1.1.1.1.1.1.1.1.1.1.1.1.1.1.1.1.1.1.1.1.1.1.1.1.0)

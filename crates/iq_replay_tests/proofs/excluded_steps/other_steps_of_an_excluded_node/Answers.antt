use Rattle.std.proofs.Common.{arith}
use Rattle.iq_replay.specs.Entries.{IsPossible, change}
use Rattle.iq_replay.specs.Histories.{IsLegal}
use Rattle.iq_replay_tests.proofs.excluded_steps.other_steps_of_an_excluded_node.Goals as goal

pub returns-clause-excluded_twice : goal.returns-clause-excluded_twice
unfolding IsLegal IsPossible change
returns-clause-excluded_twice c h = grind (arith, h.1.1.1.1.1.1.1.1.1.1.1.1.1.1.1.1.1.1.1.1.0)

pub returns-clause-a_record_is_applied : goal.returns-clause-a_record_is_applied
unfolding IsLegal IsPossible change
returns-clause-a_record_is_applied c h = grind (arith, h.1.1.1.1.1.1.1.1.1.1.1.1.1.1.1.1.1.1.1.1.1.0)

pub returns-clause-an_excluded_node_is_restarted : goal.returns-clause-an_excluded_node_is_restarted
unfolding IsLegal IsPossible change
returns-clause-an_excluded_node_is_restarted c h = grind (arith, h.1.1.1.1.1.1.1.1.1.1.1.1.1.1.1.1.1.1.1.1.1.1.0)

pub returns-clause-a_query_of_an_excluded_node : goal.returns-clause-a_query_of_an_excluded_node
unfolding IsLegal IsPossible change
returns-clause-a_query_of_an_excluded_node c h = grind (arith, h.1.1.1.1.1.1.1.1.1.1.1.1.1.1.1.1.1.1.1.1.1.1.1.1.0)

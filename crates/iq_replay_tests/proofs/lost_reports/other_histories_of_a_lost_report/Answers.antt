use Rattle.std.proofs.Common.{arith}
use Rattle.iq_replay.specs.Entries.{IsPossible, change}
use Rattle.iq_replay.specs.Histories.{IsLegal}
use Rattle.iq_replay_tests.proofs.lost_reports.other_histories_of_a_lost_report.Goals as goal

pub returns-clause-a_lost_report_is_taken : goal.returns-clause-a_lost_report_is_taken
unfolding IsLegal IsPossible change
returns-clause-a_lost_report_is_taken c h = grind (arith, h.1.1.1.1.1.1.1.1.1.1.1.0)

pub returns-clause-a_number_used_again : goal.returns-clause-a_number_used_again
unfolding IsLegal IsPossible change
returns-clause-a_number_used_again c h = grind (arith, h.1.1.1.1.1.1.1.1.1.1.1.1.1.1.0)

pub returns-clause-the_coordinator_is_restarted : goal.returns-clause-the_coordinator_is_restarted
unfolding IsLegal IsPossible change
returns-clause-the_coordinator_is_restarted c h = grind (arith, h.1.1.1.1.1.1.1.1.1.1.1.1.1.1.1.1.1.0)

pub returns-clause-a_block_too_many : goal.returns-clause-a_block_too_many
unfolding IsLegal IsPossible change
returns-clause-a_block_too_many c h = grind (arith, h.1.1.1.1.1.1.1.1.1.1.1.1.1.0)

use Rattle.std.proofs.Common.{◌≡◌, map, drop}
use Rattle.iq_truth.specs.Truths.{truth_and, truth_or}
use Rattle.iq_conditions.specs.Conditions.{cond_truth, all_truths, any_truth}
use Rattle.iq_statements.specs.Rows.{value_named}
use Rattle.iq_plain_tables.proofs.conditions.+truths.Given as goal

abbrev pub invariant-all_of-loop-member : goal.invariant-all_of-loop-member
invariant-all_of-loop-member l =
    truth_and l.all (all_truths (map (cond_truth (value_named l.columns l.row)) (drop l.member-index l.members)))
    ≡ all_truths (map (cond_truth (value_named l.columns l.row)) l.members)

abbrev pub invariant-any_of-loop-member : goal.invariant-any_of-loop-member
invariant-any_of-loop-member l =
    truth_or l.any (any_truth (map (cond_truth (value_named l.columns l.row)) (drop l.member-index l.members)))
    ≡ any_truth (map (cond_truth (value_named l.columns l.row)) l.members)

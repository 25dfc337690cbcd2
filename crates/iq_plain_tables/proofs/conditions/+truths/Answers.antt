use Rattle.std.proofs.Common.{rules}
use Rattle.iq_conditions.specs.Conditions.{cond_truth, truth_levels}
use Rattle.iq_statements.specs.Rows.{value_named}
use Rattle.iq_plain_tables.proofs.Levels.{not_fold, and_fold, or_fold, and_more, or_more}
use Rattle.iq_plain_tables.proofs.conditions.+truths.Goals as goal

pub all_of-loop-member-preserved : goal.all_of-loop-member-preserved
all_of-loop-member-preserved t c =
    let truth_of = cond_truth (value_named c.args.columns.now c.args.row.now) in
    let step = and_more truth_of c.args.members.now c.loop-member.member-index c.member-item.result c.loop-member.all c.loop-member-test.true c.member-item.is in
    search (rules, step)

pub any_of-loop-member-preserved : goal.any_of-loop-member-preserved
any_of-loop-member-preserved t c =
    let truth_of = cond_truth (value_named c.args.columns.now c.args.row.now) in
    let step = or_more truth_of c.args.members.now c.loop-member.member-index c.member-item.result c.loop-member.any c.loop-member-test.true c.member-item.is in
    search (rules, step)

pub truth-returns-in-Not : goal.truth-returns-in-Not
truth-returns-in-Not t c =
    let levels = truth_levels (value_named c.args.columns.now c.args.row.now) in
    let step = not_fold levels c.in-Not.inner in
    search (rules, step)

pub truth-returns-in-And : goal.truth-returns-in-And
truth-returns-in-And t c =
    let levels = truth_levels (value_named c.args.columns.now c.args.row.now) in
    let step = and_fold levels c.in-And.members in
    search (rules, step)

pub truth-returns-in-Or : goal.truth-returns-in-Or
truth-returns-in-Or t c =
    let levels = truth_levels (value_named c.args.columns.now c.args.row.now) in
    let step = or_fold levels c.in-Or.members in
    search (rules, step)

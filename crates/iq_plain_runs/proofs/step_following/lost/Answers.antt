use Rattle.std.proofs.Common.{rules, ◌≡◌, Some}
use Rattle.iq_replay.specs.Nodes.{report_of}
use Rattle.iq_plain_runs.proofs.NextStep.{lose_next}
use Rattle.iq_plain_runs.proofs.step_following.lost.Goals as goal

pub returns-in-Some : goal.returns-in-Some
returns-in-Some c =
    let found : report_of c.args.number c.args.state.now.bag ≡ Some c.in-Some.field-0.now = search rules in
    lose_next _ _ _ c.in-Some.field-0.now c.requires found

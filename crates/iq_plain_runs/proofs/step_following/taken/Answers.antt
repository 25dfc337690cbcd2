use Rattle.std.proofs.Common.{rules, ◌≡◌, Some}
use Rattle.iq_floors.specs.Floors.{horizon}
use Rattle.iq_replay.specs.State.{changed_at}
use Rattle.iq_replay.specs.Changes.{taken_up}
use Rattle.iq_replay.specs.Nodes.{report_of, bounds_from}
use Rattle.iq_plain_runs.proofs.NextStep.{take_next}
use Rattle.iq_plain_runs.proofs.step_following.taken.Goals as goal

pub returns : goal.returns
returns c =
    let report = c.in-Some.report.now in
    let found : report_of c.args.number c.args.state.now.bag ≡ Some c.in-Some.report.now = search rules in
    let all : c.in_ok-horizon.horizon ≡ horizon c.args.state.now.latest (bounds_from c.args.state.now 0 (changed_at report.node (taken_up report.floor) c.args.state.now.nodes)) = search rules in
    rw all (take_next _ _ _ report c.requires found)

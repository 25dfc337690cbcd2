use Rattle.std.proofs.Common.{rules, ◌≡◌, ◌+◌, Some, false}
use Rattle.std.specs.List.{slice_get}
use Rattle.iq_replay.specs.Nodes.{is_coordinator}
use Rattle.iq_plain_runs.proofs.NextStep.{name_at, exclude_next}
use Rattle.iq_plain_runs.proofs.step_following.excluded.Goals as goal

pub returns : goal.returns
returns c =
    let found : slice_get c.args.state.now.nodes c.in_ok-n.n ≡ Some c.in_ok-node.node.now = search rules in
    let is = name_at _ _ _ found c.in_ok-n.ensures in
    let kind : is_coordinator c.in_ok-node.node.now.kind ≡ false = search rules in
    let here : c.in_ok-node.node.now.excluded ≡ false = search rules in
    let next : c.in_ok-incarnation.incarnation ≡ c.in_ok-node.node.now.incarnation + 1 = search rules in
    rw next (exclude_next _ _ _ c.in_ok-node.node.now c.args.name.now c.requires found is kind here)

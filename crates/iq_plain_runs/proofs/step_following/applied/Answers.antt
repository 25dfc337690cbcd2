use Rattle.std.proofs.Common.{rules, ◌≡◌, ◌<◌, ◌+◌, Some, false}
use Rattle.std.specs.List.{slice_get}
use Rattle.iq_replay.specs.Nodes.{node_position}
use Rattle.iq_plain_runs.proofs.NextStep.{name_at, apply_next}
use Rattle.iq_plain_runs.proofs.step_following.applied.Goals as goal

pub returns : goal.returns
returns c =
    let found : slice_get c.args.state.now.nodes c.in_ok-n.n ≡ Some c.in_ok-node.node.now = search rules in
    let is = name_at _ _ _ found c.in_ok-n.ensures in
    let here : c.in_ok-node.node.now.excluded ≡ false = search rules in
    let below : node_position c.args.state.now.latest c.in_ok-node.node.now < c.args.state.now.latest = search rules in
    let next : c.in_ok-c.c ≡ node_position c.args.state.now.latest c.in_ok-node.node.now + 1 = search rules in
    rw next (apply_next _ _ _ c.in_ok-node.node.now c.args.name.now c.requires found is here below)

use Rattle.std.proofs.Common.{rules, ◌≡◌, Some, true}
use Rattle.std.specs.List.{slice_get}
use Rattle.iq_plain_runs.proofs.NextStep.{name_at, include_next}
use Rattle.iq_plain_runs.proofs.step_following.included.Goals as goal

pub returns : goal.returns
returns c =
    let found : slice_get c.args.state.now.nodes c.in_ok-n.n ≡ Some c.in_ok-node.node.now = search rules in
    let is = name_at _ _ _ found c.in_ok-n.ensures in
    let out : c.in_ok-node.node.now.excluded ≡ true = search rules in
    rw c.latest-c.ensures (include_next _ _ _ c.in_ok-node.node.now c.args.name.now c.requires found is out)

use Rattle.std.proofs.Common.{rules, ◌≡◌, Some, true, false}
use Rattle.std.specs.List.{slice_get}
use Rattle.iq_replay.specs.Nodes.{is_coordinator, floor_of, horizon_of}
use Rattle.iq_plain_runs.proofs.NextStep.{name_at, own_next, send_next}
use Rattle.iq_plain_runs.proofs.step_following.reported.Goals as goal

pub returns-then-is_coordinator : goal.returns-then-is_coordinator
returns-then-is_coordinator c =
    let node = c.in-Some-node_at.node.now in
    let found : slice_get c.args.state.now.nodes c.in-Some.n ≡ Some c.in-Some-node_at.node.now = search rules in
    let is = name_at _ _ _ found c.in-Some.ensures in
    let kind : is_coordinator c.in-Some-node_at.node.now.kind ≡ true = search rules in
    let all : c.in_ok-horizon.horizon ≡ horizon_of c.args.state.now = search rules in
    rw all (own_next _ _ _ node c.args.name.now c.requires found is kind)

pub returns : goal.returns
returns c =
    let node = c.in-Some-node_at.node.now in
    let found : slice_get c.args.state.now.nodes c.in-Some.n ≡ Some c.in-Some-node_at.node.now = search rules in
    let is = name_at _ _ _ found c.in-Some.ensures in
    let kind : is_coordinator c.in-Some-node_at.node.now.kind ≡ false = search rules in
    let here : c.in-Some-node_at.node.now.excluded ≡ false = search rules in
    let low : c.in_ok-floor.floor ≡ floor_of c.args.state.now c.in-Some.n c.in-Some-node_at.node.now = search rules in
    rw (c.next_number-number.ensures, low) (send_next _ _ _ node c.args.name.now c.requires found is kind here)

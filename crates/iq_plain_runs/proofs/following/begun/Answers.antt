use Rattle.std.proofs.Common.{rules, ◌≡◌, Some}
use Rattle.std.specs.List.{slice_get}
use Rattle.iq_replay.specs.State.{idle, fresh}
use Rattle.iq_replay.specs.Nodes.{node_position}
use Rattle.iq_plain_runs.proofs.Next.{begin_next}
use Rattle.iq_plain_runs.proofs.following.begun.Goals as goal

pub returns : goal.returns
returns c =
    let stage : c.args.session.now.stage ≡ fresh = search rules in
    let none : c.args.session.now.standing ≡ idle = search rules in
    let node : slice_get c.args.state.now.nodes c.args.session.now.node ≡ Some c.in_ok-node.node.now = search rules in
    let position : c.position.result ≡ node_position c.args.state.now.latest c.in_ok-node.node.now = search rules in
    begin_next _ _ _ _ c.args.session.now c.args.statement.now c.requires.at c.requires.begins stage none c.requires.granted (rw node position)

use Rattle.std.proofs.Common.{rules, ◌<◌, length, refl}
use Rattle.iq_replay.specs.Changes.{excluded}
use Rattle.iq_plain_state.proofs.Places.{set_is_changed}
use Rattle.iq_plain_state.proofs.state.PlainState.exclude_node.Goals as goal

pub returns-then-place-len : goal.returns-then-place-len
returns-then-place-len c =
    let within : c.args.n < length c.self.inside.nodes.items = search rules in
    let changed = set_is_changed c.args.n (excluded c.args.incarnation) c.self.inside.nodes.items _ _ within c.index_mut.ensures.value c.exclude.ensures in
    rw (← c.self.view_is, changed) refl

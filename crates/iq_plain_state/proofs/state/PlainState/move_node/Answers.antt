use Rattle.std.proofs.Common.{rules, ◌<◌, length, refl}
use Rattle.iq_replay.specs.State.{moved_to}
use Rattle.iq_plain_state.proofs.Places.{set_is_changed}
use Rattle.iq_plain_state.proofs.state.PlainState.move_node.Goals as goal

pub returns-then-place-len : goal.returns-then-place-len
returns-then-place-len c =
    let within : c.args.n < length c.self.inside.nodes.items = search rules in
    let changed = set_is_changed c.args.n (moved_to c.args.c) c.self.inside.nodes.items _ _ within c.index_mut.ensures.value c.move_to.ensures in
    rw (← c.self.view_is, changed) refl

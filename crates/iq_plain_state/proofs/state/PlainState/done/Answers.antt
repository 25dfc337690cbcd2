use Rattle.std.proofs.Common.{Some, rules, ◌<◌, length, refl}
use Rattle.iq_replay.specs.Changes.{takes_effect}
use Rattle.iq_plain_state.proofs.Places.{set_is_changed}
use Rattle.iq_plain_state.proofs.state.PlainState.done.Goals as goal

pub returns-in_ok-take : goal.returns-in_ok-take
returns-in_ok-take c =
    let within : c.args.s < length c.self.inside.sessions.items = search rules in
    let changed = set_is_changed c.args.s (takes_effect (Some c.args.statement.now) c.args.l) c.self.inside.sessions.items _ _ within c.index_mut.ensures.value c.in_ok-take.ensures in
    rw (← c.self.view_is, changed) refl

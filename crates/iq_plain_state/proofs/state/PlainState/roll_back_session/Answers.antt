use Rattle.std.proofs.Common.{rules, ◌<◌, length, refl}
use Rattle.iq_replay.specs.Changes.{rolls_back}
use Rattle.iq_plain_state.proofs.Places.{set_is_changed}
use Rattle.iq_plain_state.proofs.state.PlainState.roll_back_session.Goals as goal

pub returns-in_ok-roll_back : goal.returns-in_ok-roll_back
returns-in_ok-roll_back c =
    let within : c.args.s < length c.self.inside.sessions.items = search rules in
    let changed = set_is_changed c.args.s (rolls_back c.args.l) c.self.inside.sessions.items _ _ within c.index_mut.ensures.value c.in_ok-roll_back.ensures in
    rw (← c.self.view_is, changed) refl

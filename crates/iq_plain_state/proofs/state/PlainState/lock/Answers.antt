use Rattle.std.proofs.Common.{rules, ◌<◌, length, refl}
use Rattle.iq_replay.specs.Changes.{locks_more}
use Rattle.iq_plain_state.proofs.Places.{set_is_changed}
use Rattle.iq_plain_state.proofs.state.PlainState.lock.Goals as goal

pub returns-in_ok-lock : goal.returns-in_ok-lock
returns-in_ok-lock c =
    let within : c.args.s < length c.self.inside.sessions.items = search rules in
    let changed = set_is_changed c.args.s (locks_more c.args.names.now) c.self.inside.sessions.items _ _ within c.index_mut.ensures.value c.in_ok-lock.ensures in
    rw (← c.self.view_is, changed) refl

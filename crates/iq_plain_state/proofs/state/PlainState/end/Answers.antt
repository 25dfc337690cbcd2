use Rattle.std.proofs.Common.{rules, ◌<◌, length, refl}
use Rattle.iq_replay.specs.Changes.{ends}
use Rattle.iq_plain_state.proofs.Places.{set_is_changed}
use Rattle.iq_plain_state.proofs.state.PlainState.end.Goals as goal

pub returns-in_ok-end : goal.returns-in_ok-end
returns-in_ok-end c =
    let within : c.args.s < length c.self.inside.sessions.items = search rules in
    let changed = set_is_changed c.args.s (ends c.args.l) c.self.inside.sessions.items _ _ within c.index_mut.ensures.value c.in_ok-end.ensures in
    rw (← c.self.view_is, changed) refl

use Rattle.std.proofs.Common.{rules, ◌<◌, length, refl}
use Rattle.iq_replay.specs.Changes.{refused}
use Rattle.iq_plain_state.proofs.Places.{set_is_changed}
use Rattle.iq_plain_state.proofs.state.PlainState.refuse.Goals as goal

pub returns-in_ok-refuse : goal.returns-in_ok-refuse
returns-in_ok-refuse c =
    let within : c.args.s < length c.self.inside.sessions.items = search rules in
    let changed = set_is_changed c.args.s (refused c.args.l c.args.cause) c.self.inside.sessions.items _ _ within c.index_mut.ensures.value c.in_ok-refuse.ensures in
    rw (← c.self.view_is, changed) refl

use Rattle.std.proofs.Common.{rules, ◌<◌, length, refl}
use Rattle.iq_replay.specs.Changes.{commits}
use Rattle.iq_plain_state.proofs.Places.{set_is_changed}
use Rattle.iq_plain_state.proofs.state.PlainState.commit_session.Goals as goal

pub returns-in_ok-commit : goal.returns-in_ok-commit
returns-in_ok-commit c =
    let within : c.args.s < length c.self.inside.sessions.items = search rules in
    let changed = set_is_changed c.args.s (commits c.args.l c.args.c) c.self.inside.sessions.items _ _ within c.index_mut.ensures.value c.in_ok-commit.ensures in
    rw (← c.self.view_is, changed) refl

use Rattle.std.proofs.Common.{rules, ◌<◌, length, refl}
use Rattle.iq_replay.specs.State.{Session}
use Rattle.iq_replay.specs.Changes.{statement_of, begins}
use Rattle.iq_plain_state.proofs.Places.{set_is_changed}
use Rattle.iq_plain_state.proofs.state.PlainState.begin_session.Goals as goal

pub returns-in_ok-begin : goal.returns-in_ok-begin
returns-in_ok-begin c =
    let within : c.args.s < length c.self.inside.sessions.items = search rules in
    let changed = set_is_changed c.args.s (λ (session : Session). begins (statement_of session.left) c.args.l c.args.c c.args.tables.now session) c.self.inside.sessions.items _ _ within c.index_mut.ensures.value c.in_ok-begin.ensures in
    rw (← c.self.view_is, changed) refl

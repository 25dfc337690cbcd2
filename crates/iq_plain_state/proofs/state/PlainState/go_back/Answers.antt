use Rattle.std.proofs.Common.{rules, ◌<◌, length, refl}
use Rattle.iq_model.specs.declared.replies.Said.TheVariants as saids
use Rattle.iq_replay.specs.State.{Session}
use Rattle.iq_replay.specs.Changes.{ends_line, works, back_to}
use Rattle.iq_plain_state.proofs.Places.{set_is_changed}
use Rattle.iq_plain_state.proofs.state.PlainState.go_back.Goals as goal

pub returns-in_ok-go_back : goal.returns-in_ok-go_back
returns-in_ok-go_back c =
    let within : c.args.s < length c.self.inside.sessions.items = search rules in
    let changed = set_is_changed c.args.s (λ (session : Session). ends_line c.args.l (saids.BackTo c.args.name.now) (works (back_to c.args.name.now) session)) c.self.inside.sessions.items _ _ within c.index_mut.ensures.value c.in_ok-go_back.ensures in
    rw (← c.self.view_is, changed) refl

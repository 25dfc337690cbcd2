use Rattle.std.proofs.Common.{rules, ◌<◌, length, refl}
use Rattle.iq_model.specs.declared.replies.Said.TheVariants as saids
use Rattle.iq_replay.specs.State.{Session}
use Rattle.iq_replay.specs.Changes.{ends_line, works, saves_as}
use Rattle.iq_plain_state.proofs.Places.{set_is_changed}
use Rattle.iq_plain_state.proofs.state.PlainState.save.Goals as goal

pub returns-in_ok-save : goal.returns-in_ok-save
returns-in_ok-save c =
    let within : c.args.s < length c.self.inside.sessions.items = search rules in
    let changed = set_is_changed c.args.s (λ (session : Session). ends_line c.args.l (saids.Saved c.args.name.now) (works (saves_as c.args.name.now) session)) c.self.inside.sessions.items _ _ within c.index_mut.ensures.value c.in_ok-save.ensures in
    rw (← c.self.view_is, changed) refl

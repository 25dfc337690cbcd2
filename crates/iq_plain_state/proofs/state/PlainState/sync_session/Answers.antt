use Rattle.std.proofs.Common.{rules, ◌<◌, length, refl}
use Rattle.iq_model.specs.declared.replies.Said.TheVariants as saids
use Rattle.iq_replay.specs.Changes.{ends_line}
use Rattle.iq_plain_state.proofs.Places.{set_is_changed}
use Rattle.iq_plain_state.proofs.state.PlainState.sync_session.Goals as goal

pub returns-in_ok-sync : goal.returns-in_ok-sync
returns-in_ok-sync c =
    let within : c.args.s < length c.self.inside.sessions.items = search rules in
    let changed = set_is_changed c.args.s (ends_line c.args.l (saids.Synced c.args.c)) c.self.inside.sessions.items _ _ within c.index_mut.ensures.value c.in_ok-sync.ensures in
    rw (← c.self.view_is, changed) refl

use Rattle.std.proofs.Common.{rules, ◌<◌, ◌∙◌, length, ap, sym, slice_set}
use Rattle.iq_replay.specs.Changes.{taken_up}
use Rattle.iq_plain_state.proofs.Places.{changed_at_set}
use Rattle.iq_plain_state.proofs.reports.take_up_at.Goals as goal

pub returns-then-place-nodes : goal.returns-then-place-nodes
returns-then-place-nodes c =
    let within : c.args.n < length c.args.nodes.now = search rules in
    let changed = changed_at_set c.args.n (taken_up c.args.floor) c.args.nodes.now c.index-nodes-place.result within in
    sym (changed ∙ ap (slice_set c.args.nodes.now c.args.n) (sym c.take_up.ensures))

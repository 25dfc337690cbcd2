use Rattle.std.proofs.Common.{ap, ◌∙◌, take}
use Rattle.iq_plain_opening.proofs.More.{places_are}
use Rattle.iq_plain_opening.proofs.steps.named.Goals as goal

pub returns : goal.returns
returns c = c.truncate.ensures.items ∙ ap (take c.args.used) (places_are _ _ _ c.block_of.ensures c.in_ok-places.ensures.ok)

use Rattle.std.proofs.Common.{nat_le, rules, tests}
use Rattle.std.proofs.lemmas.Fn.{filter_same}
use Rattle.iq_world.specs.declared.worlds.Reach.{Reach}
use Rattle.iq_world.proofs.reclaim.kept_from.Goals as goal

pub returns : goal.returns
returns c =
    filter_same _ (λ (r : Reach). nat_le c.args.commit r.commit) _ (λ x b f' k. search (rules, tests)) c.args.kept.items _ c.retain.ensures.filtered

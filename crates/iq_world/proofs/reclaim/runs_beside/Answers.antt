use Rattle.std.proofs.Common.{not, rules, tests}
use Rattle.std.proofs.lemmas.Fn.{filter_same}
use Rattle.iq_world.specs.declared.worlds.WorldRun.{WorldRun}
use Rattle.iq_world.specs.World.{runs_on}
use Rattle.iq_world.proofs.reclaim.runs_beside.Goals as goal

pub returns : goal.returns
returns c =
    filter_same _ (λ (r : WorldRun). not (runs_on c.args.node r)) _ (λ x b f' k. search (rules, tests)) c.args.runs.items _ c.retain.ensures.filtered

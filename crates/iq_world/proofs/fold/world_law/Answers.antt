use Rattle.std.proofs.Common.{take, sym, ap, ◌∙◌, arith}
use Rattle.std.proofs.lemmas.List.Sums.{fold_more}
use Rattle.iq_world.specs.declared.worlds.World.{World}
use Rattle.iq_world.specs.Steps.{after, after_all}
use Rattle.iq_world.proofs.Each.{each_step, freed_in_time, keeps_live}
use Rattle.iq_world.proofs.fold.world_law.Goals as goal

pub loop-step-preserved : goal.loop-step-preserved
loop-step-preserved c =
    let i = c.loop-step.step-index in
    let step = c.step-item.result in
    let steps = c.args.steps.now in
    record {
      so_far =
          c.in_ok-world.ensures.after ∙ ap (λ (w : World). after w step) c.loop-step.invariant.so_far
          ∙ ap (after (after_all c.args.first (take i steps))) c.step-item.is ∙ sym (fold_more after c.args.first steps i step (omega arith));
      sound = c.in_ok-world.ensures.sound;
    }

pub returns-in_err-world-clause-each : goal.returns-in_err-world-clause-each
returns-in_err-world-clause-each c = each_step c.args.first c.args.steps.now c.requires

pub returns-in_err-world-clause-in_time : goal.returns-in_err-world-clause-in_time
returns-in_err-world-clause-in_time c = λ b d waits. freed_in_time c.args.first b d c.requires waits

pub returns-in_err-world-clause-live : goal.returns-in_err-world-clause-live
returns-in_err-world-clause-live c = keeps_live c.args.first c.requires

pub returns-clause-each : goal.returns-clause-each
returns-clause-each c = each_step c.args.first c.args.steps.now c.requires

pub returns-clause-in_time : goal.returns-clause-in_time
returns-clause-in_time c = λ b d waits. freed_in_time c.args.first b d c.requires waits

pub returns-clause-live : goal.returns-clause-live
returns-clause-live c = keeps_live c.args.first c.requires

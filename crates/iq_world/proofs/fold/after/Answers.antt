use Rattle.std.proofs.Common.{sym, ◌∙◌}
use Rattle.iq_world.proofs.Each.{changed_sound}
use Rattle.iq_world.proofs.fold.after.Goals as goal

pub returns-in_ok-next-clause-sound : goal.returns-in_ok-next-clause-sound
returns-in_ok-next-clause-sound c =
    changed_sound c.args.world c.in_ok-next.next c.args.step.now c.requires (sym c.allows.ensures ∙ c.if-allows.true) c.in_ok-next.ensures

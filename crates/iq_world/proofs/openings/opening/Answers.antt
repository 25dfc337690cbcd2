use Rattle.std.proofs.Common.{subst, sym}
use Rattle.iq_world.specs.Sound.{IsSound}
use Rattle.iq_world.proofs.Opened.{opening_sound}
use Rattle.iq_world.proofs.openings.opening.Goals as goal

pub returns-clause-sound : goal.returns-clause-sound
returns-clause-sound c =
    subst IsSound (sym c.in_ok-world.ensures) (opening_sound c.args.count c.args.nodes c.args.reached.now c.requires)

use Rattle.std.proofs.Common.{◌≡◌, drop}
use Rattle.iq_world.specs.Space.{reach_of}
use Rattle.iq_world.proofs.space.reach_of.Given as goal

abbrev pub invariant-loop-reach : goal.invariant-loop-reach
invariant-loop-reach l = reach_of (drop l.reach-index l.kept) l.commit ≡ reach_of l.kept l.commit

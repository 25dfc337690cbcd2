use Rattle.std.proofs.Common.{◌≡◌, drop}
use Rattle.iq_floors.specs.Floors.{least}
use Rattle.iq_floors.proofs.floors.least.Given as goal

abbrev pub invariant-loop-other : goal.invariant-loop-other
invariant-loop-other l = least l.low (drop l.other-index l.others) ≡ least l.first l.others

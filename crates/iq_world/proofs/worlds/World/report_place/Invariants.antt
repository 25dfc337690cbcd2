use Rattle.std.proofs.Common.{◌≡◌, ◌+◌, ◌==◌, drop}
use Rattle.std.specs.List.{position_or_len}
use Rattle.iq_world.specs.declared.worlds.Report.{Report}
use Rattle.iq_world.proofs.worlds.World.report_place.Given as goal

abbrev pub invariant-loop-at : goal.invariant-loop-at
invariant-loop-at l = l.at + position_or_len (λ (p : Report). p.number == l.number) (drop l.at l.bag) ≡ position_or_len (λ (p : Report). p.number == l.number) l.bag

use Rattle.std.proofs.Common.{◌≡◌, ◌-◌, ◌≤◌}
use Rattle.iq_world.specs.Space.{dropped_after}
use Rattle.iq_world.proofs.space.dropped_between.Given as goal

abbrev pub invariant-loop-commit : goal.invariant-loop-commit
invariant-loop-commit l = record {
  so_far : l.all.items ≡ dropped_after l.kept l.from (l.commit - l.from);
  within : l.commit - l.from ≤ l.to - l.from;
}

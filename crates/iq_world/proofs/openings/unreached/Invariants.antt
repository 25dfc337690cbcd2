use Rattle.std.proofs.Common.{◌≡◌, ◌-◌, ◌≤◌}
use Rattle.std.specs.List.{range_with_len}
use Rattle.iq_world.specs.World.{without}
use Rattle.iq_world.proofs.openings.unreached.Given as goal

abbrev pub invariant-loop-block : goal.invariant-loop-block
invariant-loop-block l = record {
  so_far : l.free.items ≡ without (range_with_len 4 (l.block - 4)) l.reached;
  within : l.block - 4 ≤ l.count - 4;
}

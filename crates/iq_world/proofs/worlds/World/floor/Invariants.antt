use Rattle.std.proofs.Common.{◌≡◌, take}
use Rattle.std.specs.List.{fold}
use Rattle.iq_world.specs.World.{node_at}
use Rattle.iq_world.proofs.Lows.{lower}
use Rattle.iq_world.proofs.worlds.World.floor.Given as goal

abbrev pub invariant-loop-run : goal.invariant-loop-run
invariant-loop-run l = l.low ≡ fold (lower l.node) (node_at l.self l.node).position (take l.run-index l.self.runs)

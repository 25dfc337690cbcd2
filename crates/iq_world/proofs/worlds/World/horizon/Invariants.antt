use Rattle.std.proofs.Common.{◌≡◌, take}
use Rattle.std.specs.List.{fold}
use Rattle.iq_world.specs.Floors.{floor_of}
use Rattle.iq_world.proofs.Lows.{lower_taken}
use Rattle.iq_world.proofs.worlds.World.horizon.Given as goal

abbrev pub invariant-loop-node : goal.invariant-loop-node
invariant-loop-node l = l.low ≡ fold lower_taken (floor_of l.self 0) (take l.node-index l.node-items)

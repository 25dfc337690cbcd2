use Rattle.std.proofs.Common.{◌≡◌, ◌≤◌, ◌+◌, [], length, map, replicate}
use Rattle.std.specs.List.{All}
use Rattle.iq_base.specs.Shorts.{Name}
use Rattle.iq_roomed.specs.Rooms.{Room}
use Rattle.iq_locks.proofs.lock_table.LockTable.unlocked.Given as goal

abbrev pub invariant-loop : goal.invariant-loop
invariant-loop l = (map (λ (r : Room Name). r.items) l.held.items ≡ replicate l.counter []) × All (λ (r : Room Name). 64 ≤ length r.items + r.room) l.held.items

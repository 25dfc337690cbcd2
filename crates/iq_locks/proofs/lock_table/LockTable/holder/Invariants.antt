use Rattle.std.proofs.Common.{◌≡◌, drop, map}
use Rattle.iq_base.specs.Shorts.{Name}
use Rattle.iq_roomed.specs.Rooms.{Room}
use Rattle.iq_locks.specs.Locked.{holder_from}
use Rattle.iq_locks.proofs.lock_table.LockTable.holder.Given as goal

abbrev pub invariant-loop-place : goal.invariant-loop-place
invariant-loop-place l = holder_from 0 l.self.held l.asks l.name ≡ holder_from l.place (map (λ (r : Room Name). r.items) (drop l.place l.names-items)) l.asks l.name

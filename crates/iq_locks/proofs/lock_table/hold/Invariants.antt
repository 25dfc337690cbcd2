use Rattle.std.proofs.Common.{◌≡◌, ◌≤◌, ◌+◌, ◌++◌, drop, take, length}
use Rattle.iq_locks.specs.Locked.{not_held}
use Rattle.iq_locks.proofs.lock_table.hold.Given as goal

abbrev pub invariant-loop-name : goal.invariant-loop-name
invariant-loop-name l =
    (l.before ≡ length l.fn.held.items)
    × (l.held.items ≡ l.fn.held.items ++ not_held l.fn.held.items (take l.name-index l.names))
    × (length l.fn.held.items + l.fn.held.room ≤ length l.held.items + l.held.room)
    × (length (not_held l.fn.held.items (drop l.name-index l.names)) ≤ l.held.room)

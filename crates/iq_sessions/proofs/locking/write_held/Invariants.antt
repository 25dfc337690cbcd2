use Rattle.std.proofs.Common.{◌≡◌, ◌≤◌, ◌+◌, take}
use Rattle.iq_locks.specs.Locked.{held_at}
use Rattle.iq_sessions.specs.Table.{WritesAll}
use Rattle.iq_sessions.proofs.locking.write_held.Given as goal

abbrev pub invariant-loop-i : goal.invariant-loop-i
invariant-loop-i l = record {
  wrote : WritesAll (take l.i (held_at l.s l.fn.locks.held)) l.c l.fn.locks.wrote l.locks.wrote;
  held : l.locks.held ≡ l.fn.locks.held;
  room : l.fn.locks.room ≤ l.locks.room + l.i;
}

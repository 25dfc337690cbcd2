use Rattle.std.proofs.Common.{◌≡◌, drop}
use Rattle.iq_locks.specs.Locked.{first_of, locked_refusal, wanted}
use Rattle.iq_locks.proofs.lock_table.LockTable.locked_refusal.Given as goal

abbrev pub invariant-loop-name : goal.invariant-loop-name
invariant-loop-name l = first_of (locked_refusal l.self.held l.s) (wanted l.self l.s l.names) ≡ first_of (locked_refusal l.self.held l.s) (wanted l.self l.s (drop l.name-index l.names))

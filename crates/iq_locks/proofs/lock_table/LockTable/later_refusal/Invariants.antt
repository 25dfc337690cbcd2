use Rattle.std.proofs.Common.{◌≡◌, drop}
use Rattle.iq_locks.specs.Locked.{first_of, later_refusal, wanted}
use Rattle.iq_locks.proofs.lock_table.LockTable.later_refusal.Given as goal

abbrev pub invariant-loop-name : goal.invariant-loop-name
invariant-loop-name l = first_of (later_refusal l.self.wrote l.snapshot) (wanted l.self l.s l.names) ≡ first_of (later_refusal l.self.wrote l.snapshot) (wanted l.self l.s (drop l.name-index l.names))

use Rattle.std.proofs.Common.{◌≡◌, ◌++◌, drop, take}
use Rattle.iq_locks.specs.Locked.{with_latest}
use Rattle.iq_locks.proofs.lock_table.put_latest.Given as goal

abbrev pub invariant-loop-at : goal.invariant-loop-at
invariant-loop-at l =
    (l.wrote ≡ l.fn.wrote)
    × (l.row ≡ l.fn.row)
    × (with_latest l.fn.row.name l.fn.row.commit l.fn.wrote.items ≡ take l.at l.fn.wrote.items ++ with_latest l.fn.row.name l.fn.row.commit (drop l.at l.fn.wrote.items))

use Rattle.std.proofs.Common.{◌≡◌, ◌≤◌, length}
use Rattle.iq_txn.specs.Saved.{saves_from}
use Rattle.iq_txn.proofs.savepoints.Savepoints.keep_from.Given as goal

abbrev pub invariant-newer : goal.invariant-newer
invariant-newer l = (saves_from l.name l.self-inside.saves.items ≡ saves_from l.name l.fn.self) × (length l.self-inside.saves.items ≤ 16)

abbrev pub decreases-newer : goal.decreases-newer
decreases-newer l = length l.self-inside.saves.items

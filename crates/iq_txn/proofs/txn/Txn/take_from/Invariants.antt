use Rattle.std.proofs.Common.{◌≡◌, ◌≤◌, drop, take, length}
use Rattle.iq_txn.specs.Txns.{TakesBlocks}
use Rattle.iq_txn.proofs.txn.Txn.take_from.Given as goal

abbrev pub invariant-loop-came : goal.invariant-loop-came
invariant-loop-came l =
    (l.home.count ≡ l.fn.home.count)
    × (l.home.blocks ≡ drop l.came l.fn.home.blocks)
    × (l.came ≤ length l.fn.home.blocks)
    × TakesBlocks (take l.came l.fn.home.blocks) l.fn.self l.self

use Rattle.std.proofs.Common.{arith, ap, ◌≡◌, ◌≤◌, ◌+◌, Bool, not, length}
use Rattle.std.proofs.lemmas.List.Sums.{length-filter, count_by-le-length}
use Rattle.iq_base.specs.Shorts.{Name}
use Rattle.iq_locks.specs.Locked.{has_name, held_at, not_held}
use Rattle.iq_txn_tests.proofs.locks.acquire.Goals as goal

pub acquire-requires-clause-few : goal.acquire-requires-clause-few
acquire-requires-clause-few c =
    let held = held_at c.args.s c.args.table.now.held in
    let other : Name → Bool = λ n. not (has_name held n) in
    let fewer = count_by-le-length other c.args.names.now in
    let counted = length-filter other c.args.names.now in
    omega (arith, fewer, counted, ap length c.held.ensures, c.if-count-gt64.false)

use Rattle.std.proofs.Common.{◌≡◌, ◌++◌, ◌+◌, ◌*◌, drop}
use Rattle.iq_opening.specs.Steps.{indexes_steps}
use Rattle.iq_plain_opening.proofs.steps.push_indexes.Given as goal

abbrev pub invariant-loop-k : goal.invariant-loop-k
invariant-loop-k l =
    l.out ++ indexes_steps l.blocks l.numbers (57 + 55 * l.columns + 62 * l.k) (drop l.k l.indexes)
    ≡ l.fn.out ++ indexes_steps l.blocks l.numbers (57 + 55 * l.columns) l.indexes

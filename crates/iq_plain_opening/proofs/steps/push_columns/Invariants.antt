use Rattle.std.proofs.Common.{◌≡◌, ◌++◌, ◌+◌, ◌*◌, drop}
use Rattle.iq_opening.specs.Steps.{columns_steps}
use Rattle.iq_plain_opening.proofs.steps.push_columns.Given as goal

abbrev pub invariant-loop-k : goal.invariant-loop-k
invariant-loop-k l =
    l.out ++ columns_steps l.blocks l.numbers (57 + 55 * l.k) (drop l.k l.columns) ≡ l.fn.out ++ columns_steps l.blocks l.numbers 57 l.columns

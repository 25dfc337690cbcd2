use Rattle.std.proofs.Common.{◌≡◌, ◌++◌, [], drop}
use Rattle.iq_opening.specs.Tables.{coded}
use Rattle.iq_opening.specs.Steps.{tables_steps}
use Rattle.iq_plain_opening.proofs.steps.tables_steps.Given as goal

abbrev pub invariant-loop-head : goal.invariant-loop-head
invariant-loop-head l =
    l.out ++ tables_steps l.blocks coded l.body l.before (drop l.head-index l.heads) ≡ tables_steps l.blocks coded l.body [] l.heads

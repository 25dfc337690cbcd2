use Rattle.std.proofs.Common.{◌≡◌, ◌++◌, drop}
use Rattle.iq_opening.specs.Steps.{leaves_steps}
use Rattle.iq_plain_opening.proofs.steps.push_leaves.Given as goal

abbrev pub invariant-loop-leaf : goal.invariant-loop-leaf
invariant-loop-leaf l =
    l.out ++ leaves_steps l.blocks l.top l.left (drop l.leaf-index l.leaves) ≡ l.fn.out ++ leaves_steps l.blocks l.top l.pages l.leaves

use Rattle.std.proofs.Common.{drop}
use Rattle.iq_opening.specs.Steps.{high_steps, leaves_steps}
use Rattle.iq_opening.specs.Calls.{Leads}
use Rattle.iq_opening.proofs.objects.reach_high.Given as goal

abbrev pub invariant-loop-leaf : goal.invariant-loop-leaf
invariant-loop-leaf g l =
    Leads g.D.Device (λ all. high_steps all l.holder l.object) (λ all. leaves_steps all l.object.root l.pages (drop l.leaf-index l.leaves))
    l.fn.disk l.disk l.fn.reached l.reached

use Rattle.std.proofs.Common.{drop}
use Rattle.iq_opening.specs.Steps.{leaf_steps, page_steps}
use Rattle.iq_opening.specs.Calls.{Leads}
use Rattle.iq_opening.proofs.objects.reach_leaf.Given as goal

abbrev pub invariant-loop-page : goal.invariant-loop-page
invariant-loop-page g l =
    Leads g.D.Device (λ all. leaf_steps all l.holder l.at l.used) (λ all. page_steps l.at (drop l.page-index l.named))
    l.fn.disk l.disk l.fn.reached l.reached

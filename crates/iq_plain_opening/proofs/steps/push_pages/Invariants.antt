use Rattle.std.proofs.Common.{◌≡◌, ◌++◌, take}
use Rattle.iq_opening.specs.Steps.{page_steps}
use Rattle.iq_plain_opening.proofs.steps.push_pages.Given as goal

abbrev pub invariant-loop-page : goal.invariant-loop-page
invariant-loop-page l = l.out ≡ l.fn.out ++ page_steps l.at (take l.page-index l.pages)

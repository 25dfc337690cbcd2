use Rattle.std.proofs.Common.{◌≡◌, ◌++◌}
use Rattle.iq_catalog.specs.Pages.{zeros}
use Rattle.iq_catalog.proofs.pages.put_zeros.Given as goal

abbrev pub invariant-loop : goal.invariant-loop
invariant-loop l = l.out.items ≡ l.fn.out.items ++ zeros l.counter

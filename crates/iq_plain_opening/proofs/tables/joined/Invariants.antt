use Rattle.std.proofs.Common.{◌≡◌, ◌++◌, drop}
use Rattle.iq_catalog.specs.Pages.{joined}
use Rattle.iq_plain_opening.proofs.tables.joined.Given as goal

abbrev pub invariant-loop-page : goal.invariant-loop-page
invariant-loop-page l = l.bytes.items ++ joined (drop l.page-index l.pages) ≡ joined l.pages

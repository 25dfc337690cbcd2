use Rattle.std.proofs.Common.{sym, ◌∙◌}
use Rattle.iq_opening.specs.Tables.{coded}
use Rattle.iq_descriptors.proofs.SaidLemmas.{said_back}
use Rattle.iq_opening.proofs.Stored.{table_pages, no_table_pages}
use Rattle.iq_opening.proofs.tables.table_of.Goals as goal

pub returns-in-Err-BadCatalog-clause-none : goal.returns-in-Err-BadCatalog-clause-none
returns-in-Err-BadCatalog-clause-none c =
    let none = rw c.in-Err-BadCatalog.field-0-is at c.in-Err-BadCatalog.ensures.err in
    λ _. no_table_pages coded c.args.before.now c.args.more.now c.args.pages.now none

pub returns-then-may_stand-clause-some : goal.returns-then-may_stand-clause-some
returns-then-may_stand-clause-some c = (
  table_pages coded c.args.before.now c.args.more.now c.in-Ok.table c.args.pages.now c.in-Ok.ensures.ok c.in-Ok.ensures.pages
      ∙ (sym c.may_stand.ensures ∙ c.if-may_stand.true),
  sym (said_back c.in-Ok.table c.args.pages.now c.in-Ok.ensures.ok c.in-Ok.ensures.pages),
  c.in-Ok.ensures.ok,
)

pub returns-else-may_stand-clause-none : goal.returns-else-may_stand-clause-none
returns-else-may_stand-clause-none c =
    λ _.
    table_pages coded c.args.before.now c.args.more.now c.in-Ok.table c.args.pages.now c.in-Ok.ensures.ok c.in-Ok.ensures.pages
    ∙ (sym c.may_stand.ensures ∙ c.if-may_stand.false)

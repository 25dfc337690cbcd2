use Rattle.iq_lf.specs.Steps.{Lengthens}
use Rattle.iq_lf.proofs.table.Table.lengthen.Given as goal

abbrev pub invariant-loop : goal.invariant-loop
invariant-loop l = Lengthens l.counter l.fn.self.pages.items l.fn.self.changed.items l.self.pages.items l.self.changed.items

use Rattle.iq_cells.specs.Growing.{GrowTo}
use Rattle.iq_cells.proofs.growing.grow.Given as goal

abbrev pub invariant-loop-c : goal.invariant-loop-c
invariant-loop-c l = GrowTo l.c l.fn.columns.items l.columns.items l.values

use Rattle.std.proofs.Common.{◌≡◌, map, take}
use Rattle.iq_cells.specs.Growing.{no_values}
use Rattle.iq_cells.proofs.growing.no_values.Given as goal

abbrev pub invariant-loop-column : goal.invariant-loop-column
invariant-loop-column l = l.made.items ≡ map no_values (take l.column-index l.columns)

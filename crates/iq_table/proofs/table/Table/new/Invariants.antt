use Rattle.std.proofs.Common.{◌≡◌, map, take}
use Rattle.iq_table.specs.Places.{new_part}
use Rattle.iq_table.proofs.table.Table.new.Given as goal

abbrev pub invariant-loop-column : goal.invariant-loop-column
invariant-loop-column l = l.parts.items ≡ map new_part (take l.column-index l.columns)

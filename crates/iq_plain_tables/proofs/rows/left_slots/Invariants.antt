use Rattle.std.proofs.Common.{◌≡◌, map, take}
use Rattle.iq_statements.specs.Effects.{without_row}
use Rattle.iq_plain_tables.proofs.rows.left_slots.Given as goal

abbrev pub invariant-loop-slot : goal.invariant-loop-slot
invariant-loop-slot l = l.left ≡ map (without_row l.columns l.cond) (take l.slot-index l.slots)

use Rattle.std.proofs.Common.{◌≡◌, map, take}
use Rattle.iq_statements.specs.Effects.{changed_row}
use Rattle.iq_plain_tables.proofs.rows.new_forms.Given as goal

abbrev pub invariant-loop-row : goal.invariant-loop-row
invariant-loop-row l = l.forms ≡ map (changed_row l.columns l.changes) (take l.row-index l.rows)

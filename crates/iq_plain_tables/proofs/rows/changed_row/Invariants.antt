use Rattle.std.proofs.Common.{◌≡◌, drop}
use Rattle.iq_statements.specs.Effects.{changed_row}
use Rattle.iq_plain_tables.proofs.rows.changed_row.Given as goal

abbrev pub invariant-loop-change : goal.invariant-loop-change
invariant-loop-change l = changed_row l.columns (drop l.change-index l.changes) l.form ≡ changed_row l.columns l.changes l.fn.row

use Rattle.std.proofs.Common.{◌≡◌, drop}
use Rattle.iq_catalog.specs.Storable.{is_among, column_names}
use Rattle.iq_catalog.proofs.storable.has_column.Given as goal

abbrev pub invariant-loop-column : goal.invariant-loop-column
invariant-loop-column l = is_among (column_names (drop l.column-index l.columns)) l.name ≡ is_among (column_names l.columns) l.name

use Rattle.std.proofs.Common.{◌≡◌, drop}
use Rattle.iq_catalog.specs.Storable.{are_columns}
use Rattle.iq_catalog.proofs.storable.are_columns.Given as goal

abbrev pub invariant-loop-column : goal.invariant-loop-column
invariant-loop-column l = are_columns (drop l.column-index l.columns) ≡ are_columns l.columns

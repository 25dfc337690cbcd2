use Rattle.std.proofs.Common.{◌≡◌, drop}
use Rattle.iq_catalog.specs.Storable.{are_distinct, column_names}
use Rattle.iq_catalog.proofs.storable.differ_in_columns.Given as goal

abbrev pub invariant-loop-k : goal.invariant-loop-k
invariant-loop-k l = are_distinct (column_names (drop l.k l.columns)) ≡ are_distinct (column_names l.columns)

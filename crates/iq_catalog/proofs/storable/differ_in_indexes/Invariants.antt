use Rattle.std.proofs.Common.{◌≡◌, drop}
use Rattle.iq_catalog.specs.Storable.{are_distinct, index_names}
use Rattle.iq_catalog.proofs.storable.differ_in_indexes.Given as goal

abbrev pub invariant-loop-k : goal.invariant-loop-k
invariant-loop-k l = are_distinct (index_names (drop l.k l.indexes)) ≡ are_distinct (index_names l.indexes)

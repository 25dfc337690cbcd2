use Rattle.std.proofs.Common.{◌≡◌, drop}
use Rattle.iq_catalog.specs.Storable.{are_indexes}
use Rattle.iq_catalog.proofs.storable.are_indexes.Given as goal

abbrev pub invariant-loop-index : goal.invariant-loop-index
invariant-loop-index l = are_indexes l.count (drop l.index-index l.indexes) ≡ are_indexes l.count l.indexes

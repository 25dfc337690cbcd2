use Rattle.std.proofs.Common.{◌≡◌, drop}
use Rattle.iq_catalog.specs.Storable.{is_among, index_names}
use Rattle.iq_catalog.proofs.storable.has_index.Given as goal

abbrev pub invariant-loop-index : goal.invariant-loop-index
invariant-loop-index l = is_among (index_names (drop l.index-index l.indexes)) l.name ≡ is_among (index_names l.indexes) l.name

use Rattle.std.proofs.Common.{◌≡◌, drop}
use Rattle.iq_catalog.specs.Sizes.{indexes_fit}
use Rattle.iq_catalog.proofs.sizes.indexes_fit.Given as goal

abbrev pub invariant-loop-index : goal.invariant-loop-index
invariant-loop-index l = indexes_fit l.slots l.columns (drop l.index-index l.indexes) ≡ indexes_fit l.slots l.columns l.indexes

use Rattle.std.proofs.Common.{◌≡◌, drop}
use Rattle.iq_catalog.specs.Sizes.{columns_fit}
use Rattle.iq_catalog.proofs.sizes.columns_fit.Given as goal

abbrev pub invariant-loop-column : goal.invariant-loop-column
invariant-loop-column l = columns_fit l.slots (drop l.column-index l.columns) ≡ columns_fit l.slots l.columns

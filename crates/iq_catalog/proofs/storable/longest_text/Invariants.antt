use Rattle.std.proofs.Common.{◌≡◌, max, drop}
use Rattle.iq_catalog.specs.Storable.{longest_text}
use Rattle.iq_catalog.proofs.storable.longest_text.Given as goal

abbrev pub invariant-loop-column : goal.invariant-loop-column
invariant-loop-column l = max l.most (longest_text (drop l.column-index l.columns)) ≡ longest_text l.columns

use Rattle.std.proofs.Common.{◌≡◌, drop}
use Rattle.iq_table.specs.Limits.{has_low_fast}
use Rattle.iq_table.proofs.limits.has_low_fast.Given as goal

abbrev pub invariant-loop-index : goal.invariant-loop-index
invariant-loop-index l = has_low_fast (drop l.index-index l.indexes) ≡ has_low_fast l.indexes

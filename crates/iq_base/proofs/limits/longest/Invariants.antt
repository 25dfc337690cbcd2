use Rattle.std.proofs.Common.{◌≡◌, max, drop}
use Rattle.iq_base.specs.Limits.{longest}
use Rattle.iq_base.proofs.limits.longest.Given as goal

abbrev pub invariant-loop-column : goal.invariant-loop-column
invariant-loop-column l = max l.most (longest (drop l.column-index l.columns)) ≡ longest l.columns

use Rattle.std.proofs.Common.{length}
use denote.Text.{Utf8}
use denote.Shadow.{shadow}
use Rattle.iq_literals.proofs.values.ValueCursor.print.Given as goal

abbrev pub invariant-values : goal.invariant-values
invariant-values g l = shadow (Utf8 l.between)

abbrev pub decreases-values : goal.decreases-values
decreases-values g l = length l.self

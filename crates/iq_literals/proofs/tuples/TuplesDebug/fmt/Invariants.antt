use Rattle.std.proofs.Common.{length}
use denote.Text.{Utf8}
use denote.Shadow.{shadow}
use Rattle.iq_literals.proofs.tuples.TuplesDebug.fmt.Given as goal

abbrev pub invariant-rows : goal.invariant-rows
invariant-rows g l = shadow (Utf8 l.between)

abbrev pub decreases-rows : goal.decreases-rows
decreases-rows g l = length l.rest

use Rattle.std.proofs.Common.{◌≡◌, map, take}
use Rattle.iq_lf.specs.Calls.{is_equal}
use Rattle.iq_lf.proofs.finding.equals_of.Given as goal

abbrev pub invariant-loop-i : goal.invariant-loop-i
invariant-loop-i l = l.hits.items ≡ map (is_equal l.value) (take l.i l.known.values)

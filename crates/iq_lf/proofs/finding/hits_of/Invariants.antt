use Rattle.std.proofs.Common.{◌≡◌, map, take}
use Rattle.iq_fp.specs.Scans.{is_hit}
use Rattle.iq_lf.proofs.finding.hits_of.Given as goal

abbrev pub invariant-loop-i : goal.invariant-loop-i
invariant-loop-i l = l.hits.items ≡ map (is_hit l.side l.test) (take l.i l.known.values)

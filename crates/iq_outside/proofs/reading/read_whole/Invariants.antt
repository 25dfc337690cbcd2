use Rattle.std.proofs.Common.{◌≡◌, ◌<◌, ◌≤◌, ◌-◌, vec_len}
use Rattle.iq_outside.specs.Streams.{Takes}
use Rattle.iq_outside.proofs.reading.read_whole.Given as goal

abbrev pub invariant-reading : goal.invariant-reading
invariant-reading g l = record {
  some : 0 < vec_len l.piece;
  short : vec_len l.whole ≤ l.most;
  taken : Takes l.whole.items (g.I.Source.left l.fn.source) (g.I.Source.left l.source);
  calm : g.I.Source.faults l.source ≡ g.I.Source.faults l.fn.source;
}

abbrev pub decreases-reading : goal.decreases-reading
decreases-reading g l = l.most - vec_len l.whole

use Rattle.std.proofs.Common.{◌≡◌, map}
use Rattle.std.specs.List.{range_with_len}
use Rattle.iq_hng.specs.Keys.{bits_of}
use Rattle.iq_hng.specs.Slices.{plane_of}
use Rattle.iq_hng.proofs.planes.planes.Given as goal

abbrev pub invariant-loop-j : goal.invariant-loop-j
invariant-loop-j l = record {
  planes : l.made.items ≡ map (plane_of (bits_of l.fn.width) l.fn.numbers.values) (range_with_len 0 l.j);
}

-- The lanes sum up to the set bits of the words before `at`.
use Rattle.std.proofs.Common.{◌-◌, ◌%◌, ◌≡◌, ◌≤◌, length, take, sum_by, count_ones}
use Rattle.std.specs.Simd.Lanes.{sum_l}
use Rattle.iq_bitmap.proofs.ones.ones_by_lanes.Given as goal

abbrev pub invariant-lanes : goal.invariant-lanes
invariant-lanes l = record {
  within : l.at ≤ length l.words;
  whole : l.at % 4 ≡ 0;
  summed : sum_l l.sums ≡ sum_by count_ones (take l.at l.words);
}

abbrev pub decreases-lanes : goal.decreases-lanes
decreases-lanes l = length l.words - l.at

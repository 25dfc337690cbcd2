use Rattle.std.proofs.Common.{ℕ, ◌+◌, sum_by, count_ones, sym, ap, ◌∙◌, arith}
use Rattle.std.specs.Simd.Lanes.{chunk}
use Rattle.iq_bitmap.proofs.LaneSums.{sum_more, take_few}
use Rattle.iq_bitmap.proofs.ones.ones_by_lanes.Goals as goal

pub with_ones-sums-requires-clause-room : goal.with_ones-sums-requires-clause-room
with_ones-sums-requires-clause-room c = omega (arith, c.lanes.invariant.summed, take_few c.lanes.at c.args.words.now (λ k. (c.type_inv.words k).fits), c.requires.short)

pub lanes-preserved : goal.lanes-preserved
lanes-preserved c = record {
  within = omega arith;
  whole = omega arith;
  summed = c.with_ones-sums.ensures ∙ ap (λ (k : ℕ). k + sum_by count_ones (chunk c.lanes.at 4 c.args.words.now)) c.lanes.invariant.summed
      ∙ sym (sum_more count_ones c.lanes.at 4 c.args.words.now);
}

pub sum_of-requires : goal.sum_of-requires
sum_of-requires c = omega (arith, c.lanes.invariant.summed, take_few c.lanes.at c.args.words.now (λ k. (c.type_inv.words k).fits), c.requires.short)

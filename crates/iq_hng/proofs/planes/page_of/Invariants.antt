use Rattle.std.proofs.Common.{◌≡◌, ◌<◌, ◌+◌, ◌*◌, ℕ, None, length, slice_index_or}
use Rattle.iq_bitmap.specs.Bits.{bit_of}
use Rattle.iq_hng.specs.Keys.{plane_bit}
use Rattle.iq_hng.proofs.planes.page_of.Given as goal

abbrev pub invariant-loop-at : goal.invariant-loop-at
invariant-loop-at l = record {
  long : length l.page ≡ 1008;
  bits : (i : ℕ) → i < l.at * 8 → bit_of 8 l.page i ≡ plane_bit l.j (slice_index_or l.keys (l.from + i) None);
}

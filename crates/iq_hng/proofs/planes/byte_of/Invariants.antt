use Rattle.std.proofs.Common.{◌≡◌, ◌==◌, ◌<◌, ◌≤◌, ◌+◌, ℕ, None, false, slice_index_or}
use Rattle.std.specs.Int.{bit_at}
use Rattle.iq_hng.specs.Keys.{plane_bit}
use Rattle.iq_hng.proofs.planes.byte_of.Given as goal

abbrev pub invariant-loop-r : goal.invariant-loop-r
invariant-loop-r l = record {
  low : (i : ℕ) → i < l.r → (bit_at l.byte i == 1) ≡ plane_bit l.j (slice_index_or l.keys (l.from + i) None);
  high : (i : ℕ) → l.r ≤ i → (bit_at l.byte i == 1) ≡ false;
}

use Rattle.std.proofs.Common.{◌≡◌, ◌<◌, ◌*◌, ℕ, false, None, length, slice_index_or}
use Rattle.iq_hng.specs.Keys.{plane_bit}
use Rattle.iq_hng.proofs.planes.plane.Given as goal

abbrev pub invariant-loop-chunk : goal.invariant-loop-chunk
invariant-loop-chunk l = record {
  count : l.count ≡ length l.keys;
  long : length l.ones ≡ length l.keys;
  rows : (i : ℕ) → i < l.chunk * 8064 → i < length l.ones → slice_index_or l.ones i false ≡ plane_bit l.j (slice_index_or l.keys i None);
}

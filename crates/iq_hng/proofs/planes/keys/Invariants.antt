use Rattle.std.proofs.Common.{◌≡◌, ◌<◌, ℕ, map, take}
use Rattle.iq_cells.specs.Packed.{value_at}
use Rattle.iq_hng.specs.Keys.{IsSlice, bits_of, key_of}
use Rattle.iq_hng.proofs.planes.keys.Given as goal

abbrev pub invariant-loop-i : goal.invariant-loop-i
invariant-loop-i l = record {
  keys : l.keys.items ≡ map (key_of (bits_of l.width)) (take l.i l.numbers.values);
  slices : (i : ℕ) → i < l.i → IsSlice (bits_of l.width) (value_at i l.numbers.values);
}

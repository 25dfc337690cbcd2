use Rattle.std.proofs.Common.{◌≡◌, ◌<◌, ℕ, false, length, slice_index_or}
use Rattle.iq_cells.specs.Packed.{value_at}
use Rattle.iq_truth.specs.declared.truth.Side.TheVariants as sides
use Rattle.iq_cmp.specs.Relations.{is_pair}
use Rattle.iq_cmp.proofs.cmp.pairs.Given as goal

abbrev pub invariant-loop-row : goal.invariant-loop-row
invariant-loop-row l = record {
  long : length l.bits ≡ l.count;
  rows : (i : ℕ) → i < l.row → slice_index_or l.bits i false ≡ is_pair sides.True l.op (value_at i l.first.values) (value_at i l.second.values);
}

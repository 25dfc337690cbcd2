use Rattle.std.proofs.Common.{◌≡◌, ◌<◌, ℕ, false, length, slice_index_or}
use Rattle.iq_fp.proofs.Pairs.{paired}
use Rattle.iq_fp.proofs.pairing.pairs.Given as goal

abbrev pub invariant-loop-row : goal.invariant-loop-row
invariant-loop-row l = record {
  long : length l.bits ≡ l.count;
  rows : (i : ℕ) → i < l.row → slice_index_or l.bits i false ≡ paired l.side l.op l.left.known.values l.left.codes.items l.right.known.values l.right.codes.items i;
}

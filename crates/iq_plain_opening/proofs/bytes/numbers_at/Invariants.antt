use Rattle.std.proofs.Common.{◌≡◌, ◌++◌, ◌+◌, ◌*◌, ◌-◌, length}
use Rattle.iq_block_store.specs.Frames.{numbers_at}
use Rattle.iq_plain_opening.proofs.bytes.numbers_at.Given as goal

abbrev pub invariant-loop-k : goal.invariant-loop-k
invariant-loop-k l = record {
  made : l.numbers.items ++ numbers_at l.bytes (l.i + 4 * l.k) (l.count - l.k) ≡ numbers_at l.bytes l.i l.count;
  count : length l.numbers.items ≡ l.k;
}

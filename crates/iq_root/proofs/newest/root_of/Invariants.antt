use Rattle.std.proofs.Common.{◌≡◌, ◌+◌, ◌-◌, ◌*◌, ◌++◌, length}
use Rattle.iq_block_store.specs.Frames.{number_at, numbers_at}
use Rattle.iq_root.proofs.newest.root_of.Given as goal

abbrev pub invariant-loop-k : goal.invariant-loop-k
invariant-loop-k l = record {
  size : length l.tables ≡ l.k;
  goes_on : l.tables ++ numbers_at l.body (36 + 4 * l.k) (number_at l.body 32 - l.k) ≡ numbers_at l.body 36 (number_at l.body 32);
}

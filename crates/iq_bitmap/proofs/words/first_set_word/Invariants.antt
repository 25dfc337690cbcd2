-- The words before k are passed: they have no bit.
use Rattle.std.proofs.Common.{◌*◌}
use Rattle.iq_bitmap.proofs.FirstBit.{NoneBetween}
use Rattle.iq_bitmap.proofs.words.first_set_word.Given as goal

abbrev pub invariant-loop-k : goal.invariant-loop-k
invariant-loop-k l = NoneBetween l.words (l.at * 64) (l.k * 64)

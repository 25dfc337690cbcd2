-- The words before k are filled.
use Rattle.iq_bitmap.specs.Words.{IsFilled}
use Rattle.iq_bitmap.proofs.words.fill_words.Given as goal

abbrev pub invariant-loop-k : goal.invariant-loop-k
invariant-loop-k l = IsFilled l.fn.words l.words l.k

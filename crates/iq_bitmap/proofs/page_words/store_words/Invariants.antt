-- The bytes of the first k words stand.
use Rattle.std.proofs.Common.{◌*◌}
use Rattle.iq_bitmap.proofs.PageBytes.{HasBytes}
use Rattle.iq_bitmap.proofs.page_words.store_words.Given as goal

abbrev pub invariant-loop-k : goal.invariant-loop-k
invariant-loop-k l = HasBytes l.words l.at l.page (l.k * 8)

use Rattle.std.proofs.Common.{arith}
use Rattle.iq_bitmap.proofs.Filled.{below_set, others_kept, filled_bit}
use Rattle.iq_bitmap.proofs.words.fill_below.Goals as goal

pub returns-then-end-ne0-clause-below : goal.returns-then-end-ne0-clause-below
returns-then-end-ne0-clause-below c = λ i h. below_set c.args.words.now c.fill_words.new.words c.args.end i c.fill_words.ensures (omega arith) h

pub returns-then-end-ne0-clause-others : goal.returns-then-end-ne0-clause-others
returns-then-end-ne0-clause-others c = λ i h. others_kept c.args.words.now c.fill_words.new.words c.args.end i c.fill_words.ensures (omega arith) h

pub returns-else-end-ne0-clause-below : goal.returns-else-end-ne0-clause-below
returns-else-end-ne0-clause-below c = λ i h. filled_bit c.args.words.now c.fill_words.new.words _ i c.fill_words.ensures (omega arith)

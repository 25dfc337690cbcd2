use Rattle.std.proofs.Common.{arith}
use Rattle.iq_bitmap.proofs.Chunks.{page_held}
use Rattle.iq_bitmap.proofs.page_words.load_bits.Goals as goal

pub returns : goal.returns
returns c = page_held c.args.words.now c.load_words.new.words c.trim.new.words c.args.at c.args.len c.args.page.now (omega arith) c.load_words.ensures c.trim.ensures.before c.trim.ensures.past

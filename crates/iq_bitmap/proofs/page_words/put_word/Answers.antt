use Rattle.std.proofs.Common.{◌+◌, ◌-◌, ◌∙◌, arith}
use Rattle.iq_bitmap.proofs.PageBytes.{put_mid_is}
use Rattle.iq_bitmap.proofs.page_words.put_word.Goals as goal

pub returns : goal.returns
returns c = put_mid_is c.args.at (c.args.at + 8 - c.args.at) c.args.page.now c.copy_from_slice.new.self _ (c.copy_from_slice.ensures.after ∙ c.to_le_bytes.ensures) (omega arith) (omega arith)

use Rattle.iq_bitmap.proofs.Trimmed.{trim_before, trim_past}
use Rattle.iq_bitmap.proofs.page_words.trim.Goals as goal

pub returns-then-len-ne0-clause-before : goal.returns-then-len-ne0-clause-before
returns-then-len-ne0-clause-before c = λ i h. trim_before c.args.words.now c.args.len i c.requires h

pub returns-then-len-ne0-clause-past : goal.returns-then-len-ne0-clause-past
returns-then-len-ne0-clause-past c = λ i h. trim_past c.args.words.now c.args.len i c.requires h

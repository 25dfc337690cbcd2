use Rattle.std.proofs.Common.{length, sym, ap, ◌∙◌}
use Rattle.iq_bitmap.proofs.BitLists.{length-bits_of}
use Rattle.iq_bitmap.proofs.bitmap.Bitmap.len.Goals as goal

pub returns : goal.returns
returns c = sym (length-bits_of 64 c.self.inside.words.items c.self.inside.len) ∙ ap length c.self.view_is

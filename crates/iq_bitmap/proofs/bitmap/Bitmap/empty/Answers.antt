use Rattle.std.proofs.Common.{ℕ, List, ap, ◌∙◌}
use Rattle.iq_bitmap.specs.Bits.{bits_of}
use Rattle.iq_bitmap.proofs.BitLists.{bits_of-zeros}
use Rattle.iq_bitmap.proofs.bitmap.Bitmap.empty.Goals as goal

pub returns : goal.returns
returns c = ap (λ (ws : List ℕ). bits_of 64 ws c.args.len) (c.in_ok-words.ensures.items_if_clones_equal (λ y e. e)) ∙ bits_of-zeros 64 c.div_ceil-count.result c.args.len

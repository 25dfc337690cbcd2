use Rattle.std.proofs.Common.{w64}
use Rattle.std.proofs.lemmas.Simd.{adds_fit}
use Rattle.iq_bitmap.proofs.ones.added.Goals as goal

pub overflow_add-result : goal.overflow_add-result
overflow_add-result c = adds_fit w64 c.args.sums c.args.ones c.requires

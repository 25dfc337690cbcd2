use Rattle.std.proofs.Common.{w64, ◌∙◌, zero-add, arith}
use Rattle.std.proofs.lemmas.Simd.{sum_fits, fold-sum}
use Rattle.std.specs.Simd.Lanes.{sum_l}
use Rattle.iq_bitmap.proofs.ones.sum_of.Goals as goal

pub overflow_add-result : goal.overflow_add-result
overflow_add-result c = sum_fits w64 0 c.args.lanes (omega (arith, c.requires))

pub returns : goal.returns
returns c = fold-sum 0 c.args.lanes ∙ zero-add (sum_l c.args.lanes)

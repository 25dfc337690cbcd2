use Rattle.std.proofs.Common.{ℕ, List, ◌+◌, count_ones, ap, ◌∙◌, arith}
use Rattle.std.specs.Simd.Lanes.{zip2, chunk, sum_l}
use Rattle.iq_bitmap.proofs.LaneSums.{sum_l-map, lanes_added, chunk_few}
use Rattle.iq_bitmap.proofs.ones.with_ones.Goals as goal

pub added-requires : goal.added-requires
added-requires c =
    let ones = ap sum_l c.ones_in.ensures ∙ sum_l-map count_ones (chunk c.args.at 4 c.args.words.now) in
    omega (arith, ones, chunk_few c.args.at 4 c.args.words.now (λ k. (c.type_inv.words k).fits), c.requires.short, c.requires.room)

pub returns : goal.returns
returns c =
    ap sum_l c.added.ensures ∙ ap (λ (ones : List ℕ). sum_l (zip2 (λ (a b : ℕ). a + b) c.args.sums ones)) c.ones_in.ensures
    ∙ lanes_added count_ones c.args.at 4 c.args.words.now c.args.sums c.requires.within (omega arith)
